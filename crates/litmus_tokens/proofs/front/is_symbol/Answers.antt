use Rattle.std.proofs.Common.{◌∙◌, rules}
use Rattle.litmus_tokens.specs.Front.{is_symbol}
use Rattle.litmus_tokens.proofs.Symbols.{same_spelling}
use Rattle.litmus_tokens.proofs.front.is_symbol.Goals as goal

pub returns-in-Symbol : goal.returns-in-Symbol
unfolding is_symbol
returns-in-Symbol c = rw (c.eq.ensures, c.in-Symbol.is) (Prim.search rules ∙ same_spelling c.args.symbol c.in-Symbol.other)
