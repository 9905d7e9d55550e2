use Rattle.std.proofs.Common.{◌∙◌}
use Rattle.hints.proofs.Printed.{words_are_text, is_hint}
use Rattle.hints.proofs.printing.printed.Goals as goal

pub string_of-requires : goal.string_of-requires
string_of-requires c = words_are_text c.args.words.now _ (c.deref.ensures.value ∙ c.in_ok-words.ensures)

pub returns : goal.returns
returns c = is_hint c.args.words.now _ _ (c.in_ok-words-2.ensures ∙ c.deref.ensures.value ∙ c.in_ok-words.ensures) c.in_ok-format.ensures.ok
