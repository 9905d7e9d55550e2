-- The token of a word: what a lexeme of the code says, without where it lies in memory.
use Rattle.litmus_tokens.specs.declared.token.Lexeme.{Lexeme}
use Rattle.litmus_tokens.specs.Terms.{Term, name, number, hexadecimal, symbol}
use Rattle.litmus_tokens.specs.declared.token.Lexeme.TheVariants as code

-- what a lexeme of the code says
abbrev pub term_of : Lexeme → Term
term_of (code.Number digits) = number digits.now
term_of (code.Hexadecimal digits) = hexadecimal digits.now
term_of (code.Name bytes) = name bytes.now
term_of (code.Symbol s) = symbol s
