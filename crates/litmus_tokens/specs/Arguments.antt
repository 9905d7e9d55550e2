-- Operands of instructions: a register, a number after `$`, or a location in brackets.
use Rattle.std.specs.Prelude.{ℕ, List, [], ◌∷◌, Option, Some, None}
use Rattle.tso_terms.specs.declared.register.Reg.{Reg}
use Rattle.litmus_tokens.specs.declared.token.Symbol.TheVariants.{OpenSquare, CloseSquare, Comma, Dollar}
use Rattle.litmus_tokens.specs.Pieces.{Piece}
use Rattle.litmus_tokens.specs.Front.{symbol_at, numeral_at}
use Rattle.litmus_tokens.specs.Faults.{there}
use Rattle.litmus_tokens.specs.Names.{location_at, register_at}

-- an operand without where its name lies in memory; a number of any size
pub data ArgumentTerm : Type 0 where
  in_memory : List ℕ → ArgumentTerm
  in_register : Reg → ArgumentTerm
  constant : ℕ → ArgumentTerm

abbrev pub as_constant : ℕ × List Piece → Option (ArgumentTerm × List Piece)
as_constant found = Some (constant found.0, found.1)

-- `x]`, after its `[`
abbrev pub memory_at : List Piece → Option (ArgumentTerm × List Piece)
memory_at ps = there (location_at ps) (λ x. there (symbol_at CloseSquare x.1) (λ rest. Some (in_memory x.0, rest)) None) None

-- `v`, `$v`, `[x]` or `REG` at the front, and what comes after it
unfoldable pub argument_at : List Piece → Option (ArgumentTerm × List Piece)
argument_at ps =
    there (numeral_at ps) as_constant
    (there (symbol_at Dollar ps) (λ rest. there (numeral_at rest) as_constant None)
    (there (symbol_at OpenSquare ps) memory_at
    (there (register_at ps) (λ reg. Some (in_register reg.0, reg.1)) None)))

-- both operands, if nothing more comes after the second
abbrev pub if_last : ArgumentTerm → ArgumentTerm × List Piece → Option (ArgumentTerm × ArgumentTerm)
if_last first (second, []) = Some (first, second)
if_last first (second, p ∷ ps) = None

-- one operand, if nothing more stands after it
abbrev pub if_alone : ArgumentTerm × List Piece → Option ArgumentTerm
if_alone (only, []) = Some only
if_alone (only, p ∷ ps) = None

unfoldable pub one_argument : List Piece → Option ArgumentTerm
one_argument ps = there (argument_at ps) if_alone None

-- two operands with a comma between them, and nothing more
unfoldable pub two_arguments : List Piece → Option (ArgumentTerm × ArgumentTerm)
two_arguments ps =
    there (argument_at ps) (λ first. there (symbol_at Comma first.1) (λ rest. there (argument_at rest) (if_last first.0) None) None) None
