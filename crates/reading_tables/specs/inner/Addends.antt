-- What is added to what a read returns, by what was made.
use Rattle.std.specs.Prelude.{ℕ, Option, Some, None, if◌then◌else◌}
use Rattle.tso_terms.specs.Thread.{difference_of}
use Rattle.basic_laws.specs.Types.{Entry, Operator, Add, And, Or, Subtract, Xor}
use Rattle.refutation_laws.specs.Known.{same_event}
use Rattle.reading_tables.specs.declared.expressions.Making.{Making}
use Rattle.reading_tables.specs.declared.expressions.Held.TheVariants.{Number, Returned}
use Rattle.reading_tables.specs.declared.expressions.Making.TheVariants.{Combined}

-- what an operator with this number adds, modulo 2^32
abbrev pub addend_by : Operator → ℕ → Option ℕ
addend_by Add number = Some number
addend_by Subtract number = Some (difference_of 0 number)
addend_by And number = None
addend_by Or number = None
addend_by Xor number = None

abbrev pub made_addend : Entry → Making → Option ℕ
made_addend own (Combined operator (Returned read) (Number number)) = if same_event read own then addend_by operator number else None
made_addend own _ = None
