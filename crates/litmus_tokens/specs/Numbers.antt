-- Numbers, which a text may have of any size: a word has to have room for each. Negative ones and hexadecimal ones are of the larger
-- set alone.
use Rattle.std.specs.Prelude.{ℕ, ◌-◌, ◌%◌, ◌^◌, nat_lt, if◌then◌else◌, List, Result}
use Rattle.std.specs.Str.Parse.{digits_value}
use Rattle.litmus_tokens.specs.Terms.{word_of}
use Rattle.litmus_tokens.specs.declared.fault.Why.TheVariants.{BadNumber}
use Rattle.litmus_tokens.specs.declared.fault.Fault.{Fault}
use Rattle.litmus_tokens.specs.Faults.{or_fault}
use Rattle.litmus_tokens.specs.Places.{fault}

-- the number that digits say in base sixteen
abbrev pub hexadecimal_value : List ℕ → ℕ
hexadecimal_value digits = digits_value 16 digits

-- a negative number as a word, modulo 2^32; below -2^31 a number for which no word has room
abbrev pub negative : ℕ → ℕ
negative n = if nat_lt 2147483648 n then 2 ^ 32 else (2 ^ 32 - n) % 2 ^ 32

-- a number for which a word has room
abbrev pub word_at : ℕ → ℕ → Result ℕ Fault
word_at remaining n = or_fault (word_of n) (fault BadNumber remaining)
