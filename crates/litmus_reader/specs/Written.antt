-- A test as it is written: locations by their names, cores by their digits, numbers of any size.
use Rattle.std.specs.Prelude.{ℕ, List, Option, Bool}
use Rattle.litmus_reader.specs.Vocabulary.{Quantifier, Reg, Shape}

-- A register's or a location's value, of any size. The core is its digits, without leading zeros.
pub data Setting : Type 0 where
  of_register : (core : List ℕ) → (reg : Reg) → (value : ℕ) → Setting
  of_location : (name : List ℕ) → (value : ℕ) → Setting

-- a proposition as it is spelled: a location is its name, a core its digits, and a number of any size
pub data Phrase : Type 0 where
  truth : Bool → Phrase
  atom : Setting → Phrase
  negation : Phrase → Phrase
  both either : Phrase → Phrase → Phrase

-- a condition as it is written
pub record WrittenCondition : Type 0 where
  pub quantifier : Quantifier
  pub phrase : Phrase

-- a test as it is written: locations by their names, cores by their digits, numbers of any size
pub record Written : Type 0 where
  pub name : List ℕ
  pub settings : List Setting
  pub cores : ℕ
  pub table : List (List (Option Shape))
  pub asked : Option WrittenCondition
