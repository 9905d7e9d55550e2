-- Which tokens spell which item of the initial state. The atoms of a condition have the same three forms. (This
-- project's profile.)
use Rattle.std.specs.Prelude.{◌≡◌, ℕ, List, ◌∷◌, Some, IsTrue}
use Rattle.litmus_reader.specs.Vocabulary.{CloseSquare, Colon, Equals, is_location_name, OpenSquare, Reg, register_named}
use Rattle.litmus_tokens.specs.Terms.{Term, number, name, symbol}
use Rattle.litmus_reader.specs.GrammarNumerals.{IsNumeral}
use Rattle.litmus_reader.specs.Written.{Setting, of_register, of_location}

pub data IsSetting : List Term → Setting → Type 0 where
  -- `c:REG=v`
  sets_register : (core word : List ℕ) (reg : Reg) (v : List Term) (value : ℕ) → register_named word ≡ Some reg → IsNumeral v value
      → IsSetting (number core ∷ symbol Colon ∷ name word ∷ symbol Equals ∷ v) (of_register core reg value)
  -- `x=v`
  sets_location : (x : List ℕ) (v : List Term) (value : ℕ) → IsTrue (is_location_name x) → IsNumeral v value
      → IsSetting (name x ∷ symbol Equals ∷ v) (of_location x value)
  -- `[x]=v`
  sets_in_squares : (x : List ℕ) (v : List Term) (value : ℕ) → IsTrue (is_location_name x) → IsNumeral v value
      → IsSetting (symbol OpenSquare ∷ name x ∷ symbol CloseSquare ∷ symbol Equals ∷ v) (of_location x value)
