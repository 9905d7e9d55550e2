-- Which tokens spell which initial state, and what it says of a test: a word for a location or a register, and 0 for all
-- others.
use Rattle.std.specs.Prelude.{ℕ, ◌^◌, ◌≤◌, Bool, true, false, not, List, [], ◌∷◌, ◌++◌, length, map, nat_lt, IsTrue, ◌==◌, ◌&&◌, if◌then◌else◌}
use Rattle.std.specs.List.{list_any, list_all, range_with_len}
use Rattle.std.specs.Str.{bytes_eq}
use Rattle.litmus_reader.specs.Vocabulary.{CloseCurly, decimal_value, index_of, most_locations, OpenCurly, Reg, Semicolon, symbol, Term}
use Rattle.tso_terms.specs.declared.register.Reg.TheVariants.{Eax, Ebx, Ecx, Edx, Esi, Edi}
use Rattle.litmus_reader.specs.GrammarItems.{IsSetting}
use Rattle.litmus_reader.specs.Written.{Setting, of_register, of_location}

-- ---- what is spelled

-- an item, which may be empty
pub data IsInitialItem : List Term → List Setting → Type 0 where
  empty : IsInitialItem [] []
  given : (ts : List Term) (setting : Setting) → IsSetting ts setting → IsInitialItem ts (setting ∷ [])

-- items separated by `;`
pub data AreInitialItems : List Term → List Setting → Type 0 where
  last : (ts : List Term) (item : List Setting) → IsInitialItem ts item → AreInitialItems ts item
  more : (ts others : List Term) (item settings : List Setting) → IsInitialItem ts item
      → AreInitialItems others settings → AreInitialItems (ts ++ symbol Semicolon ∷ others) (item ++ settings)

-- `{`, items, `}`
pub data IsInitialState : List Term → List Setting → Type 0 where
  in_braces : (ts : List Term) (settings : List Setting) → AreInitialItems ts settings
      → IsInitialState (symbol OpenCurly ∷ ts ++ symbol CloseCurly ∷ []) settings

-- ---- what fits

abbrev pub given_value : Setting → ℕ
given_value (of_register core reg value) = value
given_value (of_location x value) = value

-- whether two settings are of the same location, or of the same register of the same core (equal numbers have equal digits)
abbrev pub same_place : Setting → Setting → Bool
same_place (of_register c r v) (of_register d s w) = bytes_eq d c && (index_of s == index_of r)
same_place (of_location x v) (of_location y w) = bytes_eq x y
same_place one other = false

-- no location and no register of a core is given twice
abbrev pub each_once : List Setting → Bool
each_once [] = true
each_once (s ∷ rest) = not (list_any (λ later. same_place later s) rest) && each_once rest

-- the names of the locations as they appear
abbrev pub names_in : List Setting → List (List ℕ)
names_in [] = []
names_in (of_register core reg v ∷ rest) = names_in rest
names_in (of_location x v ∷ rest) = x ∷ names_in rest

-- nothing is given twice, a word has room for each value, and there are not too many locations
pub record Fits (settings : List Setting) : Type 0 where
  pub once : IsTrue (each_once settings)
  pub values : IsTrue (list_all (λ s. nat_lt (given_value s) (2 ^ 32)) settings)
  pub few : length (names_in settings) ≤ most_locations

abbrev pub has_core : ℕ → Setting → Bool
has_core cores (of_register core reg v) = nat_lt (decimal_value core) cores
has_core cores (of_location x v) = true

-- its core is one of so many, and a word has room for its value
abbrev pub is_allowed : ℕ → Setting → Bool
is_allowed cores s = has_core cores s && nat_lt (given_value s) (2 ^ 32)

-- each core that a register is given of is one of the test's
abbrev pub has_cores : ℕ → List Setting → Bool
has_cores cores settings = list_all (has_core cores) settings

-- ---- what it says

-- the value that is given by a setting for which this holds, and `otherwise` where there is none
abbrev pub value_in : (Setting → Bool) → ℕ → List Setting → ℕ
value_in is otherwise [] = otherwise
value_in is otherwise (s ∷ rest) = value_in is (if is s then given_value s else otherwise) rest

-- whether a setting is of this register of this core
abbrev pub names_register : ℕ → Reg → Setting → Bool
names_register core reg (of_register c r v) = (decimal_value c == core) && (index_of r == index_of reg)
names_register core reg (of_location x v) = false

-- each location's first word, 0 where none is given
abbrev pub first_words : List Setting → List (List ℕ) → List ℕ
first_words settings names = map (λ x. value_in (same_place (of_location x 0)) 0 settings) names

-- the six registers of a core
abbrev pub first_registers_of : List Setting → ℕ → List ℕ
first_registers_of settings core =
    map (λ r. value_in (names_register core r) 0 settings) (Eax ∷ Ebx ∷ Ecx ∷ Edx ∷ Esi ∷ Edi ∷ [])

-- each core's first registers, 0 where none is given
abbrev pub first_registers : List Setting → ℕ → List (List ℕ)
first_registers settings cores = map (first_registers_of settings) (range_with_len 0 cores)
