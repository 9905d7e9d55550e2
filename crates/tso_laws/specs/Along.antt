-- Choices made along an order, and what it is that choices lead to an order: with these, what TSO allows is shown to be in
-- reach.
use Rattle.std.specs.Prelude.{max, ℕ, ◌+◌, ◌-◌, ◌≡◌, true, if◌then◌else◌, List, [], ◌∷◌, ◌++◌, length, slice_index, slice_set, zero, suc}
use Rattle.tso_terms.specs.FlatMachine.{step, drain}
use Rattle.tso_terms.specs.Litmus.{Litmus}
use Rattle.tso_terms.specs.ProgramOrder.{is_store}
use Rattle.tso_terms.specs.Runs.{run, CoresExist}
use Rattle.basic_laws.specs.Types.{Instr, Entry, Choice}

abbrev pub steps : ℕ → ℕ → List Choice
steps core zero = []
steps core (suc n) = step core ∷ steps core n

-- a plain store is drained
abbrev pub drained : Entry → List Choice
drained x = if is_store x then drain x.core.0 ∷ [] else []

-- what an entry needs, where the cores are at these places: the steps of its core up to and over its instruction, as
-- far as they aren't done yet, and for a plain store the drain
abbrev pub choices_for : List ℕ → Entry → List Choice
choices_for places x = steps x.core.0 ((x.place + 1) - slice_index places x.core.0) ++ drained x

-- where the cores stand then
abbrev pub places_after : List ℕ → Entry → List ℕ
places_after places x = slice_set places x.core.0 (max (slice_index places x.core.0) (x.place + 1))

-- the steps that are left at the end, core by core
abbrev pub last_steps : ℕ → List (List Instr) → List ℕ → List Choice
last_steps core [] places = []
last_steps core (p ∷ ps) places = steps core (length p - slice_index places core) ++ last_steps (core + 1) ps places

abbrev pub choices_from : Litmus → List ℕ → List Entry → List Choice
choices_from t places [] = last_steps 0 t.programs places
choices_from t places (x ∷ xs) = choices_for places x ++ choices_from t (places_after places x) xs

-- each core at the beginning of its program
abbrev pub beginnings : List (List Instr) → List ℕ
beginnings [] = []
beginnings (p ∷ ps) = 0 ∷ beginnings ps

-- the choices along an order: each entry's in turn, and at the end the steps that are left
abbrev pub choices_along : Litmus → List Entry → List Choice
choices_along t order = choices_from t (beginnings t.programs) order

-- the choices are of the test's cores, and end the test with that very order; none stalls and none is left over
pub record LeadTo (t : Litmus) (depth : ℕ) (choices : List Choice) (order : List Entry) : Type 0 where
  pub cores : CoresExist (length t.programs) choices
  pub ended : (run t depth choices).ended ≡ true
  pub commits : (run t depth choices).commits ≡ order
  pub used : (run t depth choices).used ≡ length choices
  pub stalled : (run t depth choices).stalled ≡ 0
  pub unused : (run t depth choices).unused ≡ 0
