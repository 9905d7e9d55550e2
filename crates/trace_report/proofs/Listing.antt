-- Lists of states and of changes, made one after the other.
use Rattle.trace_report.proofs.Vocabulary.{◌≡◌, ◌∙◌, ℕ, zero, suc, ◌+◌, ◌-◌, ◌<◌, ◌≤◌, List, [], ◌∷◌, ◌++◌, length, drop, min, refl, sym}
use Rattle.trace_report.proofs.Vocabulary.{ap, append_assoc, append-nil, arith, Running, placed, line_states, placed_states_from}
use Rattle.trace_report.proofs.Vocabulary.{number_of_lines, changes_in, PlacedState, StateChange}

-- ---- states

pub one-line : (m : Running) (core line lines : ℕ) (x : PlacedState) (before after whole : List PlacedState)
    → line < lines
    → after ≡ before ++ x ∷ []
    → x ≡ placed m core line
    → before ++ line_states m core line (lines - line) ≡ whole → after ++ line_states m core (line + 1) (lines - (line + 1)) ≡ whole
one-line m core line lines x before after whole h is x_is was =
    let rest = line_states m core (line + 1) (lines - (line + 1)) in
    let count : lines - line ≡ suc (lines - (line + 1)) = omega arith in
    ap (λ text. text ++ rest) is ∙ (append_assoc before (x ∷ []) rest ∙ (ap (λ y. before ++ (y ∷ rest)) x_is
    ∙ (sym (ap (λ n. before ++ line_states m core line n) count) ∙ was)))

pub one-core : (m : Running) (core cores : ℕ) (before after whole : List PlacedState)
    → core < cores
    → after ≡ before ++ line_states m core 0 (number_of_lines m)
    → before ++ placed_states_from m core (cores - core) ≡ whole → after ++ placed_states_from m (core + 1) (cores - (core + 1)) ≡ whole
one-core m core cores before after whole h is was =
    let rest = placed_states_from m (core + 1) (cores - (core + 1)) in
    let count : cores - core ≡ suc (cores - (core + 1)) = omega arith in
    ap (λ text. text ++ rest) is ∙ (append_assoc before (line_states m core 0 (number_of_lines m)) rest
    ∙ (sym (ap (λ n. before ++ placed_states_from m core n) count) ∙ was))

-- ---- changes

nothing-left : (befores afters : List PlacedState) → min (length befores) (length afters) ≤ 0 → changes_in befores afters ≡ []
nothing-left [] afters h = refl
nothing-left (b ∷ bs) [] h = refl
nothing-left (b ∷ bs) (a ∷ rest) h = absurd (omega arith)

past-one : (befores afters : List PlacedState) (i : ℕ) → min (length befores) (length afters) ≤ i → changes_in (drop i befores) (drop i afters) ≡ []
past-one befores afters zero h = nothing-left befores afters h
past-one [] afters (suc i) h = refl
past-one (b ∷ bs) [] (suc i) h = ends (drop i bs)
  where
    ends : (list : List PlacedState) → changes_in list [] ≡ []
    ends [] = refl
    ends (x ∷ xs) = refl
past-one (b ∷ bs) (a ∷ rest) (suc i) h = let k : min (length bs) (length rest) ≤ i = omega arith in past-one bs rest i k

pub all-changes : (befores afters : List PlacedState) (i : ℕ) (done whole : List StateChange) → min (length befores) (length afters) ≤ i
    → done ++ changes_in (drop i befores) (drop i afters) ≡ whole → done ≡ whole
all-changes befores afters i done whole h was =
    sym (append-nil done) ∙ (sym (ap (λ rest. done ++ rest) (past-one befores afters i h)) ∙ was)
