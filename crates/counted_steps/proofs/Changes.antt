-- The changes of a step, counted line by line: how many turn to I a line of another core.
use Rattle.std.proofs.Common.{◌≡◌, ◌+◌, ◌==◌, ℕ, zero, suc, Bool, true, false, if◌then◌else◌, List, [], ◌∷◌, ◌++◌, length, refl, sym, ap, ◌∙◌, arith}
use Rattle.std.specs.Int.{div_ceil}
use Rattle.tso_terms.specs.FlatMachine.{chosen}
use Rattle.basic_laws.specs.Types.{Choice}
use Rattle.machine_core.specs.Running.{Running, machine_after}
use Rattle.trace_report.specs.Steps.{change_of, changes_in, line_state, line_states, number_of_lines, number_of_state, placed}
use Rattle.trace_report.specs.Steps.{placed_states_from, states_of, trace_step_of}
use Rattle.trace_report.specs.declared.step.LineState.{LineState}
use Rattle.trace_report.specs.declared.step.StateChange.{StateChange}
use Rattle.trace_report.specs.declared.states.PlacedState.{PlacedState}
use Rattle.trace_report.proofs.Whole.{words-kept}
use Rattle.counted_steps.specs.StepSums.{is_gone, lost_by_others}
use Rattle.counted_steps.proofs.Sums.{add-third, from-none, no-more, of_others, sum-none, sum-same, sum_from, unless, unless-zero}

-- ---- one line

-- one copy less, where the state of a line was this and is that
abbrev pub fell : LineState → LineState → ℕ
fell before after = unless (number_of_state before == number_of_state after) (if is_gone after then 1 else 0)

change-lost : (k : ℕ) (before after : PlacedState) → lost_by_others k (change_of before after) ≡ unless (before.core.0 == k) (fell before.state after.state)
change-lost k before after = by_same (number_of_state before.state == number_of_state after.state)
  where
    by_same : (same : Bool)
        → lost_by_others k (if same then [] else record { core = before.core; line = before.line; before = before.state; after = after.state } ∷ [])
        ≡ unless (before.core.0 == k) (unless same (if is_gone after.state then 1 else 0))
    by_same true = sym (unless-zero (before.core.0 == k))
    by_same false = sym (no-more (unless (before.core.0 == k) (if is_gone after.state then 1 else 0)))

-- ---- lists of lines

add-first : (a b s t : ℕ) → b ≡ s + t → a + b ≡ (a + s) + t
add-first a b s t p = omega (arith, p)

lost-append : (k : ℕ) (xs ys : List StateChange) → lost_by_others k (xs ++ ys) ≡ lost_by_others k xs + lost_by_others k ys
lost-append k [] ys = from-none (lost_by_others k ys)
lost-append k (x ∷ xs) ys =
    add-first (unless (x.core.0 == k) (if is_gone x.after then 1 else 0)) (lost_by_others k (xs ++ ys))
    (lost_by_others k xs) (lost_by_others k ys) (lost-append k xs ys)

-- the lines of a core from this number on, so many; and those of so many cores
abbrev row : (ℕ → PlacedState) → ℕ → ℕ → List PlacedState
row at line zero = []
row at line (suc count) = at line ∷ row at (line + 1) count

abbrev rows : (ℕ → ℕ → PlacedState) → ℕ → ℕ → ℕ → List PlacedState
rows at lines core zero = []
rows at lines core (suc count) = row (at core) 0 lines ++ rows at lines (core + 1) count

abbrev lost_of : ℕ → (ℕ → PlacedState) → (ℕ → PlacedState) → ℕ → ℕ
lost_of k at to line = lost_by_others k (change_of (at line) (to line))

row-lost : (k : ℕ) (at to : ℕ → PlacedState) (line count : ℕ) (befores afters : List PlacedState)
    → lost_by_others k (changes_in (row at line count ++ befores) (row to line count ++ afters))
    ≡ sum_from (lost_of k at to) line count + lost_by_others k (changes_in befores afters)
row-lost k at to line zero befores afters = from-none (lost_by_others k (changes_in befores afters))
row-lost k at to line (suc count) befores afters =
    let rest : List StateChange = changes_in (row at (line + 1) count ++ befores) (row to (line + 1) count ++ afters) in
    add-third (lost_by_others k (change_of (at line) (to line) ++ rest)) (lost_of k at to line) (lost_by_others k rest)
    (sum_from (lost_of k at to) (line + 1) count) (lost_by_others k (changes_in befores afters))
    (lost-append k (change_of (at line) (to line)) rest) (row-lost k at to (line + 1) count befores afters)

rows-lost : (k : ℕ) (at to : ℕ → ℕ → PlacedState) (lines core count : ℕ)
    → lost_by_others k (changes_in (rows at lines core count) (rows to lines core count))
    ≡ sum_from (λ i. sum_from (lost_of k (at i) (to i)) 0 lines) core count
rows-lost k at to lines core zero = refl
rows-lost k at to lines core (suc count) =
    row-lost k (at core) (to core) 0 lines (rows at lines (core + 1) count) (rows to lines (core + 1) count)
    ∙ ap (λ (n : ℕ). sum_from (lost_of k (at core) (to core)) 0 lines + n) (rows-lost k at to lines (core + 1) count)

-- ---- the lines of machines

row-is : (m : Running) (core line count : ℕ) → line_states m core line count ≡ row (placed m core) line count
row-is m core line zero = refl
row-is m core line (suc count) = ap (λ (ps : List PlacedState). placed m core line ∷ ps) (row-is m core (line + 1) count)

rows-are : (m : Running) (core count : ℕ) → placed_states_from m core count ≡ rows (placed m) (number_of_lines m) core count
rows-are m core zero = refl
rows-are m core (suc count) =
    ap (λ (ps : List PlacedState). ps ++ placed_states_from m (core + 1) count) (row-is m core 0 (number_of_lines m))
    ∙ ap (λ (ps : List PlacedState). row (placed m core) 0 (number_of_lines m) ++ ps) (rows-are m (core + 1) count)

-- the lines of a core that turn to I, where it is another
abbrev pub fallen : Running → Running → ℕ → ℕ
fallen m next core = sum_from (λ line. fell (line_state m core line) (line_state next core line)) 0 (number_of_lines m)

sum-if : (b : Bool) (f : ℕ → ℕ) (count : ℕ) → sum_from (λ i. unless b (f i)) 0 count ≡ unless b (sum_from f 0 count)
sum-if true f count = sum-none (λ i. 0) 0 count (λ i. refl)
sum-if false f count = refl

core-lost : (k : ℕ) (m next : Running) (core : ℕ)
    → sum_from (lost_of k (placed m core) (placed next core)) 0 (number_of_lines m) ≡ of_others k (fallen m next) core
core-lost k m next core =
    sum-same (lost_of k (placed m core) (placed next core)) (λ line. unless (core == k) (fell (line_state m core line) (line_state next core line)))
    (λ line. change-lost k (placed m core line) (placed next core line)) 0 (number_of_lines m)
    ∙ sum-if (core == k) (λ line. fell (line_state m core line) (line_state next core line)) (number_of_lines m)

states-lost : (k : ℕ) (m next : Running) → number_of_lines next ≡ number_of_lines m → length next.test.programs ≡ length m.test.programs
    → lost_by_others k (changes_in (states_of m) (states_of next)) ≡ sum_from (of_others k (fallen m next)) 0 (length m.test.programs)
states-lost k m next lines cores =
    let count : ℕ = length m.test.programs in
    let before : states_of m ≡ rows (placed m) (number_of_lines m) 0 count = rows-are m 0 count in
    let after : states_of next ≡ rows (placed next) (number_of_lines m) 0 count =
    rows-are next 0 (length next.test.programs)
    ∙ (ap (λ (n : ℕ). rows (placed next) n 0 (length next.test.programs)) lines ∙ ap (λ (n : ℕ). rows (placed next) (number_of_lines m) 0 n) cores) in
    ap (λ (ps : List PlacedState). lost_by_others k (changes_in ps (states_of next))) before
    ∙ (ap (λ (ps : List PlacedState). lost_by_others k (changes_in (rows (placed m) (number_of_lines m) 0 count) ps)) after
    ∙ (rows-lost k (placed m) (placed next) (number_of_lines m) 0 count
    ∙ sum-same (λ i. sum_from (lost_of k (placed m i) (placed next i)) 0 (number_of_lines m)) (of_others k (fallen m next)) (core-lost k m next) 0 count))

-- ---- those of a step
pub changes-lost : (m : Running) (c : Choice)
    → lost_by_others (chosen c) (trace_step_of m c).changes ≡ sum_from (of_others (chosen c) (fallen m (machine_after m c))) 0 (length m.test.programs)
unfolding trace_step_of
changes-lost m c = states-lost (chosen c) m (machine_after m c) (ap (λ (n : ℕ). div_ceil (length m.test.locations) n) (words-kept m c)) refl
