-- What `sweep` prints: how many runs, one for each seed, left which final state. (Primer, chapter 4, for the axioms.)
use Rattle.std.specs.Prelude.{ℕ, zero, suc, ◌+◌, ◌<◌, ◌≡◌, Bool, true, false, not, if◌then◌else◌, List, ◌++◌, bytes_eq, All, Contains}
use Rattle.std.specs.Prelude.{Option, Some, None, IfSome, is_none}
use Rattle.std.specs.Map.{keys_of}
use Rattle.tso_cli.specs.Vocabulary.{Ascend, Atomic, Choice, choices_of, Claim, Configuration, counted_state_line, Entry, final_registers}
use Rattle.tso_cli.specs.Vocabulary.{final_words, IsTsoExecution, KeepsAllOrder, Litmus, Plan, ProtocolKind, Run, run, RunCounts, runs_in}
use Rattle.tso_cli.specs.Vocabulary.{Split, truth_of, values_in}
use Rattle.tso_cli.specs.SplitRun.{split_run}
use Rattle.tso_cli.specs.Sweep.{sweep_lines}

-- the order that a run commits under the choices of a seed of the plan, where they end the test
abbrev pub seeded_order : Litmus → (List Choice → Run) → Plan → ℕ → Option (List Entry)
seeded_order t run_of plan seed = let r = run_of (choices_of t plan.length seed) in (if r.ended then Some r.commits else None)

-- the values that the final state of an order has
abbrev pub final_values : Litmus → List Entry → List ℕ
final_values t order = values_in t (final_registers t order) (final_words t order)

-- whether the final state of such an order has these values (`bytes_eq` compares two lists number by number)
abbrev pub has_values : Litmus → List ℕ → Option (List Entry) → Bool
has_values t values None = false
has_values t values (Some order) = bytes_eq values (final_values t order)

-- whether the claim has this truth there
abbrev pub has_truth : Litmus → Claim → Bool → Option (List Entry) → Bool
has_truth t claim truth None = false
has_truth t claim true (Some order) = truth_of (final_registers t order) (final_words t order) claim
has_truth t claim false (Some order) = not (truth_of (final_registers t order) (final_words t order) claim)

-- for how many of so many seeds, from this one on, a test is passed
abbrev pub seeds_from : (ℕ → Bool) → ℕ → ℕ → ℕ
seeds_from test from zero = 0
seeds_from test from (suc seeds) = seeds_from test from seeds + (if test (from + seeds) then 1 else 0)

-- for how many seeds of the plan a test of their orders is passed
abbrev pub seeds_with : Litmus → (List Choice → Run) → Plan → (Option (List Entry) → Bool) → ℕ
seeds_with t run_of plan test = seeds_from (λ seed. test (seeded_order t run_of plan seed)) plan.from plan.seeds

-- these bytes are in the text
abbrev pub HasPart : List ℕ → List ℕ → Type 0
HasPart text part = (front : List ℕ) × (back : List ℕ) × (text ≡ front ++ (part ++ back))

-- what was printed are these lines, of one run for each seed of the plan: where it ended, its order is a TSO execution of the test
-- (on the atomic bus this is so of every seed, in the plan or not), and at depth 0 it keeps program order without exception; the
-- states that are counted ascend, each once and each with its line; each is the final state of as many runs as its line says, and
-- that of each run that ended is among them; and the condition's proposition is true, and false, in as many as the last line says
pub record PrintsSweep (t : Litmus) (kind : ProtocolKind) (c : Configuration) (plan : Plan) (run_of : List Choice → Run) (out : List ℕ)
    : Type 0 where
  pub counts : RunCounts
  pub printed : out ≡ sweep_lines t kind c plan counts
  pub runs : runs_in counts ≡ plan.seeds
  pub executions : (n : ℕ) → n < plan.seeds → IfSome (seeded_order t run_of plan (plan.from + n)) (IsTsoExecution t)
  pub every_seed : c.bus ≡ Atomic → (seed : ℕ) → IfSome (seeded_order t run_of plan seed) (IsTsoExecution t)
  pub unbuffered : c.depth ≡ 0 → (n : ℕ) → n < plan.seeds → IfSome (seeded_order t run_of plan (plan.from + n)) KeepsAllOrder
  pub ascending : Ascend counts.states
  pub lines : All (λ state. HasPart out (counted_state_line t state)) counts.states
  pub states : All (λ state. (0 < state.1) × (state.1 ≡ seeds_with t run_of plan (has_values t state.0))) counts.states
  pub complete : (n : ℕ) → n < plan.seeds
      → IfSome (seeded_order t run_of plan (plan.from + n)) (λ order. Contains (keys_of counts.states) (final_values t order))
  pub held : IfSome t.condition (λ condition. counts.held ≡ seeds_with t run_of plan (has_truth t condition.claim true))
  pub failed : IfSome t.condition (λ condition. counts.failed ≡ seeds_with t run_of plan (has_truth t condition.claim false))
  pub unfinished : counts.unfinished ≡ seeds_with t run_of plan is_none

-- on the atomic bus of the flat machine's runs, on the split bus of the split machine's
pub record HeadlineOfSweeps (t : Litmus) (kind : ProtocolKind) (c : Configuration) (plan : Plan) (out : List ℕ) : Type 0 where
  pub atomic : c.bus ≡ Atomic → PrintsSweep t kind c plan (run t c.depth) out
  pub split : c.bus ≡ Split → PrintsSweep t kind c plan (split_run t kind c) out
