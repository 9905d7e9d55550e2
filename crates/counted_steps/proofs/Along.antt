-- A sum over what a run's choices had to do with the caches is a sum over the steps of its trace, where each step tells what its choice adds.
use Rattle.std.proofs.Common.{◌≡◌, ◌==◌, inl, inr, ℕ, Bool, true, false, if◌then◌else◌, List, [], ◌∷◌, refl, sym, ap, ◌∙◌}
use Rattle.basic_laws.proofs.Basics.{decide, test-false}
use Rattle.tso_terms.specs.FlatMachine.{chosen}
use Rattle.tso_terms.specs.Runs.{has_ended}
use Rattle.basic_laws.specs.Types.{Choice}
use Rattle.multiprocessor.specs.declared.accesses.CacheUse.{CacheUse}
use Rattle.machine_core.specs.Running.{Running, machine_after, machine_use}
use Rattle.trace_report.specs.Shown.{ShownStep}
use Rattle.trace_report.specs.Steps.{steps_from, trace_step_of}
use Rattle.cache_counts.specs.AddingUp.{sum_of_uses}
use Rattle.cache_counts.specs.Uses.{core_use_at, uses_from}
use Rattle.cache_counts.proofs.UseSums.{core-is}
use Rattle.counted_steps.specs.StepSums.{sum_of_steps}
use Rattle.counted_steps.proofs.Sums.{add-both}

pub its-choice : (m : Running) (choice : Choice) → (trace_step_of m choice).choice ≡ choice
unfolding trace_step_of
its-choice m choice = refl

-- two numbers of one core, which are the same where it is this one
own-same : (i k x y : ℕ) → (i ≡ k → x ≡ y) → (if i == k then x else 0) ≡ (if i == k then y else 0)
own-same i k x y same = elim (decide i k) [
  | inl is ↦ ap (λ (n : ℕ). if i == k then n else 0) (same is)
  | inr apart ↦ ap (λ (b : Bool). if b then x else 0) (test-false i k apart) ∙ sym (ap (λ (b : Bool). if b then y else 0) (test-false i k apart))
]

-- in machines that are kept so, of the choices of one core
module _ (Kept : Running → Type 0)
    (kept-next : (m : Running) (c : Choice) → Kept m → Kept (machine_after m c)) (of_step : ShownStep → ℕ)
    (of_use : CacheUse → ℕ) (k : ℕ)
    (tells : (m : Running) (c : Choice) → Kept m → chosen c ≡ k → of_step (trace_step_of m c) ≡ of_use (machine_use m c).how) where
  one-step : (m : Running) (c : Choice) → Kept m
      → (if (core_use_at m c).core.0 == k then of_use (machine_use m c).how else 0)
      ≡ (if chosen (trace_step_of m c).choice == k then of_step (trace_step_of m c) else 0)
  one-step m c is =
      let told : chosen (trace_step_of m c).choice ≡ chosen c = ap chosen (its-choice m c) in
      ap (λ (i : ℕ). if i == k then of_use (machine_use m c).how else 0) (core-is c ∙ sym told)
      ∙ own-same (chosen (trace_step_of m c).choice) k (of_use (machine_use m c).how) (of_step (trace_step_of m c)) (λ own. sym (tells m c is (sym told ∙ own)))

  pub along : (m : Running) (choices : List Choice) → Kept m → sum_of_uses of_use k (uses_from m choices) ≡ sum_of_steps of_step k (steps_from m choices)
  along m [] is = refl
  along m (c ∷ cs) is = by_end (has_ended m.test m.state.flat) (along (machine_after m c) cs (kept-next m c is))
    where
      by_end : (b : Bool) → sum_of_uses of_use k (uses_from (machine_after m c) cs) ≡ sum_of_steps of_step k (steps_from (machine_after m c) cs)
          → sum_of_uses of_use k (if b then [] else core_use_at m c ∷ uses_from (machine_after m c) cs)
          ≡ sum_of_steps of_step k (if b then [] else trace_step_of m c ∷ steps_from (machine_after m c) cs)
      by_end true rest = refl
      by_end false rest = add-both _ _ _ _ (one-step m c is) rest
