-- A run within the limit is shown whole to an observer to which its first choices alone are shown.
use Rattle.trace_report.proofs.Vocabulary.{◌≡◌, ◌∙◌, ℕ, suc, ◌+◌, ◌≤◌, Bool, false, List, ◌∷◌, length, refl, sym, ap, subst, arith, Litmus}
use Rattle.trace_report.proofs.Vocabulary.{Choice, table_of, Table, ProtocolKind, Configuration, Running, new_machine, machine_after}
use Rattle.tso_terms.specs.EitherBus.{run_on}
use Rattle.tso_terms.specs.Together.{together}
use Rattle.basic_laws.specs.Types.{Bus, Atomic, Split}
use Rattle.multiprocessor.specs.Answered.{answered}
use Rattle.machine_runs.specs.Runs.{run_by, run_under}
use Rattle.machine_runs.specs.inner.Observed.{Watched, none_left, over, next, IsWatched}
use Rattle.trace_report.specs.Steps.{steps_from, trace_of}
use Rattle.trace_report.specs.TraceLaws.{TracesTellTheirRuns}
use Rattle.trace_report.specs.TracedRun.{most_steps}
use Rattle.trace_report.specs.inner.Limited.{ShowsStep}

-- a run has as many steps as it uses choices
steps-used : TracesTellTheirRuns
    → (table : Table) (c : Configuration) (t : Litmus) (choices : List Choice)
    → length (trace_of table c t choices) ≡ (run_by c.bus table c t choices).used
steps-used laws table c t choices = on c.bus refl
  where
    on : (bus : Bus) → c.bus ≡ bus → length (trace_of table c t choices) ≡ (run_by bus table c t choices).used
    on Atomic is = (laws.atomic table c t choices is).used
    on Split is = (laws.either table c t choices).used ∙ ap (λ b. (together (run_on b t c.depth (answered b table c.shape t c.depth choices)).run).used) is

pub few-steps : TracesTellTheirRuns
    → (kind : ProtocolKind) (c : Configuration) (t : Litmus) (choices : List Choice)
    → (run_under t kind c choices).used ≤ most_steps
    → length (steps_from (new_machine (table_of kind) c t) choices) ≤ most_steps
few-steps laws kind c t choices few = subst (λ n. n ≤ most_steps) (sym (steps-used laws (table_of kind) c t choices)) few

-- of one that looks, whom it shows the choices to, and whether it has passed the limit
shown-along : {L O : Type 0} (shown : L → O) (passed : L → Bool) (makes : O → Running → ℕ → Choice → O → Type 0)
    (o last : L) (m left : Running) (number : ℕ) (choices : List Choice)
    → Watched (λ a x n c b. ShowsStep makes (passed a) (shown a) x n c (passed b) (shown b)) o m number choices last left
    → passed o ≡ false
    → number + length (steps_from m choices) ≤ most_steps + 1
    → (passed last ≡ false) × Watched makes (shown o) m number choices (shown last) left
shown-along shown passed makes o _ m _ number _ (none_left _ _ _) first few = (first, none_left (shown o) m number)
shown-along shown passed makes o _ m _ number choices (over _ _ _ _ ended) first few = (first, over (shown o) m number choices ended)
shown-along shown passed makes o last m left number _ (next _ mid _ _ _ _ c rest live one w) first few =
    let more : length (steps_from m (c ∷ rest)) ≡ suc (length (steps_from (machine_after m c) rest)) = rw live refl in
    let step = one first (omega (arith, few, more)) in
    let later = shown-along shown passed makes mid last (machine_after m c) left (number + 1) rest w step.0 (omega (arith, few, more)) in
    (later.0, next (shown o) (shown mid) (shown last) m left number c rest live step.1 later.1)

pub shown-whole : {L O : Type 0} (shown : L → O) (passed : L → Bool) (begins : O → Running → O → Type 0)
    (makes : O → Running → ℕ → Choice → O → Type 0) (ends : O → Running → O → Type 0)
    (old new : L) (m : Running) (choices : List Choice)
    → IsWatched (λ a x b. (passed b ≡ passed a) × begins (shown a) x (shown b))
    (λ a x n c b. ShowsStep makes (passed a) (shown a) x n c (passed b) (shown b))
    (λ a x b. passed a ≡ false → ends (shown a) x (shown b)) old m choices new
    → passed old ≡ false → length (steps_from m choices) ≤ most_steps → IsWatched begins makes ends (shown old) m choices (shown new)
shown-whole shown passed begins makes ends old new m choices w first few =
    let all = shown-along shown passed makes w.begun w.driven m w.left 1 choices w.watched (w.opens.0 ∙ first) (omega (arith, few)) in
    record { begun = shown w.begun; driven = shown w.driven; left = w.left; opens = w.opens.1; watched = all.1; ends = w.ends all.0 }
