-- The steps of a trace, summed along its run.
use Rattle.trace_report.proofs.Vocabulary.{◌≡◌, ◌∙◌, ℕ, suc, ◌+◌, ◌≤◌, Bool, true, false, List, [], ◌∷◌, ◌++◌, length, drop, refl, sym, ap}
use Rattle.trace_report.proofs.Vocabulary.{subst, inl, inr, get_or-set_same, get_or_past, length-set, lt-or, Litmus, CoreState, Effect}
use Rattle.trace_report.proofs.Vocabulary.{idle, core_of, chosen, start, Run, has_ended, stall_count, then_run, run, Attempt, BusState}
use Rattle.trace_report.proofs.Vocabulary.{BusRun, unheld, then_on, resting_on, run_on, run_on_from, choices_in, Bus, Atomic, Choice, Table}
use Rattle.trace_report.proofs.Vocabulary.{Configuration, Caches, use_on, state_after_on, no_statistics, Running, new_machine, attempt_on}
use Rattle.trace_report.proofs.Vocabulary.{machine_after, trace_step_of, steps_from, trace_of, committed_at, committed_in, stalls_in}
use Rattle.trace_report.proofs.Vocabulary.{TellsRun, run_traced, machine_effect}
use Rattle.tso_terms.specs.Together.{put_together}
use Rattle.tso_laws.specs.BusLaws.{AtomicRunsAreFlatRuns}
use Rattle.multiprocessor.specs.Answered.{answered, answered_from}
use Rattle.trace_report.proofs.Effects.{Form, effect-form, named-is, nothing-new}

-- the choices with the answers of a machine's caches along them, and the run under them from the machine's state on
abbrev pub answers_of : Running → List Choice → List Attempt
answers_of m choices = answered_from m.bus m.test m.depth m.state m.statistics.caches choices

abbrev pub run_of : Running → List Choice → Run
run_of m choices = (run_on_from m.bus m.test m.depth m.state (answers_of m choices)).run

-- what a step has committed is what its choice commits
step-commits : (m : Running) (choice : Choice)
    → committed_at (trace_step_of m choice).outcome (trace_step_of m choice).entries
    ≡ (machine_effect m choice).effect.commits
unfolding trace_step_of
step-commits m choice = elim (lt-or (length m.state.flat.cores) (chosen choice)) [
  | inl there ↦
      let after : core_of (machine_after m choice).state.flat (chosen choice) ≡ f.after =
      get_or-set_same m.state.flat.cores (chosen choice) f.after idle there in
      ap (λ (x : CoreState). committed_at f.outcome (f.commits ++ drop (length s.pending) x.pending)) after ∙ named-is choice s f form
  | inr past ↦
      let after : core_of (machine_after m choice).state.flat (chosen choice) ≡ s =
      get_or_past (machine_after m choice).state.flat.cores (chosen choice) idle
      (subst (λ n. n ≤ chosen choice) (sym (length-set m.state.flat.cores (chosen choice) f.after)) past)
      ∙ sym (get_or_past m.state.flat.cores (chosen choice) idle past) in
      ap (λ (x : CoreState). committed_at f.outcome (f.commits ++ drop (length s.pending) x.pending)) after ∙ nothing-new choice s f form
]
  where
    f : Effect
    f = (machine_effect m choice).effect

    s : CoreState
    s = core_of m.state.flat (chosen choice)

    form : Form choice s f
    form = effect-form m.bus m.test m.depth m.state (attempt_on m choice)

pub step-outcome : (m : Running) (choice : Choice) → (trace_step_of m choice).outcome ≡ (machine_effect m choice).effect.outcome
unfolding trace_step_of
step-outcome m choice = refl

abbrev pub bus_run_of : Running → List Choice → BusRun
bus_run_of m choices = run_on_from m.bus m.test m.depth m.state (answers_of m choices)

pub going : (m : Running) (c : Choice) (rest : List Choice) → has_ended m.test m.state.flat ≡ false
    → bus_run_of m (c ∷ rest) ≡ then_on (machine_effect m c) (bus_run_of (machine_after m c) rest)
going m c rest live = rw live refl

stopped : (m : Running) (c : Choice) (rest : List Choice) → has_ended m.test m.state.flat ≡ true
    → bus_run_of m (c ∷ rest) ≡ resting_on true m.state (length (answers_of m (c ∷ rest)))
stopped m c rest over = rw over refl

record TellsFrom (m : Running) (choices : List Choice) : Type 0 where
  committed : committed_in (steps_from m choices) ≡ (run_of m choices).commits
  used : length (steps_from m choices) ≡ (run_of m choices).used
  stalled : stalls_in (steps_from m choices) ≡ (run_of m choices).stalled

tells-from : (m : Running) (choices : List Choice) → TellsFrom m choices
tells-from m [] = record { committed = refl; used = refl; stalled = refl }
tells-from m (c ∷ cs) = go (has_ended m.test m.state.flat) refl (tells-from (machine_after m c) cs)
  where
    go : (b : Bool) → has_ended m.test m.state.flat ≡ b → TellsFrom (machine_after m c) cs → TellsFrom m (c ∷ cs)
    go true over rest =
        let steps : steps_from m (c ∷ cs) ≡ [] = rw over refl in
        let runs = stopped m c cs over in
        record {
          committed = ap committed_in steps ∙ sym (ap (λ (r : BusRun). r.run.commits) runs);
          used = ap length steps ∙ sym (ap (λ (r : BusRun). r.run.used) runs);
          stalled = ap stalls_in steps ∙ sym (ap (λ (r : BusRun). r.run.stalled) runs);
        }
    go false live rest =
        let steps : steps_from m (c ∷ cs) ≡ trace_step_of m c ∷ steps_from (machine_after m c) cs = rw live refl in
        let runs : run_of m (c ∷ cs) ≡ then_run (machine_effect m c).effect (run_of (machine_after m c) cs) = ap (λ (r : BusRun). r.run) (going m c cs live) in
        let next = steps_from (machine_after m c) cs in
        record {
          committed =
              ap committed_in steps
              ∙ (ap (λ es. es ++ committed_in next) (step-commits m c)
              ∙ (ap (λ es. (machine_effect m c).effect.commits ++ es) rest.committed
              ∙ sym (ap (λ (r : Run). r.commits) runs)));
          used = ap length steps ∙ (ap (λ n. suc n) rest.used ∙ sym (ap (λ (r : Run). r.used) runs));
          stalled =
              ap stalls_in steps
              ∙ (ap (λ o. stall_count o + stalls_in next) (step-outcome m c)
              ∙ (ap (λ n. stall_count (machine_effect m c).effect.outcome + n) rest.stalled
              ∙ sym (ap (λ (r : Run). r.stalled) runs)));
        }

pub tells-run : (table : Table) (c : Configuration) (t : Litmus) (choices : List Choice) → TellsRun (trace_of table c t choices) (run_traced table c t choices)
tells-run table c t choices =
    let told = tells-from (new_machine table c t) choices in
    record { order = ap put_together told.committed; used = told.used; stalled = told.stalled }

answered-choices : (bus : Bus) (t : Litmus) (depth : ℕ) (state : BusState) (caches : Caches) (choices : List Choice)
    → choices_in (answered_from bus t depth state caches choices) ≡ choices
answered-choices bus t depth state caches [] = refl
answered-choices bus t depth state caches (c ∷ cs) =
    ap (λ rest. c ∷ rest) (answered-choices bus t depth (state_after_on bus t depth state caches c) (use_on bus t depth state c caches).caches cs)

pub tells-atomic : (laws : AtomicRunsAreFlatRuns) (table : Table) (c : Configuration) (t : Litmus)
    (choices : List Choice)
    → c.bus ≡ Atomic
    → TellsRun (trace_of table c t choices) (run t c.depth choices)
tells-atomic laws table c t choices is =
    let attempts = answered c.bus table c.shape t c.depth choices in
    let same : (run_on c.bus t c.depth attempts).run ≡ run t c.depth choices =
    ap (λ b. (run_on b t c.depth attempts).run) is ∙ (laws.atomic t c.depth attempts
    ∙ ap (run t c.depth) (answered-choices c.bus t c.depth (unheld (start t)) (no_statistics table c.shape t).caches choices)) in
    let told = tells-run table c t choices in
    record {
      order = told.order ∙ (ap (λ (r : Run). put_together r.commits) same ∙ laws.together t c.depth choices);
      used = told.used ∙ ap (λ (r : Run). r.used) same;
      stalled = told.stalled ∙ ap (λ (r : Run). r.stalled) same;
    }
