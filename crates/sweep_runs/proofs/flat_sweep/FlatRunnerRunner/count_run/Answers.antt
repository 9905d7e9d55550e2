use Rattle.sweep_runs.proofs.Vocabulary.{◌≡◌, length, List, ℕ, map, ap, sym, ◌∙◌, refl, State, Run, run, run_from, RunCounts}
use Rattle.sweep_runs.proofs.Vocabulary.{with_state_counted, with_verdict, values_in, state_of_snapshot, verdict}
use Rattle.std.proofs.lemmas.List.{length-map}
use Rattle.sweep_runs.proofs.FlatSweeps.{registers-left, counted}
use Rattle.sweep_runs.proofs.SweptRuns.{counted-unfinished}
use Rattle.sweep_runs.proofs.flat_sweep.FlatRunnerRunner.count_run.Goals as goal

pub returns-then-not-ended-clause-ended : goal.returns-then-not-ended-clause-ended
returns-then-not-ended-clause-ended g c =
    sym c.if-not-ended.true ∙ c.in_ok-ended.ensures.ended
    ∙ ap (λ (s : State).
    (run_from c.args.test.now c.args.self.now.depth s (g.C.Choices.coming c.args.choices.now)).ended)
    (c.in_ok-overwrite.ensures.value ∙ c.requires.runs.0)

pub returns-then-not-ended-clause-counts : goal.returns-then-not-ended-clause-counts
returns-then-not-ended-clause-counts g c =
    c.add_unfinished.ensures.counts
    ∙ counted-unfinished c.args.test.now
    (run c.args.test.now c.args.self.now.depth (g.C.Choices.coming c.args.choices.now)) c.args.tally.now.counts
    (sym (returns-then-not-ended-clause-ended g c))

pub returns-clause-ended : goal.returns-clause-ended
returns-clause-ended g c =
    sym c.if-not-ended.false ∙ c.in_ok-ended.ensures.ended
    ∙ ap (λ (s : State).
    (run_from c.args.test.now c.args.self.now.depth s (g.C.Choices.coming c.args.choices.now)).ended)
    (c.in_ok-overwrite.ensures.value ∙ c.requires.runs.0)

pub returns-clause-counts : goal.returns-clause-counts
returns-clause-counts g c =
    let t = c.args.test.now in
    let cs = g.C.Choices.coming c.args.choices.now in
    let r : Run = run t c.args.self.now.depth cs in
    let left = c.drive.new.state in
    let registers : List (List ℕ) = c.write_registers.new.registers.items in
    let state : state_of_snapshot left ≡ r.state =
    c.in_ok-ended.ensures.state ∙ ap (λ (s : State). (run_from t c.args.self.now.depth s cs).state) (c.in_ok-overwrite.ensures.value ∙ c.requires.runs.0) in
    let registers_are = registers-left left registers (c.in_ok-write_registers.ensures ∙ ap (map (λ p. p.registers)) c.deref.ensures.value) in
    let count : List (List ℕ) → List ℕ → RunCounts = λ g w. with_verdict (verdict t g w) (with_state_counted (values_in t g w) c.args.tally.now.counts) in
    c.in_ok-count_state.ensures.counts
    ∙ ap (λ g. count g c.deref-3.result.now) c.deref-2.ensures.value ∙ ap (λ w. count registers w) c.deref-3.ensures.value
    ∙ counted t r (state_of_snapshot left) registers left.memory.items (verdict t registers left.memory.items)
    c.args.tally.now.counts (returns-clause-ended g c) state registers_are refl refl

pub overwrite-requires : goal.overwrite-requires
overwrite-requires g c = c.requires.runs.2 ∙ sym c.requires.runs.1

pub drive-requires : goal.drive-requires
drive-requires g c = record { cores = c.in_ok-overwrite.ensures.cores ∙ c.requires.runs.1; chosen = c.requires.cores }

pub count_state-requires-clause-tally : goal.count_state-requires-clause-tally
count_state-requires-clause-tally g c = c.requires.tally

pub count_state-requires-clause-cores : goal.count_state-requires-clause-cores
count_state-requires-clause-cores g c =
    ap length (c.deref-2.ensures.value ∙ c.in_ok-write_registers.ensures)
    ∙ length-map c.deref.result.now (λ p. p.registers)
    ∙ ap length c.deref.ensures.value
    ∙ c.in_ok-ended.ensures.cores

pub count_state-requires-clause-room : goal.count_state-requires-clause-room
count_state-requires-clause-room g c = c.requires.room

pub add_unfinished-requires : goal.add_unfinished-requires
add_unfinished-requires g c = c.requires.room

pub returns-clause-again : goal.returns-clause-again
returns-clause-again g c = record { again = (c.requires.runs.0, c.requires.runs.1, c.in_ok-ended.ensures.cores); same = λ cs. refl; fit = λ cs fits. tt }

pub returns-then-not-ended-clause-again : goal.returns-then-not-ended-clause-again
returns-then-not-ended-clause-again g c = record {
  again = (c.requires.runs.0, c.requires.runs.1, c.in_ok-ended.ensures.cores);
  same = λ cs. refl;
  fit = λ cs fits. tt;
}

pub returns-clause-test : goal.returns-clause-test
returns-clause-test g c = c.count_state.ensures.test

pub returns-then-not-ended-clause-test : goal.returns-then-not-ended-clause-test
returns-then-not-ended-clause-test g c = c.add_unfinished.ensures.test
