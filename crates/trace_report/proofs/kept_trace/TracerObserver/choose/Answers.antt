use Rattle.trace_report.proofs.Vocabulary.{◌≡◌, ◌∙◌, [], ◌∷◌, ◌++◌, Some, ap, sym, map, view, Running, machine_after, own_words, sourced, sourced_by, step_to}
use Rattle.trace_report.specs.declared.kept_trace.Tracer.{Tracer}
use Rattle.trace_report.proofs.kept_trace.TracerObserver.choose.Goals as goal
use Rattle.trace_report.proofs.kept_trace.TracerObserver.choose.Goals.{in-Whole+in_ok-push_made-in-Whole, in-LastStep}

pub returns-clause-makes : goal.returns-clause-makes
returns-clause-makes g c =
    let o = c.args.self.now in
    let m = c.tell.new.machine in
    let own = c.tell.new.self.memory.items in
    let after = machine_after c.args.machine.now c.args.choice in
    let step =
    ap (λ s. step_to s m own) c.in_ok-told.ensures.step
    ∙ ap (λ (n : Running). step_to (sourced_by c.args.machine.now c.args.choice) n own) c.in_ok-told.ensures.after in
    let memory = c.in_ok-told.ensures.memory ∙ ap (λ (n : Running). own_words n o.follower.memory.items) c.in_ok-told.ensures.after in
    elim c.match-self.branch [
      | in-Whole+in_ok-push_made-in-Whole w ↦
          (let same : c.match-self.self.follower.memory.items ≡ own = ap (λ (s : Tracer). s.follower.memory.items) w.self-is in
          record {
            extent = ap (λ (s : Tracer). s.extent) w.self-is;
            memory = same ∙ memory;
            start_is = ap (λ (s : Tracer). view s.told) w.self-is;
            steps_are = λ whole.
                ap (λ (s : Tracer). map view s.steps.items) w.self-is
                ∙ (w.in_ok-push_made-in-Whole.ensures (step_to (sourced c.in_ok-told.told) m own) w.step_to.ensures
                ∙ ap (λ d. map view o.steps.items ++ d ∷ []) (step ∙ ap (step_to (sourced_by c.args.machine.now c.args.choice) after) (sym same)));
            last_is = ap Some c.in_ok-told.ensures.step;
          })
      | in-LastStep w ↦
          record {
            extent = ap (λ (s : Tracer). s.extent) w.self-is;
            memory = ap (λ (s : Tracer). s.follower.memory.items) w.self-is ∙ memory;
            start_is = ap (λ (s : Tracer). view s.told) w.self-is;
            steps_are = λ whole. absurd cc;
            last_is = ap Some c.in_ok-told.ensures.step;
          }
    ]
