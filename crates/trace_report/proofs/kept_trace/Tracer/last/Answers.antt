use Rattle.trace_report.proofs.Vocabulary.{◌≡◌, Data, IfOk, Option, ap, option_map, sourced, subst, sym, told_last, view}
use Rattle.trace_report.specs.declared.step.Step.{Step}
use Rattle.trace_report.proofs.kept_trace.Tracer.last.Goals as goal

pub returns-in-None : goal.returns-in-None
returns-in-None g c =
    let memory = c.args.self.now.follower.memory.items in
    subst (λ (d : Data). IfOk c.value.result (λ value. view value ≡ d))
    (sym (ap (λ (l : Option Step). told_last (option_map sourced l) c.args.machine.now memory) c.in-None.is))
    (c.value.ensures _ (c.member.ensures _ _ c.new.ensures c.machine.ensures))
