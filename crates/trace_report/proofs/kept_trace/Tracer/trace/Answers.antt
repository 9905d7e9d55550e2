use Rattle.trace_report.proofs.Vocabulary.{◌∙◌, ap, map, view, array, items_of}
use Rattle.trace_report.proofs.Listed.{view-list}
use Rattle.trace_report.proofs.kept_trace.Tracer.trace.Goals as goal

pub returns : goal.returns
returns c =
    c.value.ensures _ (c.member-2.ensures _ (array (items_of (map view c.args.self.now.steps.items)))
    (c.member.ensures _ (view c.args.self.now.told) c.new-2.ensures (ap view c.replace-start.ensures.value))
    (view-list c.replace-steps.result ∙ ap (λ vs. array (items_of (map view vs.items))) c.replace-steps.ensures.value))
