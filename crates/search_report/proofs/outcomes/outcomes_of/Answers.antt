use Rattle.search_report.proofs.Vocabulary.{[], kept_of, kept_after}
use Rattle.search_report.proofs.Keeping.{one-kept}
use Rattle.search_report.proofs.outcomes.outcomes_of.Goals as goal

pub loop-state-preserved : goal.loop-state-preserved
loop-state-preserved c =
    let names = c.args.names.now in
    one-kept names c.state-item.result c.args.finals.now c.loop-state.state-index
    (kept_of c.loop-state.outcomes.entries) (kept_of c.keep_first.new.outcomes.entries)
    (kept_after names [] c.args.finals.now) c.deref.result.now c.deref-in-loop-state.result.now c.in_ok-values.values.items
    c.loop-state-test.true c.state-item.is c.deref.ensures.value c.deref-in-loop-state.ensures.value
    c.in_ok-values.ensures c.in_ok-keep_first.ensures c.loop-state.invariant
