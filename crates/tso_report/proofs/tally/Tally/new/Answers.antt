use Rattle.tso_report.proofs.Vocabulary.{is_some}
use Rattle.tso_report.proofs.Tallies.{nothing-kept}
use Rattle.tso_report.proofs.tally.Tally.new.Goals as goal

pub invariant_of-result : goal.invariant_of-result
invariant_of-result c = (c.in_ok-names.ensures.list, nothing-kept (is_some c.args.test.now.condition) c.new.result c.new.ensures.empty)
