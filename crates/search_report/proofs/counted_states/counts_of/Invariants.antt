use Rattle.search_report.proofs.Vocabulary.{claim_of}
use Rattle.search_report.proofs.Truths.{Counts}
use Rattle.search_report.proofs.counted_states.counts_of.Given as goal

abbrev pub invariant-loop-state : goal.invariant-loop-state
invariant-loop-state l = Counts (claim_of l.cond.prop) l.held l.state-iterator l.outcomes.entries
