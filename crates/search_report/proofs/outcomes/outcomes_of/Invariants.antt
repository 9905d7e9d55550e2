use Rattle.search_report.proofs.Vocabulary.{◌≡◌, [], drop, kept_of, kept_after}
use Rattle.search_report.proofs.outcomes.outcomes_of.Given as goal

abbrev pub invariant-loop-state : goal.invariant-loop-state
invariant-loop-state l =
    kept_after l.names (kept_of l.outcomes.entries) (drop l.state-index l.finals) ≡ kept_after l.names [] l.finals
