use Rattle.trace_report.proofs.Vocabulary.{◌≡◌, ◌++◌, drop, changes_in}
use Rattle.trace_report.proofs.states.changes_in.Given as goal

abbrev pub invariant-loop-at : goal.invariant-loop-at
invariant-loop-at l = l.changes.items ++ changes_in (drop l.at l.before) (drop l.at l.after) ≡ changes_in l.before l.after
