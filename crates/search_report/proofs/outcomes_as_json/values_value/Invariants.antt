use Rattle.tso_report.specs.inner.Objects.{HasMembers}
use Rattle.search_report.proofs.Vocabulary.{drop, value_members}
use Rattle.search_report.proofs.outcomes_as_json.values_value.Given as goal

abbrev pub invariant-loop-at : goal.invariant-loop-at
invariant-loop-at l = HasMembers l.members (value_members l.test (drop l.at l.names) (drop l.at l.values))
