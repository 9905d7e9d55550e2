use Rattle.tso_report.specs.inner.Objects.{HasMembers}
use Rattle.search_report.proofs.Vocabulary.{drop, coherence_members_by}
use Rattle.search_report.proofs.reasons_as_json.coherence_value.Given as goal

abbrev pub invariant-loop-number : goal.invariant-loop-number
invariant-loop-number l = HasMembers l.members (coherence_members_by l.test l.order l.number (drop l.number l.test.locations))
