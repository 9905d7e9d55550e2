use Rattle.tso_report.specs.inner.Objects.{HasMembers}
use Rattle.tso_report.proofs.Vocabulary.{drop, memory_members}
use Rattle.tso_report.proofs.json.memory_value.Given as goal

abbrev pub invariant-loop-loc : goal.invariant-loop-loc
invariant-loop-loc l = HasMembers l.words (memory_members (drop l.loc l.test.locations) (drop l.loc l.memory))
