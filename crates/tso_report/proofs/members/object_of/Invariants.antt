use Rattle.tso_report.specs.inner.Objects.{HasMembers}
use Rattle.tso_report.proofs.Vocabulary.{◌≡◌, drop, Members, no_members, with_data}
use Rattle.tso_report.proofs.members.object_of.Given as goal

-- it has members to which those still to come are added
abbrev pub invariant-loop-key : goal.invariant-loop-key
invariant-loop-key l = (ms : Members) × HasMembers l.object ms × (with_data (drop l.key-index l.fields) ms ≡ with_data l.fields no_members)
