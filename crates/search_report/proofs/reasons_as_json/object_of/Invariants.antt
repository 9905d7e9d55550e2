use Rattle.tso_report.specs.inner.Objects.{HasMembers}
use Rattle.search_report.proofs.Vocabulary.{◌≡◌, drop, Members, no_members}
use Rattle.search_report.specs.inner.Contents.{with_fields}
use Rattle.search_report.proofs.reasons_as_json.object_of.Given as goal

-- it has members to which those still to come are added
abbrev pub invariant-loop-before : goal.invariant-loop-before
invariant-loop-before l =
    (ms : Members)
    × HasMembers l.object ms
    × (with_fields l.test (drop l._before-index l.fields) ms ≡ with_fields l.test l.fields no_members)
