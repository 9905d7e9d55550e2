use Rattle.tso_report.specs.inner.Objects.{HasMembers}
use Rattle.search_report.proofs.Vocabulary.{drop, map, place_of}
use Rattle.search_report.specs.ReasonJson as spec
use Rattle.search_report.proofs.contents_as_json.content_value.Given as goal

abbrev pub invariant-loop-at : goal.invariant-loop-at
invariant-loop-at l = HasMembers l.members (spec.place_members l.test (map place_of (drop l.at l.places)))
