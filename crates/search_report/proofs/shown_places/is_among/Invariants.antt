use Rattle.search_report.proofs.Vocabulary.{◌≡◌, drop, list_any}
use Rattle.search_report.specs.Places.{is_same_place}
use Rattle.search_report.proofs.shown_places.is_among.Given as goal

abbrev pub invariant-loop-name : goal.invariant-loop-name
invariant-loop-name l = list_any (is_same_place l.named) l.names ≡ list_any (is_same_place l.named) (drop l.name-index l.names)
