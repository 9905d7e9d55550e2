use Rattle.search_report.proofs.Vocabulary.{◌≡◌, drop, list_any, writes_to}
use Rattle.search_report.proofs.reasons_as_text.has_write.Given as goal

abbrev pub invariant-loop-e : goal.invariant-loop-e
invariant-loop-e l =
    list_any (writes_to l.loc.0) (drop l.e-index l.order) ≡ list_any (writes_to l.loc.0) l.order
