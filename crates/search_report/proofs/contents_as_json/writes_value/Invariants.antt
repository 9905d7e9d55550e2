use Rattle.tso_report.specs.inner.Arrays.{IsBegun}
use Rattle.search_report.proofs.Vocabulary.{drop, map, filter, string, writes_to, printed_entry}
use Rattle.search_report.proofs.contents_as_json.writes_value.Given as goal

abbrev pub invariant-loop-entry : goal.invariant-loop-entry
invariant-loop-entry l =
    IsBegun l.values (map (λ v. string (printed_entry l.test v)) (filter (writes_to l.loc.0) (drop l.entry-index l.order)))
    (map (λ v. string (printed_entry l.test v)) (filter (writes_to l.loc.0) l.order))
