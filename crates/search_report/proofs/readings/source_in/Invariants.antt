use Rattle.search_report.proofs.Vocabulary.{◌≡◌, drop, filter, writes_to, is_before, Entry, last_in, last_or}
use Rattle.search_report.proofs.readings.source_in.Given as goal

abbrev pub invariant-loop-e : goal.invariant-loop-e
invariant-loop-e l = last_in (filter (writes_to l.read.loc.0) l.e-items) ≡ last_or l.last (filter (writes_to l.read.loc.0) (drop l.e-index l.e-items))

abbrev pub invariant-loop-e-2 : goal.invariant-loop-e-2
invariant-loop-e-2 l =
    last_or l.initial.last (filter (writes_to l.read.loc.0) (filter (λ (e : Entry). is_before e l.read) l.e-items))
    ≡ last_or l.last (filter (writes_to l.read.loc.0) (filter (λ (e : Entry). is_before e l.read) (drop l.e-index l.e-items)))
