use Rattle.reading_tables.proofs.Vocabulary.{◌≡◌, drop, list_any, ◌&&◌}
use Rattle.tso_terms.specs.ProgramOrder.{writes_to, is_before}
use Rattle.reading_tables.proofs.sources.is_overwritten.Given as goal

abbrev pub invariant-loop-v : goal.invariant-loop-v
invariant-loop-v l =
    list_any (λ v. writes_to l.read.loc.0 v && is_before l.w v && is_before v l.read) l.events
    ≡ list_any (λ v. writes_to l.read.loc.0 v && is_before l.w v && is_before v l.read) (drop l.v-index l.events)
