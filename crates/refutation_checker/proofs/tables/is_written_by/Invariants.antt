use Rattle.refutation_checker.proofs.Vocabulary.{◌≡◌, map, drop, filter, list_any, Some, writes_to, same_source}
use Rattle.refutation_checker.proofs.tables.is_written_by.Given as goal

abbrev pub invariant-loop-v : goal.invariant-loop-v
invariant-loop-v l =
    list_any (same_source (Some l.w)) (map (λ w. Some w) (filter (writes_to l.read.loc.0) (drop l.v-index l.v-items)))
    ≡ list_any (same_source (Some l.w)) (map (λ w. Some w) (filter (writes_to l.read.loc.0) l.v-items))
