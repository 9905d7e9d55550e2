use Rattle.refutation_checker.proofs.Vocabulary.{◌≡◌, map, drop, filter, list_all, Some, writes_to, overwrites, knowledge_of}
use Rattle.refutation_checker.proofs.edges.overwrites_all.Given as goal

abbrev pub invariant-loop-w : goal.invariant-loop-w
invariant-loop-w l =
    list_all (overwrites l.told.test.now (knowledge_of l.told) l.r l.v) (map (λ w. Some w) (filter (writes_to l.r.loc.0) (drop l.w-index l.w-items)))
    ≡ list_all (overwrites l.told.test.now (knowledge_of l.told) l.r l.v) (map (λ w. Some w) (filter (writes_to l.r.loc.0) l.w-items))
