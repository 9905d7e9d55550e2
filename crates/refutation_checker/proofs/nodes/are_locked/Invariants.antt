use Rattle.refutation_checker.proofs.Vocabulary.{◌≡◌, drop, list_all, is_locked_write}
use Rattle.refutation_checker.proofs.nodes.are_locked.Given as goal

abbrev pub invariant-loop-e : goal.invariant-loop-e
invariant-loop-e l = list_all (is_locked_write l.loc) (drop l.e-index l.events) ≡ list_all (is_locked_write l.loc) l.events
