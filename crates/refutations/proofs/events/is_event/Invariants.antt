use Rattle.refutations.proofs.Vocabulary.{◌≡◌, drop, list_any, same_event, is_event}
use Rattle.refutations.proofs.events.is_event.Given as goal

abbrev pub invariant-loop-e : goal.invariant-loop-e
invariant-loop-e l =
    list_any (same_event l.x) (drop l.e-index l.events) ≡ is_event l.test l.x
