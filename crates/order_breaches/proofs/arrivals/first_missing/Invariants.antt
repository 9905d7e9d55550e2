use Rattle.order_breaches.proofs.Vocabulary.{HasNotCome, NoneBefore}
use Rattle.order_breaches.proofs.arrivals.first_missing.Given as goal

abbrev pub invariant-loop-i : goal.invariant-loop-i
invariant-loop-i l = NoneBefore l.shape (HasNotCome l.came) l.i
