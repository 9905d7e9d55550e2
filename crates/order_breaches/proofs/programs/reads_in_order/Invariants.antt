use Rattle.order_breaches.proofs.Vocabulary.{◌≡◌, ◌++◌, drop, reads_that_came}
use Rattle.order_breaches.proofs.programs.reads_in_order.Given as goal

abbrev pub invariant-loop-i : goal.invariant-loop-i
invariant-loop-i l = reads_that_came 0 l.came l.shape ≡ l.values.items ++ reads_that_came l.i l.came (drop l.i l.shape)
