use Rattle.machine_core.proofs.Vocabulary.{◌≡◌, subst, is_ended}
use Rattle.machine_core.proofs.machine.Machine.is_ended.Goals as goal

pub returns-then-not-self : goal.returns-then-not-self
returns-then-not-self g c = subst (λ m. c.are_done.result ≡ is_ended m) c.self.view_is (rw c.if-not-self.true c.are_done.ensures)
