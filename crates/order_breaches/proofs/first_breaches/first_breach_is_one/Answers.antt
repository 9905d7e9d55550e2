use Rattle.order_breaches.proofs.Breaches.{one-breach}
use Rattle.order_breaches.proofs.first_breaches.first_breach_is_one.Goals as goal

pub returns : goal.returns
returns c = one-breach
