use Rattle.order_breaches.proofs.Breaches.{breach-is-real}
use Rattle.order_breaches.proofs.first_breaches.first_breach_is_real.Goals as goal

pub returns : goal.returns
returns c = breach-is-real
