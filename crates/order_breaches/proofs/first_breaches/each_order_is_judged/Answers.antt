use Rattle.order_breaches.proofs.Judged.{judged}
use Rattle.order_breaches.proofs.first_breaches.each_order_is_judged.Goals as goal

pub returns : goal.returns
returns c = judged
