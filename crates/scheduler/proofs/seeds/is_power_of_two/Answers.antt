use Rattle.scheduler.proofs.Vocabulary.{ℕ, ◌*◌, ap}
use Rattle.scheduler.proofs.seeds.is_power_of_two.Goals as goal

pub returns-in-2 : goal.returns-in-2
returns-in-2 c = λ is. (2, ap (λ (n : ℕ). 2 * n) c.in-2.is)

pub returns-in-4 : goal.returns-in-4
returns-in-4 c = λ is. (3, ap (λ (n : ℕ). 2 * n) c.in-4.is)

pub returns-in-8 : goal.returns-in-8
returns-in-8 c = λ is. (4, ap (λ (n : ℕ). 2 * n) c.in-8.is)
