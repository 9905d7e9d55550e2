use Rattle.basic_laws.proofs.Ranks.{by-rank}
use Rattle.basic_laws.proofs.program_order_goes_by_rank.Goals as goal

pub returns : goal.returns
returns c = λ x y. by-rank x y
