use Rattle.explorer.proofs.Marks.{held-by-none, none-marked}
use Rattle.explorer.proofs.eager.others_avoid.Goals as goal

pub returns : goal.returns
returns c = λ q j n. held-by-none _ _ _ _ _ _ _ (none-marked 8 j) (none-marked 8 j) (c.others_are_held_back.ensures q j n)
