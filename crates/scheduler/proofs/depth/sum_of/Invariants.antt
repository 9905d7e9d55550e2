use Rattle.scheduler.proofs.Vocabulary.{◌≡◌, take, sum}
use Rattle.scheduler.proofs.depth.sum_of.Given as goal

abbrev pub invariant-loop-count : goal.invariant-loop-count
invariant-loop-count l = l.total ≡ sum (take l.count-index l.counts)
