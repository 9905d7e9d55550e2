use Rattle.refutations.proofs.Vocabulary.{◌≡◌, drop, value_among}
use Rattle.refutations.proofs.values.value_among.Given as goal

abbrev pub invariant-loop-x : goal.invariant-loop-x
invariant-loop-x l = value_among l.writes l.w ≡ value_among (drop l.x-index l.writes) l.w
