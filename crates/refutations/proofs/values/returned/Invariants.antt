use Rattle.refutations.proofs.Vocabulary.{◌≡◌, drop, returned}
use Rattle.refutations.proofs.values.returned.Given as goal

abbrev pub invariant-loop-s : goal.invariant-loop-s
invariant-loop-s l = returned l.test l.writes l.sources l.r ≡ returned l.test l.writes (drop l.s-index l.sources) l.r
