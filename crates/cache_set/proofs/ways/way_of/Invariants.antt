use Rattle.cache_set.proofs.Vocabulary.{◌≡◌, way_of}
use Rattle.cache_set.proofs.ways.way_of.Given as goal

-- the line lies among the ways that are left, if it is here at all
abbrev pub invariant-loop-number : goal.invariant-loop-number
invariant-loop-number l = way_of l.line l.ways.entries ≡ way_of l.line l.number-iterator
