use Rattle.cache_set.proofs.Vocabulary.{◌≡◌, first_full}
use Rattle.cache_set.proofs.ways.first_full.Given as goal

-- the first way that has a line is among those that are left, if there is one
abbrev pub invariant-loop-number : goal.invariant-loop-number
invariant-loop-number l = first_full l.ways.entries ≡ first_full l.number-iterator
