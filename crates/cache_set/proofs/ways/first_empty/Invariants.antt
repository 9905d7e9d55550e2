use Rattle.cache_set.proofs.Vocabulary.{◌≡◌, first_empty}
use Rattle.cache_set.proofs.ways.first_empty.Given as goal

-- the first empty way is among those that are left, if there is one
abbrev pub invariant-loop-number : goal.invariant-loop-number
invariant-loop-number l = first_empty l.ways.entries ≡ first_empty l.number-iterator
