use Rattle.cache_set.proofs.Vocabulary.{◌≡◌, [], length, copies_in, NumbersBelow}
use Rattle.cache_set.proofs.ways.empty_ways.Given as goal

-- as many ways as steps, all empty
abbrev pub invariant-loop-number : goal.invariant-loop-number
invariant-loop-number l = (length l.ways.entries ≡ l.number) × (NumbersBelow l.number l.ways.entries × (copies_in l.ways.entries ≡ []) × (l.ways.cap ≡ l.count))
