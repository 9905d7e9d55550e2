use Rattle.cache_set.proofs.Vocabulary.{◌≡◌, nat_eq, lookup, copies_in}
use Rattle.cache_set.proofs.ways.copy_of.Given as goal

-- the line is among those that are left, if it is here at all
abbrev pub invariant-loop-way : goal.invariant-loop-way
invariant-loop-way l = lookup (nat_eq l.line) (copies_in l.ways.entries) ≡ lookup (nat_eq l.line) (copies_in l.way-iterator)
