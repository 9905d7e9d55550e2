use Rattle.cache_set.proofs.Vocabulary.{◌≡◌, slice_get, copies_in}
use Rattle.cache_set.proofs.ways.copy_at.Given as goal

-- so many copies are passed over yet, of those that are left
abbrev pub invariant-loop-way : goal.invariant-loop-way
invariant-loop-way l = slice_get (copies_in l.ways.entries) l.rank ≡ slice_get (copies_in l.way-iterator) l.before
