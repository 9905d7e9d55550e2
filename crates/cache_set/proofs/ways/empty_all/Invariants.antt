use Rattle.cache_set.proofs.Vocabulary.{◌≡◌, ◌≤◌, ◌+◌, length, copies_in, AreWays}
use Rattle.cache_set.proofs.ways.empty_all.Given as goal

-- no more copies are left than steps
abbrev pub invariant-loop : goal.invariant-loop
invariant-loop l = (length (copies_in l.ways.entries) + l.counter ≤ l.end) × ((l.ways.cap ≡ l.initial.ways.cap) × AreWays l.ways.entries l.ways.cap)
