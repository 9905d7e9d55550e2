use Rattle.cache_set.proofs.Vocabulary.{snoop_column}
use Rattle.cache_set.proofs.FindLemmas.{FoundBelow}
use Rattle.cache_set.proofs.finding.find.Given as goal

abbrev pub invariant-loop-core : goal.invariant-loop-core
invariant-loop-core g l = FoundBelow l.core (snoop_column (g.P.Protocol.table l.protocol) l.request) l.line l.caches l.found
