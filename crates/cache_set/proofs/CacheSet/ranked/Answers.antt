use Rattle.cache_set.proofs.Vocabulary.{IsCacheSet}
use Rattle.cache_set.proofs.SetLemmas.{ranked_found}
use Rattle.cache_set.proofs.CacheSet.ranked.Goals as goal

pub returns-clause-found : goal.returns-clause-found
returns-clause-found c =
    let valid : IsCacheSet c.args.self.now = rw c.self.view_is at c.self.invariant.0 in
    ranked_found c.args.self.now c.args.rank c.copy_at.result valid (rw (← c.self.view_is) c.copy_at.ensures)
