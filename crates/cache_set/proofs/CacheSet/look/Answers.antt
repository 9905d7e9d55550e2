use Rattle.cache_set.proofs.Vocabulary.{ap, ◌∙◌, Contents, copy_of, IsCacheSet}
use Rattle.cache_set.proofs.SetLemmas.{copy_of-valid}
use Rattle.cache_set.proofs.CacheSet.look.Goals as goal

pub returns-clause-found : goal.returns-clause-found
returns-clause-found c = c.copy_of.ensures ∙ ap (λ (s : Contents). copy_of s c.args.line) c.self.view_is

pub returns-clause-copies : goal.returns-clause-copies
returns-clause-copies c = λ k.
    let valid : IsCacheSet c.args.self.now = rw c.self.view_is at c.self.invariant.0 in
    copy_of-valid k c.args.self.now valid
