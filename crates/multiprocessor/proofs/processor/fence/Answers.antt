use Rattle.multiprocessor.proofs.Vocabulary.{refl, sym, NoAccess, words_of, core_state, effect_of_fence, Whole}
use Rattle.multiprocessor.proofs.CoreLemmas.{holds_some, fenced-waits}
use Rattle.multiprocessor.proofs.ActedLemmas.{acts-stalls}
use Rattle.multiprocessor.proofs.processor.fence.Goals as goal

pub returns-then-not-is_empty-clause-acts : goal.returns-then-not-is_empty-clause-acts
returns-then-not-is_empty-clause-acts c = λ bus.
    let p = c.args.processor.now in
    acts-stalls Whole NoAccess c.args.core.0 p bus c.args.commits.now (effect_of_fence c.args.core.0 p (words_of bus)) _ refl
    (sym (fenced-waits c.args.core.0 (core_state c.args.core.0 p) p.stores.items
    (holds_some c.is_empty.result p.stores.items c.is_empty.ensures.1 c.if-not-is_empty.true)))
