use Rattle.cache_set.proofs.Vocabulary.{◌∙◌, ◌∷◌, ◌++◌, [], replicate, ap, arith, ◌≤◌, ◌≡◌, replicate_more, contents}
use Rattle.cache_set.proofs.WholeCache.{new-home}
use Rattle.cache_set.proofs.cache.Cache.new.Goals as goal

pub loop-preserved : goal.loop-preserved
loop-preserved c =
    let empty = contents [] c.args.shape.ways in
    c.in_ok-push.ensures.items ∙ (ap (λ l. l ++ c.in_ok-set.set ∷ []) c.loop.invariant
    ∙ (ap (λ s. replicate c.loop.counter empty ++ s ∷ []) (c.in_ok-set.ensures ∙ ap (contents []) c.ways.ensures.value) ∙ replicate_more c.loop.counter empty))

pub invariant_of-result : goal.invariant_of-result
invariant_of-result c =
    let all : 1 ≤ c.loop.counter = omega arith in
    new-home c.loop.sets.items c.loop.counter c.args.shape.ways all c.loop.invariant

pub returns : goal.returns
returns c =
    let all : c.loop.counter ≡ c.args.shape.sets = omega arith in
    c.loop.invariant ∙ ap (λ n. replicate n (contents [] c.args.shape.ways)) all
