use Rattle.cache_set.proofs.Vocabulary.{◌≡◌, ◌∙◌, ◌∷◌, ◌++◌, [], replicate, replicate_more, ap, arith, contents}
use Rattle.cache_set.proofs.cache.empty_caches.Goals as goal

pub loop-preserved : goal.loop-preserved
loop-preserved c =
    let empty = replicate c.args.shape.sets (contents [] c.args.shape.ways) in
    c.in_ok-push.ensures.items ∙ ap (λ caches. caches ++ c.in_ok-cache.cache ∷ []) c.loop.invariant
    ∙ ap (λ cache. replicate c.loop.counter empty ++ cache ∷ []) c.in_ok-cache.ensures ∙ replicate_more c.loop.counter empty

pub returns : goal.returns
returns c =
    let all : c.loop.counter ≡ c.args.cores = omega arith in
    c.loop.invariant ∙ ap (λ n. replicate n (replicate c.args.shape.sets (contents [] c.args.shape.ways))) all
