use Rattle.cache_set.proofs.Vocabulary.{arith, add-one}
use Rattle.cache_set.proofs.WayContents.{put-unused}
use Rattle.cache_set.proofs.ways.empty_ways.Goals as goal

pub loop-number-preserved : goal.loop-number-preserved
loop-number-preserved c =
    let all = c.loop-number.invariant in
    let less = c.loop-number-test.true in
    let put =
    put-unused c.loop-number.number c.loop-number.ways.cap c.unused.result c.loop-number.ways.entries (omega arith)
    all.0 all.1.0 all.1.1 c.unused.ensures in
    rw (c.in_ok-push.ensures.entries, add-one) (put.0, (put.1.0, put.1.1, all.1.2))
