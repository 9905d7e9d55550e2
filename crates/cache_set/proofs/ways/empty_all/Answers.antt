use Rattle.cache_set.proofs.Vocabulary.{arith, ◌≡◌, Some, refl, sym, ◌∙◌, first_full}
use Rattle.cache_set.proofs.WayLists.{once-distinct, some-copied, length-copies, first_full-found, copies-none, length-emptied}
use Rattle.cache_set.proofs.WayContents.{emptied, AreWays-set}
use Rattle.cache_set.proofs.ways.empty_all.Goals as goal

pub loop-init : goal.loop-init
loop-init c =
    let fewer = length-copies c.args.ways.now.entries in
    let size = c.len-end.ensures.len in
    (omega arith, (refl, c.requires))

pub returns-in_default-clause-copies : goal.returns-in_default-clause-copies
returns-in_default-clause-copies c = copies-none c.loop.ways.entries (sym c.first_full.ensures ∙ c.in_default.is)

pub unwrap-way-requires : goal.unwrap-way-requires
unwrap-way-requires c =
    let h : first_full c.loop.ways.entries ≡ Some c.in-Some.number = sym c.first_full.ensures ∙ c.in-Some.is in
    let there = first_full-found c.in-Some.number c.loop.ways.entries h in
    some-copied c.peek_mut.result there.0 (c.peek_mut.ensures.value ∙ there.1)

pub loop-preserved : goal.loop-preserved
loop-preserved c =
    let h : first_full c.loop.ways.entries ≡ Some c.in-Some.number = sym c.first_full.ensures ∙ c.in-Some.is in
    let once = once-distinct c.loop.ways.entries c.len-numbers.ensures.valid.0 in
    let fewer = length-emptied c.in-Some.number (emptied c.unwrap-way.result.now) c.loop.ways.entries once h refl in
    let most = c.loop.invariant.0 in (
      omega arith,
      (
        c.loop.invariant.1.0,
        AreWays-set c.in-Some.number c.loop.ways.cap (emptied c.unwrap-way.result.now) c.loop.ways.entries c.loop.invariant.1.1,
      ),
    )
