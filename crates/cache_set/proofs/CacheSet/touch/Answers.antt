use Rattle.cache_set.proofs.Vocabulary.{◌≡◌, Some, sym, IsCacheSet, way_of}
use Rattle.cache_set.proofs.SetLemmas.{IsCacheSet-to_front, copy_of-to_front}
use Rattle.cache_set.proofs.WayLists.{once-distinct, way_of-some}
use Rattle.cache_set.proofs.WayContents.{contents-promoted, AreWays-promoted}
use Rattle.cache_set.proofs.CacheSet.touch.Goals as goal

pub unwrap-number-requires : goal.unwrap-number-requires
unwrap-number-requires c = rw c.way_of.ensures (way_of-some c.args.line c.self.inside.ways.entries (rw (← c.self.view_is) at c.requires))

pub invariant_of-self : goal.invariant_of-self
invariant_of-self c =
    let h : way_of c.args.line c.self.inside.ways.entries ≡ Some c.unwrap-number.result = sym (rw c.unwrap-number.ensures at c.way_of.ensures) in
    let once = once-distinct c.self.inside.ways.entries c.len-numbers.ensures.valid.0 in
    rw (c.promote.ensures.entries, contents-promoted c.args.line c.unwrap-number.result c.self.inside.ways.cap c.self.inside.ways.entries once h) (
      IsCacheSet-to_front c.args.line _ c.self.invariant.0,
      AreWays-promoted c.args.line c.unwrap-number.result c.self.inside.ways.cap c.self.inside.ways.entries h c.self.invariant.1,
    )

pub returns-clause-exact : goal.returns-clause-exact
returns-clause-exact c =
    let h : way_of c.args.line c.self.inside.ways.entries ≡ Some c.unwrap-number.result = sym (rw c.unwrap-number.ensures at c.way_of.ensures) in
    let once = once-distinct c.self.inside.ways.entries c.len-numbers.ensures.valid.0 in
    rw (c.promote.ensures.entries, ← c.self.view_is)
    (contents-promoted c.args.line c.unwrap-number.result c.self.inside.ways.cap c.self.inside.ways.entries once h)

pub returns-clause-valid : goal.returns-clause-valid
returns-clause-valid c = (invariant_of-self c).0

pub returns-clause-copies : goal.returns-clause-copies
returns-clause-copies c = λ k.
    let was : IsCacheSet c.args.self.now = rw c.self.view_is at c.self.invariant.0 in
    copy_of-to_front c.args.line k c.args.self.now _ was (returns-clause-exact c)
