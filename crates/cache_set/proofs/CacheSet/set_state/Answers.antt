use Rattle.cache_set.proofs.Vocabulary.{◌≡◌, Some, nat_eq, sym, ◌∙◌, lookup, with_state, way_of}
use Rattle.cache_set.proofs.SetLemmas.{IsCacheSet-with_changed, copy_of-with_changed}
use Rattle.cache_set.proofs.WayLists.{once-distinct, way_of-some, way_of-found, some-copied, is_invalid-valid}
use Rattle.cache_set.proofs.WayContents.{contents-changed, AreWays-set}
use Rattle.cache_set.proofs.CacheSet.set_state.Goals as goal

pub unwrap-number-requires : goal.unwrap-number-requires
unwrap-number-requires c = rw c.way_of.ensures (way_of-some c.args.line c.self.inside.ways.entries (rw (← c.self.view_is) at c.requires.present))

pub unwrap-way-requires : goal.unwrap-way-requires
unwrap-way-requires c =
    let h : way_of c.args.line c.self.inside.ways.entries ≡ Some c.unwrap-number.result = sym (rw c.unwrap-number.ensures at c.way_of.ensures) in
    let there = way_of-found c.args.line c.unwrap-number.result c.self.inside.ways.entries h in
    some-copied c.peek_mut.result there.0 (c.peek_mut.ensures.value ∙ there.1)

pub invariant_of-self : goal.invariant_of-self
invariant_of-self c =
    let h : way_of c.args.line c.self.inside.ways.entries ≡ Some c.unwrap-number.result = sym (rw c.unwrap-number.ensures at c.way_of.ensures) in
    let once = once-distinct c.self.inside.ways.entries c.len-numbers.ensures.valid.0 in
    let found : lookup (nat_eq c.unwrap-number.result) c.self.inside.ways.entries ≡ Some c.unwrap-way.result.now =
    sym (rw c.unwrap-way.ensures at c.peek_mut.ensures.value) in
    let full = is_invalid-valid c.args.state c.requires.valid in
    rw (contents-changed (with_state c.args.state) c.args.line c.unwrap-number.result c.self.inside.ways.cap
    c.unwrap-way.result.now c.self.inside.ways.entries c.self.invariant.0 once h found full) (
      IsCacheSet-with_changed (with_state c.args.state) c.args.line _ (λ copy _. c.requires.valid) c.self.invariant.0,
      AreWays-set c.unwrap-number.result c.self.inside.ways.cap _ c.self.inside.ways.entries c.self.invariant.1,
    )

pub returns-clause-exact : goal.returns-clause-exact
returns-clause-exact c =
    let h : way_of c.args.line c.self.inside.ways.entries ≡ Some c.unwrap-number.result = sym (rw c.unwrap-number.ensures at c.way_of.ensures) in
    let once = once-distinct c.self.inside.ways.entries c.len-numbers.ensures.valid.0 in
    let found : lookup (nat_eq c.unwrap-number.result) c.self.inside.ways.entries ≡ Some c.unwrap-way.result.now =
    sym (rw c.unwrap-way.ensures at c.peek_mut.ensures.value) in
    let full = is_invalid-valid c.args.state c.requires.valid in
    rw (← c.self.view_is)
    (contents-changed (with_state c.args.state) c.args.line c.unwrap-number.result c.self.inside.ways.cap
    c.unwrap-way.result.now c.self.inside.ways.entries c.self.invariant.0 once h found full)

pub returns-clause-valid : goal.returns-clause-valid
returns-clause-valid c = (invariant_of-self c).0

pub returns-clause-copies : goal.returns-clause-copies
returns-clause-copies c = λ k. copy_of-with_changed (with_state c.args.state) c.args.line k c.args.self.now _ (returns-clause-exact c)
