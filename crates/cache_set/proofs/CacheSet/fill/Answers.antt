use Rattle.cache_set.proofs.Vocabulary.{◌≡◌, None, nat_eq, sym, ap, ◌∙◌, lookup, victim_of, IsCacheSet, copy_with, copies_in}
use Rattle.cache_set.proofs.SetLemmas.{IsCacheSet-with_new, copy_of-with_new, victim_of-was_here}
use Rattle.cache_set.proofs.WayLists.{once-distinct, is_invalid-valid}
use Rattle.cache_set.proofs.WayContents.{taken-over-fills, taken-over-found}
use Rattle.cache_set.proofs.CacheSet.fill.Goals as goal

pub way_to_take_over-number-requires : goal.way_to_take_over-number-requires
way_to_take_over-number-requires c = rw c.self.invariant.1.all c.self.invariant.0.room

pub take_over-requires : goal.take_over-requires
take_over-requires c =
    let once = once-distinct c.self.inside.ways.entries c.len-numbers.ensures.valid.0 in
    taken-over-found c.way_to_take_over-number.result c.self.inside.ways.entries once c.way_to_take_over-number.ensures

pub invariant_of-self : goal.invariant_of-self
invariant_of-self c =
    let once = once-distinct c.self.inside.ways.entries c.len-numbers.ensures.valid.0 in
    let filled =
    taken-over-fills c.args.line c.way_to_take_over-number.result c.self.inside.ways.cap
    (copy_with c.args.state c.args.words) c.take_over.result c.self.inside.ways.entries c.self.invariant.0.room
    (is_invalid-valid c.args.state c.requires.valid) once c.self.invariant.1 (sym c.take_over.ensures.old)
    c.way_to_take_over-number.ensures in
    let absent : lookup (nat_eq c.args.line) (copies_in c.self.inside.ways.entries) ≡ None = rw (← c.self.view_is) at c.requires.absent in
    rw (c.take_over.ensures.exact, filled.0)
    (IsCacheSet-with_new c.args.line (copy_with c.args.state c.args.words) _ absent c.requires.valid c.self.invariant.0, filled.1.1)

pub returns-clause-exact : goal.returns-clause-exact
returns-clause-exact c =
    let once = once-distinct c.self.inside.ways.entries c.len-numbers.ensures.valid.0 in
    let filled =
    taken-over-fills c.args.line c.way_to_take_over-number.result c.self.inside.ways.cap
    (copy_with c.args.state c.args.words) c.take_over.result c.self.inside.ways.entries c.self.invariant.0.room
    (is_invalid-valid c.args.state c.requires.valid) once c.self.invariant.1 (sym c.take_over.ensures.old)
    c.way_to_take_over-number.ensures in
    rw (c.take_over.ensures.exact, ← c.self.view_is) filled.0

pub returns-clause-victim : goal.returns-clause-victim
returns-clause-victim c =
    let once = once-distinct c.self.inside.ways.entries c.len-numbers.ensures.valid.0 in
    let filled =
    taken-over-fills c.args.line c.way_to_take_over-number.result c.self.inside.ways.cap
    (copy_with c.args.state c.args.words) c.take_over.result c.self.inside.ways.entries c.self.invariant.0.room
    (is_invalid-valid c.args.state c.requires.valid) once c.self.invariant.1 (sym c.take_over.ensures.old)
    c.way_to_take_over-number.ensures in
    c.victim_in.ensures ∙ filled.1.0 ∙ ap victim_of c.self.view_is

pub returns-clause-copies : goal.returns-clause-copies
returns-clause-copies c = λ k.
    let was : IsCacheSet c.args.self.now = rw c.self.view_is at c.self.invariant.0 in
    copy_of-with_new c.args.line (copy_with c.args.state c.args.words) c.victim_in.result k c.args.self.now _ was
    (returns-clause-exact c) (returns-clause-victim c)

pub returns-clause-was_here : goal.returns-clause-was_here
returns-clause-was_here c =
    let was : IsCacheSet c.args.self.now = rw c.self.view_is at c.self.invariant.0 in
    victim_of-was_here c.victim_in.result c.args.self.now was (returns-clause-victim c)

pub returns-clause-valid : goal.returns-clause-valid
returns-clause-valid c = (invariant_of-self c).0
