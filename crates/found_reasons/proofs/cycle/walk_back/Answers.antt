use Rattle.found_reasons.proofs.Vocabulary.{◌≡◌, ◌<◌, ◌-◌, ◌+◌, true, length, take, None, Some, sym, subst, is_cycle, is_edge, knowledge_of, relations_of}
use Rattle.found_reasons.proofs.Walking.{IsWalk, around, shorter, walk-on, smaller, told}
use Rattle.found_reasons.proofs.cycle.walk_back.Goals as goal

pub returns-in-Some : goal.returns-in-Some
returns-in-Some c =
    let edge = is_edge c.args.told.test.now (knowledge_of c.args.told) (relations_of c.args.acyclic) in
    subst (λ part. is_cycle c.args.told.test.now edge part ≡ true) (sym c.truncate.ensures.items)
    (around c.args.told.test.now edge c.args.some.now c.loop-place.path.items c.loop-place.at c.requires.inside c.loop-place.invariant
    (take (c.in-Some.place + 1) c.loop-place.path.items)
    (told c.loop-place.at c.loop-place.path.items c.deref.result.now c.place_of.result (Some c.in-Some.place) c.deref.ensures.value c.place_of.ensures.place
    c.in-Some.is))

pub predecessor-at-requires-clause-some : goal.predecessor-at-requires-clause-some
predecessor-at-requires-clause-some c = c.requires.stuck c.loop-place.at c.loop-place.invariant.here

pub loop-place-smaller : goal.loop-place-smaller
loop-place-smaller c =
    subst (λ xs. length c.args.some.now - length xs < length c.args.some.now - length c.loop-place.path.items) (sym c.in_ok-insert.ensures.items)
    (smaller (length c.args.some.now) (length c.loop-place.path.items)
    (shorter (is_edge c.args.told.test.now (knowledge_of c.args.told) (relations_of c.args.acyclic)) c.args.some.now c.loop-place.path.items c.loop-place.at
    c.loop-place.invariant
    (told c.loop-place.at c.loop-place.path.items c.deref.result.now c.place_of.result None c.deref.ensures.value c.place_of.ensures.place
    c.in_default.is)))

pub loop-place-preserved : goal.loop-place-preserved
loop-place-preserved c =
    let edge = is_edge c.args.told.test.now (knowledge_of c.args.told) (relations_of c.args.acyclic) in
    subst (λ xs. IsWalk edge c.args.some.now xs c.predecessor-at.result) (sym c.in_ok-insert.ensures.items)
    (walk-on edge c.args.some.now c.loop-place.path.items c.loop-place.at c.predecessor-at.result c.loop-place.invariant
    (told c.loop-place.at c.loop-place.path.items c.deref.result.now c.place_of.result None c.deref.ensures.value c.place_of.ensures.place
    c.in_default.is)
    c.predecessor-at.ensures.inside c.predecessor-at.ensures.edge)
