use Rattle.explorer.proofs.Vocabulary.{ℕ, List, ◌≡◌, ◌<◌, ◌∷◌, ◌++◌, [], inr, IsOneOf, IsCurrent, refl, length, map, slice_get, Some}
use Rattle.explorer.proofs.Vocabulary.{slice_index_or, arith, subst, ap, sym, ◌∙◌, slice_get-get_or, both_ways, has_ended, IsAmongStates}
use Rattle.explorer.proofs.Vocabulary.{exchanged, state_of_packed, state_of_snapshot}
use Rattle.explorer.proofs.Completing.{exchanged-none, exchanged-more, one-exchange}
use Rattle.explorer.proofs.Linking.{get-within, kept-at, linked-forgotten}
use Rattle.explorer.proofs.Searching.{grows-none, grows-on, current-here, current-is, current-grown}
use Rattle.explorer.proofs.closing.add_all_exchanged.Goals as goal

one-of : (pairs : List (ℕ × ℕ)) (at : ℕ) (pair : ℕ × ℕ) → at < length pairs → pair ≡ slice_index_or pairs at pair → IsOneOf pairs pair
one-of pairs at pair l q = (at, subst (λ z. slice_get pairs at ≡ Some z) (sym q) (slice_get-get_or pairs at pair l))

pub unpack-requires : goal.unpack-requires
unpack-requires c =
    c.requires.found.current
    ∙ sym (kept-at c.args.plan.now.test.now _ c.args.from c.index.result.now c.requires.found.cores c.index.ensures).cores

pub has_ended-requires : goal.has_ended-requires
has_ended-requires c = c.in_ok-unpack.ensures.cores ∙ c.requires.found.current

pub loop-at-preserved : goal.loop-at-preserved
loop-at-preserved c =
    let plan = c.args.plan.now in
    let alike = plan.alike.items in
    let pair = c.index-pair.result.now in
    let i = c.loop-at.invariant in
    let h = i.found in
    let l : c.loop-at.at < length alike = let a = c.loop-at-test.true in
    let b = c.loop-at.auto.at-end in
    let d = c.len-at-end.ensures in
    omega (arith, a, b, d) in
    let stands : slice_get alike c.loop-at.at ≡ Some (slice_index_or alike c.loop-at.at pair) = slice_get-get_or alike c.loop-at.at pair l in
    let one_of : IsOneOf alike pair = one-of alike c.loop-at.at pair l c.index-pair.ensures in
    let current : IsCurrent c.loop-at.found.states.keys c.args.from c.loop-at.found.current =
    current-grown _ _ _ _ _ i.grows i.current
    (current-here c.args.found.now.states.keys c.args.from c.index.result.now c.unpack.new.state c.index.ensures c.in_ok-unpack.ensures.value) in
    record {
      grows = grows-on _ _ _ i.grows c.in_ok-keep.ensures.grows;
      found =
          c.in_ok-keep.ensures.found plan (record {
            cores = h.cores;
            linked = h.linked;
            current = h.current;
            room = c.exchange.ensures.cores ∙ c.in_ok-overwrite.ensures.cores ∙ h.current;
          })
          (inr (
            current.kept,
            current.stands,
            one-exchange plan.depth plan.test.now plan.hidden.now alike c.push.new.self.items pair c.clear.new.self.items
                (state_of_packed current.kept) (state_of_snapshot c.exchange.new.state) c.requires.plan.alike one_of
                (linked-forgotten c.dead_registers_change_nothing.ensures c.alike_cores_are_exchangeable.ensures plan.depth plan.test.now plan.hidden.now
                c.loop-at.found.states.keys c.loop-at.found.links.items h.linked c.args.from current.kept current.stands)
                c.clear.ensures.items (c.in_ok-push.ensures.items ∙ ap (λ z. z ++ pair ∷ []) c.clear-in-loop-at.ensures.items)
                (c.exchange.ensures.value ∙ ap (exchanged pair) (c.in_ok-overwrite.ensures.value ∙ sym current.state_is)),
          ));
      current = c.in_ok-keep.ensures.current ∙ i.current;
      exchanged =
          exchanged-more alike _ _ (state_of_snapshot c.unpack.new.state) c.loop-at.at
          (slice_index_or alike c.loop-at.at pair) c.in_ok-keep.ensures.grows stands i.exchanged
          (subst (λ z.
          IsAmongStates (map state_of_packed c.keep.new.found.states.keys) (exchanged z (state_of_snapshot c.unpack.new.state)))
          c.index-pair.ensures
          (subst (λ z. IsAmongStates (map state_of_packed c.keep.new.found.states.keys) (exchanged pair (state_of_snapshot z))) i.current
          (subst (λ z. IsAmongStates (map state_of_packed c.keep.new.found.states.keys) z)
          (c.exchange.ensures.value ∙ ap (exchanged pair) c.in_ok-overwrite.ensures.value)
          c.in_ok-keep.ensures.among)));
    }

pub returns-clause-exchanged : goal.returns-clause-exchanged
returns-clause-exchanged c = λ s at ended pair m.
    let l = get-within c.args.plan.now.alike.items m.0 pair m.1 in
    let here = current-here c.args.found.now.states.keys c.args.from c.index.result.now c.unpack.new.state c.index.ensures c.in_ok-unpack.ensures.value in
    subst (λ z. IsAmongStates (map state_of_packed c.loop-at.found.states.keys) (exchanged pair z)) (current-is _ _ _ s here at)
    (c.loop-at.invariant.exchanged m.0 pair
    (let a =
    c.loop-at-test.false in
    let b = c.loop-at.auto.at-end in
    let d = c.len-at-end.ensures in
    omega (arith, l, a, b, d))
    m.1)

pub returns-then-not-has_ended-clause-exchanged : goal.returns-then-not-has_ended-clause-exchanged
returns-then-not-has_ended-clause-exchanged c = λ s at ended.
    let here = current-here c.args.found.now.states.keys c.args.from c.index.result.now c.unpack.new.state c.index.ensures c.in_ok-unpack.ensures.value in
    absurd (both_ways _ (ap (has_ended c.args.plan.now.test.now) (sym (current-is _ _ _ s here at)) ∙ sym c.has_ended.ensures ∙ c.if-not-has_ended.true) ended)

pub returns-then-not-has_ended-clause-grows : goal.returns-then-not-has_ended-clause-grows
returns-then-not-has_ended-clause-grows c = grows-none _

pub returns-then-not-has_ended-clause-found : goal.returns-then-not-has_ended-clause-found
returns-then-not-has_ended-clause-found c =
    let h = c.requires.found in
    record { cores = h.cores; linked = h.linked; current = c.in_ok-unpack.ensures.cores ∙ h.current; room = h.room }

pub loop-at-init : goal.loop-at-init
loop-at-init c = record {
  grows = grows-none _;
  found = let h = c.requires.found in record { cores = h.cores; linked = h.linked; current = c.in_ok-unpack.ensures.cores ∙ h.current; room = h.room };
  current = refl;
  exchanged = exchanged-none c.args.plan.now.alike.items c.args.found.now.states.keys (state_of_snapshot c.unpack.new.state);
}

pub overwrite-requires : goal.overwrite-requires
overwrite-requires c = c.loop-at.invariant.found.room ∙ sym c.loop-at.invariant.found.current

-- both cores of the pair are there
pub exchange-requires-clause-first : goal.exchange-requires-clause-first
exchange-requires-clause-first c =
    let a =
    c.requires.plan.alike c.index-pair.result.now
    (one-of c.args.plan.now.alike.items c.loop-at.at c.index-pair.result.now
    (let a =
    c.loop-at-test.true in let b = c.loop-at.auto.at-end in let d = c.len-at-end.ensures in omega (arith, a, b, d))
    c.index-pair.ensures) in
    let l = a.first in let n = c.in_ok-overwrite.ensures.cores in let m = c.loop-at.invariant.found.current in omega (arith, l, n, m)

pub exchange-requires-clause-second : goal.exchange-requires-clause-second
exchange-requires-clause-second c =
    let a =
    c.requires.plan.alike c.index-pair.result.now
    (one-of c.args.plan.now.alike.items c.loop-at.at c.index-pair.result.now
    (let a =
    c.loop-at-test.true in let b = c.loop-at.auto.at-end in let d = c.len-at-end.ensures in omega (arith, a, b, d))
    c.index-pair.ensures) in
    let l = a.second in let n = c.in_ok-overwrite.ensures.cores in let m = c.loop-at.invariant.found.current in omega (arith, l, n, m)
