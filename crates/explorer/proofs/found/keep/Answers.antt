use Rattle.explorer.proofs.Vocabulary.{◌≡◌, ◌∷◌, ◌++◌, [], map, ap, sym, ◌∙◌, subst, IsAmongStates, LeadOn, AreLinked, HaveCores, Made}
use Rattle.explorer.proofs.Vocabulary.{Exchanged, state_of_packed, state_of_snapshot, Packed}
use Rattle.explorer.specs.contracts.packed.PackedPartialEq.TheImpl as packed_eq
use Rattle.explorer.proofs.Linking.{linked-on}
use Rattle.explorer.proofs.Same.{packed-same, same-any}
use Rattle.explorer.proofs.Searching.{added, among, among-added, cores-more, grows-none, packed-is, packed-kept}
use Rattle.explorer.proofs.found.keep.Goals as goal

pub returns-then-contains-clause-among : goal.returns-then-contains-clause-among
returns-then-contains-clause-among c =
    subst (λ z. IsAmongStates (map state_of_packed c.args.found.now.states.keys) z) c.in_ok-pack.ensures.state
    (among (packed_eq.eq-value).it packed-same c.args.found.now.states.keys c.pack.new.packed (sym c.contains.ensures ∙ c.if-contains.true))

pub returns-then-contains-clause-grows : goal.returns-then-contains-clause-grows
returns-then-contains-clause-grows c = grows-none _

pub returns-then-contains-clause-found : goal.returns-then-contains-clause-found
returns-then-contains-clause-found c = λ plan h leads. record { cores = h.cores; linked = h.linked; current = h.current; room = h.room }

pub returns-clause-grows : goal.returns-clause-grows
returns-clause-grows c = (
  (let z : Packed = record { bytes = c.in_ok-bytes.bytes } in z) ∷ [],
  added (packed_eq.eq-value).it c.args.found.now.states.keys _ (let z : Packed = record { bytes = c.in_ok-bytes.bytes } in z)
      (same-any
      (let z : Packed = record { bytes = c.in_ok-bytes.bytes } in z) c.pack.new.packed c.args.found.now.states.keys
      (c.in_ok-bytes.ensures.items ∙ c.deref.ensures.value)
      ∙ (sym c.contains.ensures ∙ c.if-contains.false))
      c.in_ok-insert.ensures.keys,
)

pub returns-clause-among : goal.returns-clause-among
returns-clause-among c =
    let new = added (packed_eq.eq-value).it c.args.found.now.states.keys _ (let z : Packed = record { bytes = c.in_ok-bytes.bytes } in z)
    (same-any
    (let z : Packed = record { bytes = c.in_ok-bytes.bytes } in z) c.pack.new.packed c.args.found.now.states.keys
    (c.in_ok-bytes.ensures.items ∙ c.deref.ensures.value)
    ∙ (sym c.contains.ensures ∙ c.if-contains.false))
    c.in_ok-insert.ensures.keys in
    subst (λ z. IsAmongStates (map state_of_packed c.insert.new.self.keys) z)
    (packed-is
    (let z : Packed = record { bytes = c.in_ok-bytes.bytes } in z) c.pack.new.packed c.args.found.now.reached.state
    (c.in_ok-bytes.ensures.items ∙ c.deref.ensures.value) c.in_ok-pack.ensures.state)
    (among-added c.args.found.now.states.keys c.insert.new.self.keys (let z : Packed = record { bytes = c.in_ok-bytes.bytes } in z) new)

pub returns-clause-found : goal.returns-clause-found
returns-clause-found c = λ plan h leads.
    let new = added (packed_eq.eq-value).it c.args.found.now.states.keys _ (let z : Packed = record { bytes = c.in_ok-bytes.bytes } in z)
    (same-any
    (let z : Packed = record { bytes = c.in_ok-bytes.bytes } in z) c.pack.new.packed c.args.found.now.states.keys
    (c.in_ok-bytes.ensures.items ∙ c.deref.ensures.value)
    ∙ (sym c.contains.ensures ∙ c.if-contains.false))
    c.in_ok-insert.ensures.keys in
    let x = (let z : Packed = record { bytes = c.in_ok-bytes.bytes } in z) in
    let is : state_of_packed x ≡ state_of_snapshot c.args.found.now.reached.state =
    packed-is x c.pack.new.packed c.args.found.now.reached.state (c.in_ok-bytes.ensures.items ∙ c.deref.ensures.value) c.in_ok-pack.ensures.state in
    let choices = c.args.found.now.reached.choices.items in
    let exchanges = c.args.found.now.reached.exchanges.items in
    let keys = c.args.found.now.states.keys in
    record {
      cores = subst (HaveCores plan.test.now) (sym new) (cores-more plan.test.now keys x h.cores
          (packed-kept plan.test.now x c.pack.new.packed c.args.found.now.reached.state
          (c.in_ok-bytes.ensures.items ∙ c.deref.ensures.value) c.in_ok-pack.ensures.bytes c.in_ok-pack.ensures.state
          h.room));
      linked = subst (λ z. AreLinked plan.depth plan.test.now plan.hidden.now z c.push.new.self.items) (sym new)
          (subst (λ z. AreLinked plan.depth plan.test.now plan.hidden.now (keys ++ x ∷ []) z) (sym c.in_ok-push.ensures.items)
          (linked-on plan.depth plan.test.now plan.hidden.now keys c.args.found.now.links.items x _ choices exchanges h.linked
          (c.in_ok-turns.ensures
          ∙ ap (λ z. map Made z ++ map Exchanged c.deref-3.result.now) c.deref-2.ensures.value
          ∙ ap (λ z. map Made choices ++ map Exchanged z) c.deref-3.ensures.value)
          (subst (λ z. LeadOn plan.depth plan.test.now plan.hidden.now keys c.args.from choices exchanges z) (sym is) leads)));
      current = h.current;
      room = h.room;
    }
