-- The candidate of a TSO execution is one of the test, and the relational model allows it.
use Rattle.relational_model.proofs.Vocabulary.{◌≡◌, ◌<◌, ℕ, suc, true, List, [], ◌∷◌, Option, Some, None, slice_get, slice_index, arith}
use Rattle.relational_model.proofs.Vocabulary.{refl, sym, ap, ◌∙◌, subst, length, filter, Litmus, is_read, writes_to, made, counting}
use Rattle.relational_model.proofs.Vocabulary.{last_value, IsTsoExecution, Entry, IsIn, IsEarlier, Candidate, Returns, IsCandidate, events}
use Rattle.relational_model.proofs.Vocabulary.{last_in, IsCandidateOf, IsAtomic, IsAllowed}
use Rattle.relational_model.proofs.Lists.{Cut, cut, filter-in}
use Rattle.relational_model.proofs.Sources.{StandOnce, Known, source-counts, coherence-earlier, event-in}
use Rattle.relational_model.proofs.Forward.{overwritten-later, global-acyclic}
use Rattle.relational_model.proofs.Uniproc.{location-acyclic}
use Rattle.relational_model.proofs.Events.{same-made}
use Rattle.relational_model.proofs.Sizes.{once-of, as-many}

-- what a whole order is known for: its entries are the programs', and each is in it once
pub record Whole (t : Litmus) (order : List Entry) : Type 0 where
  pub made : (e : Entry) → IsIn order e → IsIn (made t order) e
  pub once : StandOnce order

known-of : (t : Litmus) (order : List Entry) (c : Candidate) → Whole t order → IsTsoExecution t order → IsCandidateOf t order c
    → Known t order c
known-of t order c whole tso h = record { tso = tso; of = h; once = whole.once }

in-event : (t : Litmus) (order : List Entry) (c : Candidate) → Whole t order → IsCandidateOf t order c → (x : Entry) → IsIn order x
    → IsIn (events t c) x
in-event t order c whole h x i = subst (λ xs. IsIn xs x) (sym h.events) (whole.made x i)

-- ---- a candidate of the test

pub value-none : (xs : List Entry) (word : ℕ) → last_in xs ≡ None → last_value xs word ≡ word
value-none [] word h = refl
value-none (x ∷ []) word h = absurd (let z : ⊥ = cc in z)
value-none (x ∷ (y ∷ ys)) word h = absurd (last-some (y ∷ ys) refl h)
  where
    last-some : (zs : List Entry) → zs ≡ y ∷ ys → last_in zs ≡ None → ⊥
    last-some [] e h = let z : ⊥ = cc in z
    last-some (a ∷ []) e h = let z : ⊥ = cc in z
    last-some (a ∷ (b ∷ bs)) e h = ends a b bs h
      where
        ends : (a b : Entry) (bs : List Entry) → last_in (b ∷ bs) ≡ None → ⊥
        ends a b [] h = let z : ⊥ = cc in z
        ends a b (d ∷ ds) h = ends b d ds h

pub value-some : (xs : List Entry) (w : Entry) (word : ℕ) → last_in xs ≡ Some w → last_value xs word ≡ w.value
value-some [] w word h = absurd (let z : ⊥ = cc in z)
value-some (x ∷ []) w word h = let same : x ≡ w = cc in ap (λ (e : Entry). e.value) same
value-some (x ∷ (y ∷ ys)) w word h = value-some (y ∷ ys) w x.value h

-- a read's value is its source's
read-returns : (t : Litmus) (order : List Entry) (c : Candidate) → Whole t order → Known t order c → (r : Entry) → IsIn order r
    → is_read r ≡ true → Returns t c r (c.source r)
read-returns t order c whole known r i read = go (cut order r i) (c.source r) refl
  where
    go : (k : Cut order r) (s : Option Entry) → c.source r ≡ s → Returns t c r s
    go k None e =
        known.tso.read_values k.front r k.back k.is read
        ∙ value-none (counting r k.front k.back) (slice_index t.words r.loc.0) (sym (known.of.sources k.front r k.back k.is read) ∙ e)
    go k (Some w) e =
        let counts = source-counts t order c known r w i read e in (
          in-event t order c whole known.of w counts.0,
          counts.1.0,
          known.tso.read_values k.front r k.back k.is read
              ∙ value-some (counting r k.front k.back) w (slice_index t.words r.loc.0)
              (sym (known.of.sources k.front r k.back k.is read) ∙ e),
        )

is-candidate : (t : Litmus) (order : List Entry) (c : Candidate) → Whole t order → Known t order c → IsCandidate t c
is-candidate t order c whole known = record {
  reads = λ r i read. read-returns t order c whole known r (event-in t order c known r i) read;
  writes =
      λ loc w i h. subst (λ xs. IsIn xs w) (sym (known.of.coherence loc))
      (filter-in (writes_to loc) order w (event-in t order c known w i) h);
  count = λ loc.
      ap length (known.of.coherence loc)
      ∙ (as-many (writes_to loc) order (made t order) (once-of order known.once) whole.made known.tso.whole.count
      ∙ ap (λ xs. length (filter (writes_to loc) xs)) (sym known.of.events));
}

-- ---- atomicity

-- no write comes between a read and a write that comes directly after it
between-none : (order : List Entry) (r v w : Entry) (i : ℕ) → StandOnce order → slice_get order i ≡ Some r
    → slice_get order (suc i) ≡ Some w
    → IsEarlier order r v → IsEarlier order v w → ⊥
between-none order r v w i once p q a b =
    let first : a.first ≡ i = once a.first i r a.is_first p in
    let middle : a.second ≡ b.first = once a.second b.first v a.is_second b.is_first in
    let last : b.second ≡ suc i = once b.second (suc i) w b.is_second q in
    let l : a.first < a.second = a.before in
    let m : b.first < b.second = b.before in
    omega arith

atomic : (t : Litmus) (order : List Entry) (c : Candidate) → Whole t order → Known t order c → IsAtomic (events t c) c
atomic t order c whole known r v w i j k pair f apart before others =
    let (a, p) = event-in t order c known r i in
    let next = known.tso.adjacent a r p pair.read in
    let same : next.0 ≡ w = same-made t order next.0 w (whole.made next.0 (suc a, next.1)) (whole.made w (event-in t order c known w k))
    (next.2.core ∙ pair.core) (next.2.place ∙ pair.place) (next.2.kind ∙ sym pair.write) in
    between-none order r v w a known.once p (subst (λ y. slice_get order (suc a) ≡ Some y) same next.1)
    (overwritten-later t order c known r v (a, p) f) (coherence-earlier t order c known v.loc.0 v w before)

pub is-allowed : (t : Litmus) (order : List Entry) (c : Candidate) → Whole t order → IsTsoExecution t order → IsCandidateOf t order c
    → IsAllowed t c
is-allowed t order c whole tso h =
    let known = known-of t order c whole tso h in
    record {
      candidate = is-candidate t order c whole known;
      uniproc = location-acyclic t order c known;
      atomic = atomic t order c whole known;
      global = global-acyclic t order c known;
    }
