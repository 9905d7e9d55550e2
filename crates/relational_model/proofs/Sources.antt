-- What is known of an order that is a TSO execution, and of its candidate: where the source of a read stands.
use Rattle.relational_model.proofs.Vocabulary.{◌≡◌, ◌<◌, ℕ, true, List, ◌∷◌, ◌++◌, Some, None, slice_get, arith, refl, sym, ◌∙◌, ◌⊎◌, inl}
use Rattle.relational_model.proofs.Vocabulary.{inr, subst, filter, Litmus, is_before, is_read, writes_to, made, counting, IsTsoExecution}
use Rattle.relational_model.proofs.Vocabulary.{Entry, IsIn, IsEarlier, Candidate, events, last_in, IsCandidateOf}
use Rattle.relational_model.proofs.Lists.{Cut, cut, Precedes, to-precedes, from-precedes, precedes-filter, precedes-left, precedes-right}
use Rattle.relational_model.proofs.Lists.{precedes-across, precedes-parts, in-first, in-later, in-left, in-right, in-append, in-case}
use Rattle.relational_model.proofs.Lists.{in-filter, filter-in, last-is-in, last-none, last-last, precedes-second, at-one}
use Rattle.relational_model.proofs.Ranks.{before-irreflexive, order-of}

-- each entry is in the list at one place
abbrev pub StandOnce : List Entry → Type 0
StandOnce order = (i j : ℕ) (e : Entry) → slice_get order i ≡ Some e → slice_get order j ≡ Some e → i ≡ j

pub record Known (t : Litmus) (order : List Entry) (c : Candidate) : Type 0 where
  pub tso : IsTsoExecution t order
  pub of : IsCandidateOf t order c
  pub once : StandOnce order

-- ---- before in the order

pub earlier-trans : (order : List Entry) (a b d : Entry) → StandOnce order → IsEarlier order a b → IsEarlier order b d → IsEarlier order a d
earlier-trans order a b d once p q =
    let same : p.second ≡ q.first = once p.second q.first b p.is_second q.is_first in
    record {
      first = p.first;
      second = q.second;
      is_first = p.is_first;
      is_second = q.is_second;
      before = let l : p.first < p.second = p.before in let k : q.first < q.second = q.before in omega arith;
    }

pub never-itself : (order : List Entry) (a : Entry) → StandOnce order → IsEarlier order a a → ⊥
never-itself order a once p =
    let same : p.first ≡ p.second = once p.first p.second a p.is_first p.is_second in
    let l : p.first < p.second = p.before in omega arith

pub never-back : (order : List Entry) (a b : Entry) → StandOnce order → IsEarlier order a b → IsEarlier order b a → ⊥
never-back order a b once p q = never-itself order a once (earlier-trans order a b a once p q)

-- of two entries of the order one is before the other, or they are one
pub one-way : (order : List Entry) (a b : Entry) → IsIn order a → IsIn order b → (a ≡ b) ⊎ (IsEarlier order a b ⊎ IsEarlier order b a)
one-way order a b (i, p) (j, q) = elim (order-of i j) [
  | inl l ↦ inr (inl (record { first = i; second = j; is_first = p; is_second = q; before = l }))
  | inr (inl e) ↦ inl (at-one order i j a b p q e)
  | inr (inr l) ↦ inr (inr (record { first = j; second = i; is_first = q; is_second = p; before = l }))
]

-- ---- before a read, and after it

-- what is before r in the order is in front of the cut
pub in-front : (order front back : List Entry) (r v : Entry) → StandOnce order → order ≡ front ++ (r ∷ back) → IsEarlier order v r
    → IsIn front v
in-front order front back r v once is e = elim (precedes-parts front (r ∷ back) v r (subst (Precedes v r) is (to-precedes order v r e))) [
  | inl p ↦ absurd (twice (precedes-across front (r ∷ back) r r (precedes-second front v r p) (in-first r back r refl)))
  | inr (inl h) ↦ h.0
  | inr (inr (inl h)) ↦ absurd (twice (precedes-right front (r ∷ back) r r (inl (refl, h.1))))
  | inr (inr (inr h)) ↦ absurd (twice (precedes-right front (r ∷ back) r r (inl (refl, precedes-second back v r h))))
]
  where
    twice : Precedes r r (front ++ (r ∷ back)) → ⊥
    twice p = never-itself order r once (from-precedes order r r (subst (Precedes r r) (sym is) p))

pub front-earlier : (order front back : List Entry) (r v : Entry) → order ≡ front ++ (r ∷ back) → IsIn front v → IsEarlier order v r
front-earlier order front back r v is h =
    from-precedes order v r (subst (Precedes v r) (sym is) (precedes-across front (r ∷ back) v r h (in-first r back r refl)))

-- a write that counts for r
abbrev pub Counts : List Entry → Entry → Entry → Type 0
Counts order r v = IsIn order v × ((writes_to r.loc.0 v ≡ true) × (IsEarlier order v r ⊎ (is_before v r ≡ true)))

pub counts-in : (order front back : List Entry) (r v : Entry) → StandOnce order → order ≡ front ++ (r ∷ back) → Counts order r v
    → IsIn (counting r front back) v
counts-in order front back r v once is (i, (w, how)) =
    filter-in (writes_to r.loc.0) (front ++ filter (λ e. is_before e r) back) v (go how) w
  where
    among : IsIn front v ⊎ IsIn (r ∷ back) v → is_before v r ≡ true → IsIn (front ++ filter (λ e. is_before e r) back) v
    among (inl f) b = in-left front (filter (λ e. is_before e r) back) v f
    among (inr k) b = elim (in-case r back v k) [
      | inl e ↦ absurd (before-irreflexive r (subst (λ x. is_before x r ≡ true) e b))
      | inr k ↦ in-right front (filter (λ e. is_before e r) back) v (filter-in (λ e. is_before e r) back v k b)
    ]

    go : IsEarlier order v r ⊎ (is_before v r ≡ true) → IsIn (front ++ filter (λ e. is_before e r) back) v
    go (inl e) = in-left front (filter (λ e. is_before e r) back) v (in-front order front back r v once is e)
    go (inr b) = among (in-append front (r ∷ back) v (subst (λ xs. IsIn xs v) is i)) b

pub in-counts : (order front back : List Entry) (r v : Entry) → order ≡ front ++ (r ∷ back) → IsIn (counting r front back) v
    → Counts order r v
in-counts order front back r v is h =
    let k = in-filter (writes_to r.loc.0) (front ++ filter (λ e. is_before e r) back) v h in
    go k.1 (in-append front (filter (λ e. is_before e r) back) v k.0)
  where
    go : writes_to r.loc.0 v ≡ true → IsIn front v ⊎ IsIn (filter (λ e. is_before e r) back) v → Counts order r v
    go w (inl f) = (subst (λ xs. IsIn xs v) (sym is) (in-left front (r ∷ back) v f), (w, inl (front-earlier order front back r v is f)))
    go w (inr b) =
        let q = in-filter (λ e. is_before e r) back v b in
        (subst (λ xs. IsIn xs v) (sym is) (in-right front (r ∷ back) v (in-later r back v q.0)), (w, inr q.1))

pub counting-earlier : (order front back : List Entry) (r a b : Entry) → order ≡ front ++ (r ∷ back)
    → Precedes a b (counting r front back) → IsEarlier order a b
counting-earlier order front back r a b is h =
    from-precedes order a b (subst (Precedes a b) (sym is) (go (precedes-parts front (filter (λ e. is_before e r) back) a b
    (precedes-filter (writes_to r.loc.0) (front ++ filter (λ e. is_before e r) back) a b h))))
  where
    go : Precedes a b front ⊎ ((IsIn front a × IsIn (filter (λ e. is_before e r) back) b) ⊎ Precedes a b (filter (λ e. is_before e r) back))
        → Precedes a b (front ++ (r ∷ back))
    go (inl p) = precedes-left front (r ∷ back) a b p
    go (inr (inl p)) = precedes-across front (r ∷ back) a b p.0 (in-later r back b (in-filter (λ e. is_before e r) back b p.1).0)
    go (inr (inr p)) = precedes-right front (r ∷ back) a b (inr (precedes-filter (λ e. is_before e r) back a b p))

-- ---- the source of a read

source-is : (t : Litmus) (order : List Entry) (c : Candidate) → Known t order c → (r : Entry) (k : Cut order r) → is_read r ≡ true
    → c.source r ≡ last_in (counting r k.front k.back)
source-is t order c known r k read = known.of.sources k.front r k.back k.is read

-- the write that a read reads from counts for it
pub source-counts : (t : Litmus) (order : List Entry) (c : Candidate) → Known t order c → (r w : Entry) → IsIn order r → is_read r ≡ true
    → c.source r ≡ Some w
    → Counts order r w
source-counts t order c known r w i read s =
    let k = cut order r i in
    in-counts order k.front k.back r w k.is (last-is-in (counting r k.front k.back) w (sym (source-is t order c known r k read) ∙ s))

-- and it is the last one
pub source-last : (t : Litmus) (order : List Entry) (c : Candidate) → Known t order c → (r w v : Entry) → IsIn order r → is_read r ≡ true
    → c.source r ≡ Some w
    → Counts order r v → (v ≡ w) ⊎ IsEarlier order v w
source-last t order c known r w v i read s counts =
    let k = cut order r i in
    go k (last-last (counting r k.front k.back) w v (sym (source-is t order c known r k read) ∙ s)
    (counts-in order k.front k.back r v known.once k.is counts))
  where
    go : (k : Cut order r) → (v ≡ w) ⊎ Precedes v w (counting r k.front k.back) → (v ≡ w) ⊎ IsEarlier order v w
    go k (inl e) = inl e
    go k (inr p) = inr (counting-earlier order k.front k.back r v w k.is p)

-- where a read reads the initial word, no write counts for it
pub source-none : (t : Litmus) (order : List Entry) (c : Candidate) → Known t order c → (r v : Entry) → IsIn order r → is_read r ≡ true
    → c.source r ≡ None
    → Counts order r v → ⊥
source-none t order c known r v i read s counts =
    let k = cut order r i in
    last-none (counting r k.front k.back) v (sym (source-is t order c known r k read) ∙ s)
    (counts-in order k.front k.back r v known.once k.is counts)

-- ---- coherence

pub coherence-in : (t : Litmus) (order : List Entry) (c : Candidate) → Known t order c → (loc : ℕ) (v : Entry) → IsIn (c.coherence loc) v
    → IsIn order v × (writes_to loc v ≡ true)
coherence-in t order c known loc v h = in-filter (writes_to loc) order v (subst (λ xs. IsIn xs v) (known.of.coherence loc) h)

pub coherence-earlier : (t : Litmus) (order : List Entry) (c : Candidate) → Known t order c → (loc : ℕ) (w v : Entry)
    → IsEarlier (c.coherence loc) w v → IsEarlier order w v
coherence-earlier t order c known loc w v h =
    from-precedes order w v
    (precedes-filter (writes_to loc) order w v (subst (Precedes w v) (known.of.coherence loc) (to-precedes (c.coherence loc) w v h)))

pub event-in : (t : Litmus) (order : List Entry) (c : Candidate) → Known t order c → (x : Entry) → IsIn (events t c) x → IsIn order x
event-in t order c known x h = let m : IsIn (made t order) x = subst (λ xs. IsIn xs x) known.of.events h in known.tso.whole.each m.0 x m.1
