-- A row of a candidate's events in which no edge goes back is an order of that candidate.
use Rattle.relational_model.proofs.Vocabulary.{◌≡◌, ◌<◌, ℕ, ◌==◌, ◌&&◌, zero, suc, Bool, true, false, if◌then◌else◌, List, [], ◌∷◌, ◌++◌}
use Rattle.relational_model.proofs.Vocabulary.{Option, Some, None, arith, refl, sym, ap, ◌∙◌, ◌⊎◌, inl, inr, subst, length, filter, Litmus}
use Rattle.relational_model.proofs.Vocabulary.{is_before, is_read, is_write, writes_to, counting, KeepsProgramOrder, Entry, IsIn, IsEarlier}
use Rattle.relational_model.proofs.Vocabulary.{at_once, onward, Candidate, events, last_in, is_access, share_location, ReadsFrom, IsBefore}
use Rattle.relational_model.proofs.Vocabulary.{StandsAfter, FromReads, IsAllowed, po_loc, fr, rank, GoesForward, Once}
use Rattle.relational_model.specs.Model.{rf}
use Rattle.relational_model.proofs.Lists.{in-case, in-none, in-first, in-later, in-filter, filter-in, in-right, Precedes, to-precedes}
use Rattle.relational_model.proofs.Lists.{from-precedes, precedes-second, last-is-in, last-none, last-last, precedes-first}
use Rattle.relational_model.proofs.Ranks.{rank-before, order-of}
use Rattle.relational_model.proofs.KindFacts.{same-number, number-same, write-is-no-read, writes}
use Rattle.relational_model.proofs.Sources.{StandOnce, Counts, never-back, one-way, counts-in, in-counts, counting-earlier}
use Rattle.relational_model.proofs.Decisions.{Goes, number}
use Rattle.relational_model.proofs.Events.{Sound, same-rank}
use Rattle.relational_model.proofs.Fences.{source-writes, goes-acyclic, true-or}
use Rattle.relational_model.proofs.Found.{join}
use Rattle.relational_model.proofs.Sizes.{once-filter}

-- ---- rows

pub forward-never : (B : Entry → Entry → Type 0) (xs : List Entry) (x y : Entry) → GoesForward B xs → Precedes y x xs → B x y → ⊥
forward-never B [] x y h p b = p
forward-never B (z ∷ zs) x y h (inl p) b = h.0 x p.1 (subst (B x) p.0 b)
forward-never B (z ∷ zs) x y h (inr p) b = forward-never B zs x y h.1 p b

pub stand-once : (xs : List Entry) → Once xs → StandOnce xs
stand-once [] o i j e p q = let z : ⊥ = cc in absurd z
stand-once (x ∷ xs) o zero zero e p q = refl
stand-once (x ∷ xs) o zero (suc j) e p q = let same : x ≡ e = cc in absurd (o.0 (j, q ∙ ap Some (sym same)))
stand-once (x ∷ xs) o (suc i) zero e p q = let same : x ≡ e = cc in absurd (o.0 (i, p ∙ ap Some (sym same)))
stand-once (x ∷ xs) o (suc i) (suc j) e p q = ap suc (stand-once xs o.1 i j e p q)

pub precedes-picked : (p : Entry → Bool) (xs : List Entry) (a b : Entry) → p a ≡ true → p b ≡ true → Precedes a b xs
    → Precedes a b (filter p xs)
precedes-picked p [] a b pa pb h = h
precedes-picked p (x ∷ xs) a b pa pb h = go (p x) refl (λ k. precedes-picked p xs a b pa pb k) h
  where
    go : (t : Bool) → p x ≡ t → (Precedes a b xs → Precedes a b (filter p xs)) → ((a ≡ x) × IsIn xs b) ⊎ Precedes a b xs
        → Precedes a b (if t then x ∷ filter p xs else filter p xs)
    go true e rest (inl k) = inl (k.0, filter-in p xs b k.1 pb)
    go true e rest (inr k) = inr (rest k)
    go false e rest (inl k) = absurd (let q : p a ≡ p x = ap p k.0 in let z : ⊥ = cc in z)
    go false e rest (inr k) = rest k

-- two lists with the same members, each once, in the same order
pub same-rows : (xs ys : List Entry) → Once xs → Once ys → ((a : Entry) → IsIn xs a → IsIn ys a) → ((a : Entry) → IsIn ys a → IsIn xs a)
    → ((a b : Entry) → Precedes a b xs → Precedes a b ys) → xs ≡ ys
same-rows [] [] o u f g h = refl
same-rows [] (y ∷ ys) o u f g h = absurd (in-none y (g y (in-first y ys y refl)))
same-rows (x ∷ xs) [] o u f g h = absurd (in-none x (f x (in-first x xs x refl)))
same-rows (x ∷ xs) (y ∷ ys) o u f g h =
    ap (λ z. z ∷ xs) head ∙ ap (λ zs. y ∷ zs) (same-rows xs ys o.1 u.1
    (λ a i. elim (in-case y ys a (f a (in-later x xs a i))) [ inl e ↦ absurd (o.0 (subst (IsIn xs) (e ∙ sym head) i)) | inr j ↦ j ])
    (λ a i. elim (in-case x xs a (g a (in-later y ys a i))) [ inl e ↦ absurd (u.0 (subst (IsIn ys) (e ∙ head) i)) | inr j ↦ j ])
    (λ a b p. elim (h a b (inr p)) [ inl k ↦ absurd (o.0 (subst (IsIn xs) (k.0 ∙ sym head) (precedes-first xs a b p))) | inr k ↦ k ]))
  where
    first : (y ≡ x) ⊎ IsIn xs y → x ≡ y
    first (inl e) = sym e
    first (inr i) = elim (h x y (inl (refl, i))) [ inl k ↦ k.0 | inr k ↦ absurd (u.0 (precedes-second ys x y k)) ]

    head : x ≡ y
    head = first (in-case x xs y (g y (in-first y ys y refl)))

-- ---- what an order of the events is known for

pub record Placed (t : Litmus) (c : Candidate) (order : List Entry) : Type 0 where
  pub sound : Sound t c
  pub allowed : IsAllowed t c
  pub inside : (x : Entry) → IsIn (events t c) x → IsIn order x
  pub outside : (x : Entry) → IsIn order x → IsIn (events t c) x
  pub single : Once order
  pub once : StandOnce order
  pub forward : GoesForward (Goes c) order
  pub count : length order ≡ length (events t c)

pub goes-earlier : (t : Litmus) (c : Candidate) (order : List Entry) → Placed t c order → (x y : Entry) → IsIn order x → IsIn order y
    → Goes c x y → IsEarlier order x y
goes-earlier t c order k x y i j g = elim (one-way order x y i j) [
  | inl e ↦ absurd (goes-acyclic t c k.sound k.allowed.global x (at_once x x (k.outside x i) (k.outside x i) (subst (Goes c x) (sym e) g)))
  | inr (inl e) ↦ e
  | inr (inr e) ↦ absurd (forward-never (Goes c) order x y k.forward (to-precedes order y x e) g)
]

pub keeps-order : (t : Litmus) (c : Candidate) (order : List Entry) → Placed t c order → KeepsProgramOrder order
keeps-order t c order k i j x y p q b m =
    let e = goes-earlier t c order k x y (i, p) (j, q) (inl (b, m)) in
    let f : e.first ≡ i = k.once e.first i x e.is_first p in
    let s : e.second ≡ j = k.once e.second j y e.is_second q in
    let l : e.first < e.second = e.before in omega arith

pub location : (loc : ℕ) (w : Entry) → writes_to loc w ≡ true → w.loc.0 ≡ loc
location loc w h = same-number w.loc.0 loc (second (is_write w) (w.loc.0 == loc) h)
  where
    second : (a b : Bool) → (a && b) ≡ true → b ≡ true
    second true b h = h
    second false b h = let z : ⊥ = cc in absurd z

-- the coherence orders are the writes as they are in the order
pub coherence-is : (t : Litmus) (c : Candidate) (order : List Entry) → Placed t c order → (loc : ℕ)
    → c.coherence loc ≡ filter (writes_to loc) order
coherence-is t c order k loc =
    same-rows (c.coherence loc) (filter (writes_to loc) order) (k.sound.single loc) (once-filter (writes_to loc) order k.single)
    (λ a i. let h = k.sound.coherent loc a i in filter-in (writes_to loc) order a (k.inside a h.0) h.1)
    (λ a i. let h = in-filter (writes_to loc) order a i in k.sound.candidate.writes loc a (k.outside a h.0) h.1)
    (λ a b p. along a b (from-precedes (c.coherence loc) a b p))
  where
    along : (a b : Entry) → IsEarlier (c.coherence loc) a b → Precedes a b (filter (writes_to loc) order)
    along a b e =
        let x = k.sound.coherent loc a (e.first, e.is_first) in
        let y = k.sound.coherent loc b (e.second, e.is_second) in
        let d : IsBefore c a b = subst (λ l. IsEarlier (c.coherence l) a b) (sym (location loc a x.1)) e in
        precedes-picked (writes_to loc) order a b x.1 y.1
        (to-precedes order a b (goes-earlier t c order k a b (k.inside a x.0) (k.inside b y.0) (inr (inr (inl d)))))

-- ---- sources

pub share : (x y : Entry) → is_access x ≡ true → is_access y ≡ true → x.loc.0 ≡ y.loc.0 → share_location x y ≡ true
share x y a b e = join (is_access x) (is_access y) (x.loc.0 == y.loc.0) a b (number-same x.loc.0 y.loc.0 e)

-- a write that overwrites what r read doesn't count for r
uncounted : (t : Litmus) (c : Candidate) (order : List Entry) → Placed t c order → (r v : Entry) → IsIn order r → FromReads c r v
    → Counts order r v → ⊥
uncounted t c order k r v i f (j, (w, inl e)) = never-back order v r k.once e (goes-earlier t c order k r v i j (inr (inr (inr f))))
uncounted t c order k r v i f (j, (w, inr b)) =
    k.allowed.uniproc v
    (onward v r v (k.outside v j)
    (po_loc v r b
    (share v r (true-or (is_read v) (is_write v) (inr (writes r.loc.0 v w))) (true-or (is_read r) (is_write r) (inl f.read))
    (location r.loc.0 v w)))
    (at_once r v (k.outside r i) (k.outside v j) (fr r v f)))

-- the source of a read counts for it
source-counts : (t : Litmus) (c : Candidate) (order : List Entry) → Placed t c order → (r w : Entry) → IsIn order r → ReadsFrom c w r
    → Counts order r w
source-counts t c order k r w i f = (k.inside w h.0, (h.1, how (number w.core.0 r.core.0)))
  where
    h : IsIn (events t c) w × (writes_to r.loc.0 w ≡ true)
    h = source-writes t c k.sound w r (k.outside r i) f

    back : is_before r w ≡ true → ⊥
    back b = k.allowed.uniproc r
        (onward r w r (k.outside r i)
        (po_loc r w b
        (share r w (true-or (is_read r) (is_write r) (inl f.read)) (true-or (is_read w) (is_write w) (inr (writes r.loc.0 w h.1)))
        (sym (location r.loc.0 w h.1))))
        (at_once w r h.0 (k.outside r i) (rf w r f)))

    one : w.core.0 ≡ r.core.0 → rank w ≡ rank r → ⊥
    one e q =
        let same : w ≡ r = same-rank t c k.sound w r h.0 (k.outside r i) e q in
        write-is-no-read w (writes r.loc.0 w h.1) (subst (λ x. is_read x ≡ true) (sym same) f.read)

    how : (w.core.0 ≡ r.core.0) ⊎ (w.core.0 ≡ r.core.0 → ⊥) → IsEarlier order w r ⊎ (is_before w r ≡ true)
    how (inl e) = inr (elim (order-of (rank w) (rank r)) [
      | inl l ↦ rank-before w r e l
      | inr (inl q) ↦ absurd (one e q)
      | inr (inr l) ↦ absurd (back (rank-before r w (sym e) l))
    ])
    how (inr n) = inl (goes-earlier t c order k w r (k.inside w h.0) i (inr (inl (f, n))))

pub sources-are : (t : Litmus) (c : Candidate) (order : List Entry) → Placed t c order
    → (front : List Entry) (r : Entry) (back : List Entry) → order ≡ front ++ (r ∷ back) → is_read r ≡ true
    → c.source r ≡ last_in (counting r front back)
sources-are t c order k front r back is read = go (c.source r) refl (last_in (counting r front back)) refl
  where
    here : IsIn order r
    here = subst (λ xs. IsIn xs r) (sym is) (in-right front (r ∷ back) r (in-first r back r refl))

    counts : (v : Entry) → last_in (counting r front back) ≡ Some v → Counts order r v
    counts v e = in-counts order front back r v is (last-is-in (counting r front back) v e)

    overwrites : (o : Option Entry) → c.source r ≡ o → (v : Entry) → StandsAfter (c.coherence r.loc.0) o v → FromReads c r v
    overwrites o e v h = record { read = read; overwritten = subst (λ s. StandsAfter (c.coherence r.loc.0) s v) (sym e) h }

    go : (o : Option Entry) → c.source r ≡ o → (l : Option Entry) → last_in (counting r front back) ≡ l
        → c.source r ≡ last_in (counting r front back)
    go None e None f = e ∙ sym f
    go None e (Some v) f =
        let n = counts v f in
        absurd (uncounted t c order k r v here (overwrites None e v (k.sound.candidate.writes r.loc.0 v (k.outside v n.0) n.1.0)) n)
    go (Some w) e None f =
        absurd (last-none (counting r front back) w f
        (counts-in order front back r w k.once is (source-counts t c order k r w here (record { read = read; source = e }))))
    go (Some w) e (Some v) f = on (last-last (counting r front back) v w f (counts-in order front back r w k.once is m))
      where
        m : Counts order r w
        m = source-counts t c order k r w here (record { read = read; source = e })

        n : Counts order r v
        n = counts v f

        on : (w ≡ v) ⊎ Precedes w v (counting r front back) → c.source r ≡ last_in (counting r front back)
        on (inl q) = e ∙ (ap Some q ∙ sym f)
        on (inr p) =
            let b : Precedes w v (filter (writes_to r.loc.0) order) = precedes-picked (writes_to r.loc.0) order w v m.1.0 n.1.0
            (to-precedes order w v (counting-earlier order front back r w v is p)) in
            let d : IsEarlier (c.coherence r.loc.0) w v = from-precedes (c.coherence r.loc.0) w v
            (subst (Precedes w v) (sym (coherence-is t c order k r.loc.0)) b) in
            absurd (uncounted t c order k r v here (overwrites (Some w) e v d) n)
