-- Where each load part is put directly before its store part, the pairs are kept.
use Rattle.commit_order.proofs.Vocabulary.{◌≡◌, ◌≢◌, zero, suc, ◌==◌, ◌&&◌, Bool, true, false, if◌then◌else◌, List, [], ◌∷◌, Some}
use Rattle.commit_order.proofs.Vocabulary.{slice_get, refl, sym, ap, ◌∙◌, subst, same_kind, is_at, IsAdjacent, IsStorePart, put_before}
use Rattle.commit_order.proofs.Vocabulary.{put_together, Entry, Kind, LR, LW, IsPaired, has_its_store_part, are_answered}
use Rattle.commit_order.proofs.Together.{and_first, and_second, is_core, isn't_core, load_kind, same-core, skipped, answers, no_load_part, elsewhere}

store_kind : (k : Kind) → same_kind k LW ≡ true → k ≡ LW
store_kind LW h = refl
store_kind k h = absurd (let z : ⊥ = cc in z)

IsStorePart-from_test : (x y : Entry) → is_at x.core.0 x.place LW y ≡ true → IsStorePart x y
IsStorePart-from_test x y h =
    let front = and_first ((y.core.0 == x.core.0) && (y.place == x.place)) (same_kind y.kind LW) h in
    record {
      core = is_core y.core.0 x.core.0 (and_first (y.core.0 == x.core.0) (y.place == x.place) front);
      place = is_core y.place x.place (and_second (y.core.0 == x.core.0) (y.place == x.place) front);
      kind = store_kind y.kind (and_second ((y.core.0 == x.core.0) && (y.place == x.place)) (same_kind y.kind LW) h);
    }

own : (x e : Entry) (es : List Entry) → e.core.0 ≡ x.core.0 → has_its_store_part x (e ∷ es) ≡ is_at x.core.0 x.place LW e
own x e es h = rw (same-core e.core.0 x.core.0 h) refl

-- what is put together after a load part answers it as before
answered-put : (x e : Entry) (es : List Entry) → e.core.0 ≢ x.core.0 → has_its_store_part x (put_before e es) ≡ has_its_store_part x es
answered-put x e [] h = skipped x e [] h
answered-put x e (y ∷ ys) h =
    elim (is_at e.core.0 e.place LW y) as (λ b. has_its_store_part x (if b then e ∷ (y ∷ ys) else y ∷ put_before e ys) ≡ has_its_store_part x (y ∷ ys)) [
      | true ↦ skipped x e (y ∷ ys) h
      | false ↦ ap (λ b. if y.core.0 == x.core.0 then is_at x.core.0 x.place LW y else b) (answered-put x e ys h)
    ]

answered-together : (x : Entry) (es : List Entry) → has_its_store_part x es ≡ true → has_its_store_part x (put_together es) ≡ true
answered-together x [] h = h
answered-together x (e ∷ es) h = by_core (e.core.0 == x.core.0) refl (answered-together x es)
  where
    Goal : Bool → Type 0
    Goal b = has_its_store_part x (if b then put_before e (put_together es) else e ∷ put_together es) ≡ true

    by_kind : (b : Bool) → e.core.0 ≢ x.core.0 → has_its_store_part x (put_together es) ≡ true → Goal b
    by_kind true c r = answered-put x e (put_together es) c ∙ r
    by_kind false c r = skipped x e (put_together es) c ∙ r

    own_kind : (b : Bool) → same_kind e.kind LR ≡ b → e.core.0 ≡ x.core.0 → is_at x.core.0 x.place LW e ≡ true → Goal b
    own_kind true q c part = absurd (let z : true ≡ false = sym part ∙ no_load_part x e (load_kind e.kind q) in let w : ⊥ = cc in w)
    own_kind false q c part = own x e (put_together es) c ∙ part

    by_core : (b : Bool)
        → (e.core.0 == x.core.0) ≡ b
        → (has_its_store_part x es ≡ true → has_its_store_part x (put_together es) ≡ true)
        → Goal (same_kind e.kind LR)
    by_core true q rest = own_kind (same_kind e.kind LR) refl (is_core e.core.0 x.core.0 q) (answers x e es (is_core e.core.0 x.core.0 q) h)
    by_core false q rest =
        let c = isn't_core e.core.0 x.core.0 q in
        by_kind (same_kind e.kind LR) c (rest (sym (skipped x e es c) ∙ h))

-- what comes directly after a load part
abbrev Next : Entry → List Entry → Type 0
Next x es = (y : Entry) × (slice_get es 0 ≡ Some y) × IsStorePart x y

-- what another load part finds after it, it still finds where this one is put in elsewhere
after : (x y : Entry) (es : List Entry) → y.core.0 ≢ x.core.0 → Next y es → Next y (put_before x es)
after x y [] c next = absurd (let s = next.1 in let z : ⊥ = cc in z)
after x y (e ∷ es) c next =
    let same : e ≡ next.0 = (let s = next.1 in let z : e ≡ next.0 = cc in z) in
    let other : is_at x.core.0 x.place LW e ≡ false = elsewhere x e (λ s. c (sym next.2.core ∙ ap (λ (u : Entry). u.core.0) (sym same) ∙ s)) in
    (next.0, (let z : slice_get (put_before x (e ∷ es)) 0 ≡ Some e = rw other refl in z ∙ ap Some same), next.2)

-- a load part that is put directly before its store part
IsAdjacent-put : (x : Entry) (es : List Entry) → x.kind ≡ LR → has_its_store_part x es ≡ true → IsAdjacent es → IsAdjacent (put_before x es)
IsAdjacent-put x [] k a keeps = absurd (let z : ⊥ = cc in z)
IsAdjacent-put x (y ∷ ys) k a keeps = by_part (is_at x.core.0 x.place LW y) refl (IsAdjacent-put x ys k)
  where
    rest : IsAdjacent ys
    rest i z g l = keeps (suc i) z g l

    later : (b : Bool) → (y.core.0 == x.core.0) ≡ b → is_at x.core.0 x.place LW y ≡ false → (y.core.0 ≢ x.core.0) × (has_its_store_part x ys ≡ true)
    later true q o = absurd (let part = answers x y ys (is_core y.core.0 x.core.0 q) a in let z : true ≡ false = sym part ∙ o in let w : ⊥ = cc in w)
    later false q o = let c = isn't_core y.core.0 x.core.0 q in (c, sym (skipped x y ys c) ∙ a)

    by_part : (b : Bool) → is_at x.core.0 x.place LW y ≡ b → (has_its_store_part x ys ≡ true → IsAdjacent ys → IsAdjacent (put_before x ys))
        → IsAdjacent (if b then x ∷ (y ∷ ys) else y ∷ put_before x ys)
    by_part true q go zero z g l = let s : x ≡ z = cc in (y, refl, subst (λ u. IsStorePart u y) s (IsStorePart-from_test x y q))
    by_part true q go (suc i) z g l = keeps i z g l
    by_part false q go zero z g l =
        let s : y ≡ z = cc in
        let next : Next z ys = keeps zero z g l in
        let c = (later (y.core.0 == x.core.0) refl q).0 in
        after x z ys (λ e. c (ap (λ (u : Entry). u.core.0) s ∙ e)) next
    by_part false q go (suc i) z g l = go (later (y.core.0 == x.core.0) refl q).1 rest i z g l

IsAdjacent-after : (e : Entry) (es : List Entry) → same_kind e.kind LR ≡ false → IsAdjacent es → IsAdjacent (e ∷ es)
IsAdjacent-after e es q keeps zero x g k =
    absurd (let s : e ≡ x =
    cc in
    let z : false ≡ true = sym q ∙ (ap (λ (u : Entry). same_kind u.kind LR) s ∙ ap (λ u. same_kind u LR) k) in
    let w : ⊥ = cc in
    w)
IsAdjacent-after e es q keeps (suc i) x g k = keeps i x g k

IsAdjacent-together : (es : List Entry) → are_answered es ≡ true → IsAdjacent (put_together es)
IsAdjacent-together [] h = λ i x g k. absurd (let z : ⊥ = cc in z)
IsAdjacent-together (e ∷ es) h = by_kind (same_kind e.kind LR) refl h (IsAdjacent-together es)
  where
    by_kind : (b : Bool)
        → same_kind e.kind LR ≡ b
        → ((if b then has_its_store_part e es else true) && are_answered es) ≡ true
        → (are_answered es ≡ true → IsAdjacent (put_together es))
        → IsAdjacent (if b then put_before e (put_together es) else e ∷ put_together es)
    by_kind true q a rest =
        IsAdjacent-put e (put_together es) (load_kind e.kind q) (answered-together e es (and_first (has_its_store_part e es) (are_answered es) a))
        (rest (and_second (has_its_store_part e es) (are_answered es) a))
    by_kind false q a rest = IsAdjacent-after e (put_together es) q (rest a)

pub IsAdjacent-paired : (es : List Entry) → IsPaired es → IsAdjacent (put_together es)
IsAdjacent-paired es h = IsAdjacent-together es h
