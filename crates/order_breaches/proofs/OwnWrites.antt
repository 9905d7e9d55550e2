-- The last write that an entry's own program has before it: where the walk over the programs finds it.
use Rattle.std.specs.Prelude.{zero, suc, replicate}
use Rattle.order_breaches.proofs.Vocabulary.{refl, ◌≡◌, ◌<◌, ◌≤◌, ℕ, ◌+◌, List, [], ◌∷◌, ◌++◌, length, get_or, Option, Some, None}
use Rattle.order_breaches.proofs.Vocabulary.{slice_get, slice_index_or, slice_set, true, ◌==◌, if◌then◌else◌, arith, ap, sym, ◌∙◌, inl, inr}
use Rattle.order_breaches.proofs.Vocabulary.{subst, cases_order, cases_eq, cases_Bool, eq-eqb, eqb-true, and_from, and_parts, eqb-false}
use Rattle.order_breaches.proofs.Vocabulary.{get_or-set_same, get_or-set_other, get_or_push, get_or_append_left, slice_get-get_or, is_write}
use Rattle.order_breaches.proofs.Vocabulary.{writes_to, rank, Entry, le-cases, kept_in, Ascends, own_write, noted_write, IsSource}
use Rattle.order_breaches.proofs.Firsts.{same_or_below, at-place}
use Rattle.order_breaches.proofs.Actions.{SameAction, same-rank}
use Rattle.order_breaches.proofs.Sooner.{before-from, before-parts, Before, sooner-of}

-- the latest writes by location among the first `at` entries of the programs
abbrev pub IsLatest : List Entry → ℕ → ℕ → Option Entry → Type 0
IsLatest entries at loc None = (k : ℕ) (y : Entry) → k < at → slice_get entries k ≡ Some y → writes_to loc y ≡ true → ⊥
IsLatest entries at loc (Some w) =
    (j : ℕ)
    × (j < at)
    × (slice_get entries j ≡ Some w)
    × (writes_to loc w ≡ true)
    × ((k : ℕ) (y : Entry) → k < at → slice_get entries k ≡ Some y → writes_to loc y ≡ true → k ≤ j)

abbrev pub AreLatest : List Entry → ℕ → List (Option Entry) → Type 0
AreLatest entries at latest = (loc : ℕ) → IsLatest entries at loc (kept_in latest loc)

-- no place is before the first
pub none-sooner : {X : Type 0} (k : ℕ) → k < 0 → X
none-sooner k l = absurd (omega arith)

-- at first there is none
pub latest-none : (entries : List Entry) (loc : ℕ) (o : Option Entry) → o ≡ None → IsLatest entries 0 loc o
latest-none entries loc o none = subst (λ o. IsLatest entries 0 loc o) (sym none) (λ k y l f w. none-sooner k l)

pub none-kept : (n loc : ℕ) → kept_in (replicate n (let o : Option Entry = None in o)) loc ≡ None
none-kept zero loc = refl
none-kept (suc n) zero = refl
none-kept (suc n) (suc loc) = none-kept n loc

-- there is a place for the location of a write of the programs
pub known-here : (entries : List Entry) (at : ℕ) (d : Entry)
    → at < length entries
    → (now words : ℕ) → now ≡ words
    → ((k : ℕ) (e : Entry) → slice_get entries k ≡ Some e → is_write e ≡ true → e.loc.0 < words)
    → is_write (get_or entries at d) ≡ true → (get_or entries at d).loc.0 < now
known-here entries at d l now words same known write = let m = known at (get_or entries at d) (slice_get-get_or entries at d l) write in omega arith

pub latest-same : (entries : List Entry) (at loc : ℕ) (e : Entry) (o : Option Entry)
    → slice_get entries at ≡ Some e
    → (writes_to loc e ≡ true → ⊥)
    → IsLatest entries at loc o
    → IsLatest entries (at + 1) loc o
latest-same entries at loc e None here no-write h = λ k y l f w. elim (same_or_below k at l) [
  | inl q ↦ no-write (subst (λ z. writes_to loc z ≡ true) (at-place entries at k e y here f q) w)
  | inr b ↦ h k y b f w
]
latest-same entries at loc e (Some v) here no-write h = (
  h.0,
  (let l = h.1 in omega arith),
  h.2,
  h.3,
  λ k y l f w. elim (same_or_below k at l) [
    | inl q ↦ absurd (no-write (subst (λ z. writes_to loc z ≡ true) (at-place entries at k e y here f q) w))
    | inr b ↦ h.4 k y b f w
  ],
)

pub latest-now : (entries : List Entry) (at loc : ℕ) (e : Entry)
    → slice_get entries at ≡ Some e
    → writes_to loc e ≡ true
    → IsLatest entries (at + 1) loc (Some e)
latest-now entries at loc e here w = (at, (let l : at < at + 1 = omega arith in l), here, w, λ k y l f v. let m : k ≤ at = omega arith in m)

pub latest-noted : (entries : List Entry) (at : ℕ) (latest : List (Option Entry)) (e : Entry)
    → slice_get entries at ≡ Some e
    → (is_write e ≡ true → e.loc.0 < length latest)
    → AreLatest entries at latest → AreLatest entries (at + 1) (noted_write latest e)
latest-noted entries at latest e here within are loc = elim (cases_Bool (is_write e)) [
  | inr isnt ↦
      subst (λ b. IsLatest entries (at + 1) loc (kept_in (if b then slice_set latest e.loc.0 (Some e) else latest) loc)) (sym isnt)
      (latest-same entries at loc e (kept_in latest loc) here (λ w. let p = (and_parts (is_write e) (e.loc.0 == loc) w).0 in let z : ⊥ = cc in z) (are loc))
  | inl write ↦
      subst (λ b. IsLatest entries (at + 1) loc (kept_in (if b then slice_set latest e.loc.0 (Some e) else latest) loc))
      (sym write) (elim (cases_eq loc e.loc.0) [
        | inl q ↦
            subst (λ o. IsLatest entries (at + 1) loc o)
            (sym (ap (λ n. kept_in (slice_set latest e.loc.0 (Some e)) n) q ∙ get_or-set_same latest e.loc.0 (Some e) None (within write)))
            (latest-now entries at loc e here (and_from (is_write e) (e.loc.0 == loc) write (eq-eqb e.loc.0 loc (sym q))))
        | inr n ↦
            subst (λ o. IsLatest entries (at + 1) loc o) (sym (get_or-set_other latest e.loc.0 loc (Some e) None n))
            (latest-same entries at loc e (kept_in latest loc) here
            (λ w. n (sym (eqb-true e.loc.0 loc (and_parts (is_write e) (e.loc.0 == loc) w).1))) (are loc))
      ])
]

-- the source of an entry of the programs
pub sooner-place : (entries : List Entry)
    → Ascends entries
    → (k i : ℕ) (y e : Entry)
    → slice_get entries k ≡ Some y
    → slice_get entries i ≡ Some e
    → Before y e
    → k < i
sooner-place entries up k i y e f g b = elim (cases_order k i) [
  | inl q ↦ let r = ap rank (at-place entries i k e y g f q) in let l = b.sooner in absurd (omega arith)
  | inr w ↦ elim w [
    | inl m ↦ m
    | inr m ↦ let r = sooner-of e y (sym b.core) (up i k e y m g f) in let l = b.sooner in absurd (omega arith)
  ]
]

pub source-by : (entries : List Entry)
    → Ascends entries
    → (i : ℕ) (e : Entry)
    → slice_get entries i ≡ Some e
    → (o : Option Entry) → IsLatest entries i e.loc.0 o
    → IsSource entries e (own_write e.core.0 o)
source-by entries up i e g None h = λ k y f b w. h k y (sooner-place entries up k i y e f g (before-parts y e b)) f w
source-by entries up i e g (Some v) h = elim (cases_Bool (v.core.0 == e.core.0)) [
  | inl same ↦
      let c = eqb-true v.core.0 e.core.0 same in
      subst (λ b. IsSource entries e (if b then Some v else None)) (sym same) (record {
        place = h.0;
        stands = h.2;
        before = before-from v e (record { core = c; sooner = sooner-of v e c (up h.0 i v e h.1 h.2 g) });
        writes = h.3;
        last = λ k y f b w.
            let p = before-parts y e b in
            elim (le-cases k h.0 (h.4 k y (sooner-place entries up k i y e f g p) f w)) [
              | inl q ↦ let r = ap rank (at-place entries h.0 k v y h.2 f q) in (let m : rank y ≤ rank v = omega arith in m)
              | inr m ↦ let r = sooner-of y v (p.core ∙ sym c) (up k h.0 y v m f h.2) in (let n : rank y ≤ rank v = omega arith in n)
            ];
      })
  | inr other ↦
      subst (λ b. IsSource entries e (if b then Some v else None)) (sym other) (λ k y f b w.
      let p = before-parts y e b in
      let differ : v.core.0 ≡ e.core.0 → ⊥ = eqb-false v.core.0 e.core.0 other in
      let c = p.core in
      elim (up h.0 i v e h.1 h.2 g) [
        | inr s ↦ differ s.0
        | inl s ↦ elim (le-cases k h.0 (h.4 k y (sooner-place entries up k i y e f g p) f w)) [
          | inl q ↦ let r = ap (λ z. z.core.0) (at-place entries h.0 k v y h.2 f q) in omega arith
          | inr m ↦ elim (up k h.0 y v m f h.2) [ inl n ↦ (let z : ⊥ = omega arith in z) | inr n ↦ (let d = n.0 in let z : ⊥ = omega arith in z) ]
        ]
      ])
]

pub source-of : (entries : List Entry) → Ascends entries → (i : ℕ) (e : Entry) → slice_get entries i ≡ Some e
    → (latest : List (Option Entry)) → AreLatest entries i latest → IsSource entries e (own_write e.core.0 (kept_in latest e.loc.0))
source-of entries up i e g latest are = source-by entries up i e g (kept_in latest e.loc.0) (are e.loc.0)

-- entries of one core, place and location have one source
pub source-same : (entries : List Entry) (e x : Entry) → SameAction e x → x.loc.0 ≡ e.loc.0 → (o : Option Entry) → IsSource entries e o → IsSource entries x o
source-same entries e x s l None h = λ k y f b w.
    let p = before-parts y x b in
    h k y f (before-from y e (record {
      core = p.core ∙ sym s.core;
      sooner = let q = same-rank e x s in let r = p.sooner in omega arith;
    }))
    (subst (λ n. writes_to n y ≡ true) l w)
source-same entries e x s l (Some v) h =
    let q = same-rank e x s in
    let p = before-parts v e h.before in
    record {
      place = h.place;
      stands = h.stands;
      before = before-from v x (record { core = p.core ∙ s.core; sooner = let r = p.sooner in omega arith });
      writes = subst (λ n. writes_to n v ≡ true) (sym l) h.writes;
      last = λ k y f b w.
          let u = before-parts y x b in
          h.last k y f
          (before-from y e (record { core = u.core ∙ sym s.core; sooner = let r = u.sooner in omega arith }))
          (subst (λ n. writes_to n y ≡ true) l w);
    }

-- one more entry of the programs
module _ (entries : List Entry) (up : Ascends entries) (i : ℕ) (d : Entry) (within : i < length entries) where
  pub sources-step : (latest : List (Option Entry)) → AreLatest entries i latest → (sources more : List (Option Entry)) → length sources ≡ i
      → (own : Option Entry)
      → own ≡ own_write (slice_index_or entries i d).core.0 (kept_in latest (slice_index_or entries i d).loc.0)
      → more ≡ sources ++ own ∷ []
      → ((k : ℕ) (e : Entry) → k < i → slice_get entries k ≡ Some e → IsSource entries e (kept_in sources k))
      → (k : ℕ) (e : Entry)
      → k < i + 1
      → slice_get entries k ≡ Some e
      → IsSource entries e (kept_in more k)
  sources-step latest are sources more size own own_is is so k e l f = elim (same_or_below k i l) [
    | inl q ↦
        let x = slice_index_or entries i d in
        let here = slice_get-get_or entries i d within in
        let at_end : kept_in more k ≡ own_write x.core.0 (kept_in latest x.loc.0) =
        ap (λ m. kept_in m k) is ∙ get_or_push sources own None k (size ∙ sym q) ∙ own_is in
        subst (λ o. IsSource entries e o) (sym at_end)
        (subst (λ z. IsSource entries z (own_write x.core.0 (kept_in latest x.loc.0)))
        (sym (at-place entries i k x e here f q)) (source-of entries up i x here latest are))
    | inr b ↦ subst (λ o. IsSource entries e o) (sym (ap (λ m. kept_in m k) is ∙ get_or_append_left sources (own ∷ []) None k (omega arith))) (so k e b f)
  ]

  pub latest-step : (latest now : List (Option Entry)) → now ≡ noted_write latest (slice_index_or entries i d)
      → ((k : ℕ) (e : Entry) → slice_get entries k ≡ Some e → is_write e ≡ true → e.loc.0 < length latest)
      → AreLatest entries i latest
      → AreLatest entries (i + 1) now
  latest-step latest now is known are =
      let here = slice_get-get_or entries i d within in
      subst (λ l. AreLatest entries (i + 1) l) (sym is)
      (latest-noted entries i latest (slice_index_or entries i d) here (known i (slice_index_or entries i d) here) are)
