-- How the programs' entry of an entry of the order is found, and which of the programs' entries came.
use Rattle.order_breaches.proofs.Vocabulary.{◌≡◌, ◌<◌, ◌≤◌, ℕ, ◌+◌, ◌*◌, suc, zero, List, length, Option, Some, None, slice_get}
use Rattle.order_breaches.proofs.Vocabulary.{slice_index, slice_index_or, slice_set, replicate, true, false, arith, ap, sym, ◌∙◌, ◌⊎◌, inl}
use Rattle.order_breaches.proofs.Vocabulary.{inr, subst, refl, cases_eq, false_from_ne_true, slice_get_within, slice_get-get_or}
use Rattle.order_breaches.proofs.Vocabulary.{slice_get_cases, get_or-set_same, get_or-set_other, is_some, entry, rank, is_at, Entry}
use Rattle.order_breaches.proofs.Vocabulary.{IsFirst, IsNowhere, NoneBefore, same_action, same_but_value, IsExtra, IsTwice, IsStray}
use Rattle.order_breaches.proofs.Vocabulary.{IsMissing, kept_in, slot_of, Ascends, EntriesAreWithin, IsIndex, HasCome, HasNotCome}
use Rattle.order_breaches.proofs.Vocabulary.{slots_of_a_core}
use Rattle.order_breaches.proofs.Firsts.{some-is, same_or_below, at-place}
use Rattle.order_breaches.proofs.Actions.{SameAction, same-parts, same-from, same-turned, same_but_value-parts, entry-is, NoneTwice, same-rank}
use Rattle.order_breaches.proofs.Shapes.{AreAlike, alike-at}

pub same-chained : (x y z : Entry) → SameAction x y → SameAction y z → SameAction x z
same-chained x y z s u = record { core = s.core ∙ u.core; place = s.place ∙ u.place; kind = s.kind ∙ u.kind }

pub same-slot : (x y : Entry) → SameAction x y → slot_of x ≡ slot_of y
same-slot x y s = ap (λ c. c * slots_of_a_core + rank x) s.core ∙ ap (λ r. y.core.0 * slots_of_a_core + r) (same-rank x y s)

pub same-tested : (x y z : Entry) → SameAction x y → same_action x z ≡ same_action y z
same-tested x y z s = ap (λ c. is_at c x.place x.kind z) s.core ∙ ap (λ p. is_at y.core.0 p x.kind z) s.place ∙ ap (λ k. is_at y.core.0 y.place k z) s.kind

pub there-or-not : {X : Type 0} (o : Option X) → (o ≡ None) ⊎ ((x : X) × (o ≡ Some x))
there-or-not None = inl refl
there-or-not (Some x) = inr (x, refl)

-- the index
pub index-within : (list : List Entry) (slots : List (Option ℕ)) → IsIndex list slots → (s k : ℕ) → kept_in slots s ≡ Some k → k < length list
index-within list slots index s k h = let r = index.only s k h in slice_get_within list k r.0 r.1

-- the entry that is the same as x but for its value is where the index says
pub index-tells : (list : List Entry) (slots : List (Option ℕ))
    → IsIndex list slots
    → (x e : Entry) (k : ℕ)
    → slice_get list k ≡ Some e
    → same_but_value e x ≡ true
    → kept_in slots (slot_of x) ≡ Some k
index-tells list slots index x e k f s = ap (λ n. kept_in slots n) (sym (same-slot e x (same_but_value-parts e x s).action)) ∙ index.has k e f

pub found-none : (list : List Entry) (slots : List (Option ℕ)) → IsIndex list slots → (x : Entry) → kept_in slots (slot_of x) ≡ None → IsExtra list x
found-none list slots index x h k e f = false_from_ne_true (same_but_value e x) (λ s. let t = index-tells list slots index x e k f s in let z : ⊥ = cc in z)

pub found-other : (list : List Entry) (slots : List (Option ℕ))
    → IsIndex list slots
    → (x d : Entry) (i : ℕ)
    → kept_in slots (slot_of x) ≡ Some i
    → slice_get list i ≡ Some d
    → same_but_value d x ≡ false
    → IsExtra list x
found-other list slots index x d i h g n k e f = false_from_ne_true (same_but_value e x) (λ s.
    let t = index-tells list slots index x e k f s in
    let q : i ≡ k = some-is i k (sym h ∙ t) in
    let p : d ≡ e = some-is d e (sym g ∙ ap (λ m. slice_get list m) q ∙ f) in
    let v : same_but_value e x ≡ false = subst (λ w. same_but_value w x ≡ false) p n in
    let z : ⊥ = cc in z)

pub one-index : (list : List Entry) (slots : List (Option ℕ))
    → IsIndex list slots
    → (i k : ℕ) (d e : Entry)
    → slice_get list i ≡ Some d
    → slice_get list k ≡ Some e
    → SameAction d e
    → i ≡ k
one-index list slots index i k d e f g s = some-is i k (sym (index.has i d f) ∙ ap (λ n. kept_in slots n) (same-slot d e s) ∙ index.has k e g)

pub index-alike : (xs ys : List Entry) (slots : List (Option ℕ)) → AreAlike xs ys → IsIndex xs slots → IsIndex ys slots
index-alike xs ys slots alike index = record {
  has = λ k e f. let m = alike-at ys xs (sym alike) k e f in ap (λ n. kept_in slots n) (same-slot e m.0 m.2.action) ∙ index.has k m.0 m.1;
  only = λ s k h. let r = index.only s k h in let m = alike-at xs ys alike k r.0 r.1 in (m.0, m.1);
}

-- an entry that comes
pub came-before : (shape order : List Entry) (at : ℕ) (came : List (Option ℕ))
    → HasCome shape order at came
    → (i : ℕ) (e x : Entry) (v : ℕ)
    → slice_get shape i ≡ Some e
    → same_but_value e x ≡ true
    → kept_in came i ≡ Some v → IsTwice order at x
came-before shape order at came come i e x v f s h =
    let r = come.only i v h in
    let q : r.2 ≡ e = some-is r.2 e (sym r.5 ∙ f) in
    let a : SameAction e r.1 = subst (λ w. SameAction w r.1) q (same-parts r.2 r.1 r.6) in
    let b : SameAction e x = (same_but_value-parts e x s).action in
    (r.0, r.1, r.3, r.4, same-from x r.1 (same-chained x e r.1 (same-turned e x b) a))

pub came-not : (shape order : List Entry) (slots : List (Option ℕ)) (at : ℕ) (came : List (Option ℕ))
    → IsIndex shape slots
    → HasCome shape order at came
    → (i : ℕ) (e x : Entry)
    → slice_get shape i ≡ Some e
    → same_but_value e x ≡ true → kept_in came i ≡ None → IsTwice order at x → ⊥
came-not shape order slots at came index come i e x f s h w =
    let r = come.has w.0 w.1 w.2 w.3 in
    let a : SameAction r.1 w.1 = (same_but_value-parts r.1 w.1 r.3).action in
    let b : SameAction e x = (same_but_value-parts e x s).action in
    let c : SameAction x w.1 = same-parts x w.1 w.4 in
    let q : i ≡ r.0 = one-index shape slots index i r.0 e r.1 f r.2 (same-chained e x r.1 b (same-chained x w.1 r.1 c (same-turned r.1 w.1 a))) in
    let g : kept_in came i ≡ Some w.1.value = ap (λ n. kept_in came n) q ∙ r.4 in
    let z : ⊥ = cc in z

pub comes : (shape order : List Entry) (at : ℕ) (came : List (Option ℕ))
    → HasCome shape order at came
    → (i : ℕ) (e x : Entry)
    → slice_get shape i ≡ Some e
    → same_but_value e x ≡ true
    → slice_get order at ≡ Some x → kept_in came i ≡ None → i < length came → HasCome shape order (at + 1) (slice_set came i (Some x.value))
comes shape order at came come i e x f s here h within =
    let now : kept_in (slice_set came i (Some x.value)) i ≡ Some x.value = get_or-set_same came i (Some x.value) None within in
    record {
      has = λ k y l g. elim (same_or_below k at l) [
        | inl q ↦
            let p : y ≡ x = some-is y x (sym g ∙ ap (λ n. slice_get order n) q ∙ here) in
            (i, e, f, subst (λ w. same_but_value e w ≡ true) (sym p) s, now ∙ ap (λ w. Some w.value) (sym p))
        | inr b ↦
            let r = come.has k y b g in
            let other : r.0 ≡ i → ⊥ = λ q. let v : kept_in came r.0 ≡ None = ap (λ n. kept_in came n) q ∙ h in let w = r.4 in let z : ⊥ = cc in z in
            (r.0, r.1, r.2, r.3, get_or-set_other came i r.0 (Some x.value) None other ∙ r.4)
      ];
      only = λ j v g. elim (cases_eq j i) [
        | inl q ↦
            let p : kept_in (slice_set came i (Some x.value)) i ≡ Some v = ap (λ n. kept_in (slice_set came i (Some x.value)) n) (sym q) ∙ g in (
              at,
              x,
              e,
              (let l : at < at + 1 = omega arith in l),
              here,
              ap (λ n. slice_get shape n) q ∙ f,
              same-from e x (same_but_value-parts e x s).action,
              some-is x.value v (sym now ∙ p),
            )
        | inr n ↦
            let r = come.only j v (sym (get_or-set_other came i j (Some x.value) None n) ∙ g) in
            (r.0, r.1, r.2, (let l = r.3 in omega arith), r.4, r.5, r.6, r.7)
      ];
    }

-- the entries that didn't come are those that are missing
pub not-come : (shape order : List Entry) (slots : List (Option ℕ)) (at : ℕ) (came : List (Option ℕ))
    → IsIndex shape slots
    → HasCome shape order at came
    → length order ≤ at
    → (i : ℕ) (e : Entry)
    → slice_get shape i ≡ Some e → kept_in came i ≡ None → IsMissing order i e
not-come shape order slots at came index come all i e f h k x g = false_from_ne_true (same_action e x) (λ s.
    let r = come.has k x (let w = slice_get_within order k x g in omega arith) g in
    let a : SameAction r.1 x = (same_but_value-parts r.1 x r.3).action in
    let q : i ≡ r.0 = one-index shape slots index i r.0 e r.1 f r.2 (same-chained e x r.1 (same-parts e x s) (same-turned r.1 x a)) in
    let v : kept_in came i ≡ Some x.value = ap (λ n. kept_in came n) q ∙ r.4 in
    let z : ⊥ = cc in z)

pub missing-not-come : (shape order : List Entry) (at : ℕ) (came : List (Option ℕ))
    → HasCome shape order at came
    → (i : ℕ) (e : Entry)
    → slice_get shape i ≡ Some e
    → IsMissing order i e
    → kept_in came i ≡ None
missing-not-come shape order at came come i e f m = elim (there-or-not (kept_in came i)) [
  | inl n ↦ n
  | inr s ↦
      let r = come.only i s.0 s.1 in
      let q : r.2 ≡ e = some-is r.2 e (sym r.5 ∙ f) in
      let a : same_action e r.1 ≡ true = subst (λ w. same_action w r.1 ≡ true) q r.6 in
      let b : same_action e r.1 ≡ false = m r.0 r.1 r.4 in
      absurd (let z : ⊥ = cc in z)
]

missing-alike : (order : List Entry) (i : ℕ) (x y : Entry) → SameAction x y → IsMissing order i x → IsMissing order i y
missing-alike order i x y s m k z f = sym (same-tested x y z s) ∙ m k z f

pub first-missing : (shape entries order : List Entry) (slots : List (Option ℕ)) (at : ℕ) (came : List (Option ℕ))
    → AreAlike shape entries
    → IsIndex shape slots
    → HasCome shape order at came
    → length order ≤ at
    → (e : Entry) (k : ℕ) → IsFirst shape (HasNotCome came) k e → (value : ℕ) × IsFirst entries (IsMissing order) k (entry e.core.0 e.place e.kind e.loc value)
first-missing shape entries order slots at came alike index come all e k first =
    let m = alike-at shape entries alike k e first.stands in
    let same : m.0 ≡ entry e.core.0 e.place e.kind e.loc m.0.value =
    entry-is m.0 (entry e.core.0 e.place e.kind e.loc m.0.value)
    (record { core = sym m.2.action.core; place = sym m.2.action.place; kind = sym m.2.action.kind }) (sym m.2.loc)
    refl in (
      m.0.value,
      subst (λ y. IsFirst entries (IsMissing order) k y) same (record {
        stands = m.1;
        holds = missing-alike order k e m.0 m.2.action (not-come shape order slots at came index come all k e first.stands first.holds);
        earliest = λ j y l f miss.
            let n = alike-at entries shape (sym alike) j y f in
            first.earliest j n.0 l n.1 (missing-not-come shape order at came come j n.0 n.1 (missing-alike order j y n.0 n.2.action miss));
      }),
    )

pub none-missing : (shape entries order : List Entry) (at : ℕ) (came : List (Option ℕ)) → AreAlike shape entries → HasCome shape order at came
    → IsNowhere shape (HasNotCome came) → IsNowhere entries (IsMissing order)
none-missing shape entries order at came alike come none j y f miss =
    let n = alike-at entries shape (sym alike) j y f in
    none j n.0 n.1 (missing-not-come shape order at came come j n.0 n.1 (missing-alike order j y n.0 n.2.action miss))

-- strays of the shape are strays of what the programs make
pub stray-alike : (xs ys order : List Entry) → AreAlike xs ys → (k : ℕ) (x : Entry) → IsStray xs order k x → IsStray ys order k x
stray-alike xs ys order alike k x s = elim s [
  | inl e ↦ inl (λ j z f. let m = alike-at ys xs (sym alike) j z f in m.2.tested x ∙ e j m.0 m.1)
  | inr w ↦ inr w
]

pub some-there : (o : Option ℕ) → is_some o ≡ true → (v : ℕ) × (o ≡ Some v)
some-there None h = absurd (let z : ⊥ = cc in z)
some-there (Some v) h = (v, refl)

pub none-there : (o : Option ℕ) → is_some o ≡ false → o ≡ None
none-there None h = refl
none-there (Some v) h = absurd (let z : ⊥ = cc in z)

pub not-extra : (shape : List Entry) (x : Entry) (i : ℕ) (e : Entry) → slice_get shape i ≡ Some e → same_but_value e x ≡ true → IsExtra shape x → ⊥
not-extra shape x i e f s extra = let q = extra i e f in let z : ⊥ = cc in z

pub index-none-twice : (list : List Entry) (slots : List (Option ℕ)) → IsIndex list slots → NoneTwice list
index-none-twice list slots index i j x y l e f s = let q = one-index list slots index i j x y e f s in omega arith

-- the table is filled from the front of the list
module _ (list : List Entry) (cores locations : ℕ) (up : Ascends list) (all : EntriesAreWithin cores locations list) where
  -- the slot of the entry at a place of the list
  pub slot-bound : (i : ℕ) (d : Entry) (n size : ℕ) → i < length list → n ≡ slot_of (slice_index_or list i d) → size ≡ cores * slots_of_a_core → n < size
  slot-bound i d n size within is fits =
      let w = all i (slice_index_or list i d) (slice_get-get_or list i d within) in
      let c = w.core in
      let r = w.fits in
      omega arith

  other-slot : (k i : ℕ) (d e : Entry) → k < i → slice_get list k ≡ Some d → slice_get list i ≡ Some e → slot_of d < slot_of e
  other-slot k i d e l f g =
      let r = (all k d f).fits in
      elim (up k i d e l f g) [
        | inl m ↦ (let z : slot_of d < slot_of e = omega arith in z)
        | inr p ↦ (let c = p.0 in let m = p.1 in let z : slot_of d < slot_of e = omega arith in z)
      ]

  pub index-step : (slots : List (Option ℕ)) (i : ℕ) (d : Entry) (n : ℕ)
      → i < length list
      → n ≡ slot_of (slice_index_or list i d)
      → length slots ≡ cores * slots_of_a_core
      → ((k : ℕ) (e : Entry) → k < i → slice_get list k ≡ Some e → kept_in slots (slot_of e) ≡ Some k) → ((s k : ℕ) → kept_in slots s ≡ Some k → k < i)
      → ((k : ℕ) (e : Entry)
      → k < i + 1
      → slice_get list k ≡ Some e
      → kept_in (slice_set slots n (Some i)) (slot_of e) ≡ Some k)
      × ((s k : ℕ) → kept_in (slice_set slots n (Some i)) s ≡ Some k → k < i + 1)
  index-step slots i d n inside is fits has only =
      let x = slice_index_or list i d in
      let here = slice_get-get_or list i d inside in
      let within = slot-bound i d n (length slots) inside is fits in (
        λ k e l f. elim (same_or_below k i l) [
          | inl q ↦
              ap (λ z. kept_in (slice_set slots n (Some i)) (slot_of z)) (at-place list i k x e here f q)
              ∙ ap (λ m. kept_in (slice_set slots n (Some i)) m) (sym is)
              ∙ get_or-set_same slots n (Some i) None within
              ∙ ap Some (sym q)
          | inr b ↦
              let r = other-slot k i e x b f here in
              get_or-set_other slots n (slot_of e) (Some i) None (λ q. let u = q ∙ is in omega (arith, u, r)) ∙ has k e b f
        ],
        λ s k h. elim (cases_eq s n) [
          | inl q ↦
              let p : Some i ≡ Some k = sym (get_or-set_same slots n (Some i) None within) ∙ ap (λ m. kept_in (slice_set slots n (Some i)) m) (sym q) ∙ h in
              let r = some-is i k p in (let l : k < i + 1 = omega arith in l)
          | inr d ↦ let l = only s k (sym (get_or-set_other slots n s (Some i) None d) ∙ h) in (let m : k < i + 1 = omega arith in m)
        ],
      )

pub index-only : (list : List Entry) (slots : List (Option ℕ)) (i : ℕ) → length list ≤ i → i ≤ length list
    → ((k : ℕ) (e : Entry) → k < i → slice_get list k ≡ Some e → kept_in slots (slot_of e) ≡ Some k)
    → ((s k : ℕ) → kept_in slots s ≡ Some k → k < i)
    → IsIndex list slots
index-only list slots i all within has only = record {
  has = λ k e f. has k e (let l = slice_get_within list k e f in omega arith) f;
  only = λ s k h. elim (slice_get_cases list k).1 [
    | inl t ↦ (t.0, t.2)
    | inr past ↦ let l = past.0 in let m = only s k h in absurd (omega arith)
  ];
}

pub nothing-came : (shape order : List Entry) (came : List (Option ℕ)) → ((i : ℕ) → kept_in came i ≡ None) → HasCome shape order 0 came
nothing-came shape order came none = record { has = λ k x l f. absurd (omega arith); only = λ i v h. let n = none i in absurd (let z : ⊥ = cc in z) }

-- the entry at this place came too
pub came-too : (shape : List Entry) (came : List (Option ℕ)) (i : ℕ)
    → NoneBefore shape (HasNotCome came) i
    → (kept_in came i ≡ None → ⊥)
    → NoneBefore shape (HasNotCome came) (i + 1)
came-too shape came i none here k y l f h = elim (same_or_below k i l) [
  | inl q ↦ here (ap (λ n. kept_in came n) (sym q) ∙ h)
  | inr b ↦ none k y b f h
]

-- what is there isn't missing
pub not-none-there : (o : Option ℕ) → is_some o ≡ true → o ≡ None → ⊥
not-none-there None h e = let z : ⊥ = cc in z
not-none-there (Some v) h e = let z : ⊥ = cc in z

-- a table that was just made
pub zeros-are : (n k : ℕ) → slice_index (replicate n 0) k ≡ 0
zeros-are zero k = refl
zeros-are (suc n) zero = refl
zeros-are (suc n) (suc k) = zeros-are n k
