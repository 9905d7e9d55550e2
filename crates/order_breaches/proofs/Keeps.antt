-- An axiom holds of an order exactly where no entry breaks it.
use Rattle.order_breaches.proofs.Vocabulary.{◌≡◌, ℕ, suc, zero, List, [], ◌∷◌, ◌++◌, length, Option, Some, None, slice_get, take, drop}
use Rattle.order_breaches.proofs.Vocabulary.{true, not, arith, ap, sym, ◌∙◌, ◌⊎◌, inl, inr, subst, refl, cases_order, cases_eq, and_from}
use Rattle.order_breaches.proofs.Vocabulary.{and_parts, not_from_false, not-true, Litmus, is_before, may_be_passed, KeepsProgramOrder}
use Rattle.order_breaches.proofs.Vocabulary.{IsAdjacent, HasReadValues, due_value, IsStorePart, Entry, LW, not-itself, IsNowhere, IsLate}
use Rattle.order_breaches.proofs.Vocabulary.{IsSeparated, IsWrongRead, due_at}
use Rattle.order_breaches.proofs.Actions.{kind-or-not}

-- program order
pub keeps-order : (order : List Entry) → IsNowhere order (IsLate order) → KeepsProgramOrder order
keeps-order order n i j x y e f before passed = elim (cases_order i j) [
  | inl q ↦
      let g : slice_get order i ≡ Some y = subst (λ k. slice_get order k ≡ Some y) (sym q) f in
      let s : y ≡ x = cc in
      let t : is_before x x ≡ true = subst (λ z. is_before x z ≡ true) s before in
      let u = not-itself x in absurd (let z : ⊥ = cc in z)
  | inr w ↦ elim w [
    | inl l ↦ l
    | inr l ↦
        absurd (n i x e (
          j,
          y,
          f,
          record {
            sooner = l;
            swapped = and_from (is_before x y) (not (may_be_passed x y)) before (not_from_false (may_be_passed x y) passed);
          },
        ))
  ]
]

pub none-late : (order : List Entry) → KeepsProgramOrder order → IsNowhere order (IsLate order)
none-late order h at a e late =
    let o = late.3 in
    let p = and_parts (is_before a late.1) (not (may_be_passed a late.1)) o.swapped in
    let l = h at late.0 a late.1 e late.2 p.0 (not-true (may_be_passed a late.1) p.1) in
    let s = o.sooner in absurd (omega arith)

-- locked instructions
store-part-or-not : (x y : Entry) → IsStorePart x y ⊎ (IsStorePart x y → ⊥)
store-part-or-not x y = elim (cases_eq y.core.0 x.core.0) [
  | inr n ↦ inr (λ s. n s.core)
  | inl c ↦ elim (cases_eq y.place x.place) [
    | inr n ↦ inr (λ s. n s.place)
    | inl p ↦ elim (kind-or-not y.kind LW) [
      | inr n ↦ inr (λ s. n s.kind)
      | inl k ↦ inl (record { core = c; place = p; kind = k })
    ]
  ]
]

pub next-of : (x : Entry) (o : Option Entry) → ((y : Entry) → o ≡ Some y → IsStorePart x y → ⊥) ⊎ ((y : Entry) × (o ≡ Some y) × IsStorePart x y)
next-of x None = inl (λ y e s. let z : ⊥ = cc in z)
next-of x (Some y) = elim (store-part-or-not x y) [
  | inl s ↦ inr (y, refl, s)
  | inr n ↦ inl (λ w e s. let q : w ≡ y = cc in n (subst (λ z. IsStorePart x z) q s))
]

pub keeps-pairs : (order : List Entry) → IsNowhere order (IsSeparated order) → IsAdjacent order
keeps-pairs order n i x e k = elim (next-of x (slice_get order (suc i))) [
  | inl none ↦ absurd (n i x e (record { load_part = k; separated = none }))
  | inr next ↦ next
]

pub none-separated : (order : List Entry) → IsAdjacent order → IsNowhere order (IsSeparated order)
none-separated order h i x e p = let n = h i x e p.load_part in p.separated n.0 n.1 n.2

-- read values
cut-at : (order : List Entry) (at : ℕ) (x : Entry) → slice_get order at ≡ Some x → order ≡ take at order ++ (x ∷ drop (suc at) order)
cut-at [] at x e = absurd (let z : ⊥ = cc in z)
cut-at (y ∷ ys) zero x e = let q : y ≡ x = cc in ap (λ z. z ∷ ys) q
cut-at (y ∷ ys) (suc at) x e = ap (λ z. y ∷ z) (cut-at ys at x e)

record Cut (order front : List Entry) (x : Entry) (back : List Entry) : Type 0 where
  pub stands : slice_get order (length front) ≡ Some x
  pub front_is : take (length front) order ≡ front
  pub back_is : drop (suc (length front)) order ≡ back

cut-of : (front : List Entry) (x : Entry) (back : List Entry) → Cut (front ++ (x ∷ back)) front x back
cut-of [] x back = record { stands = refl; front_is = refl; back_is = refl }
cut-of (y ∷ ys) x back = let c = cut-of ys x back in record { stands = c.stands; front_is = ap (λ z. y ∷ z) c.front_is; back_is = c.back_is }

pub has-values : (t : Litmus) (order : List Entry) → IsNowhere order (IsWrongRead t order) → HasReadValues t order
has-values t order n front x back e r =
    let c : Cut order front x back = subst (λ o. Cut o front x back) (sym e) (cut-of front x back) in
    let v : x.value ≡ due_at t order (length front) x = elim (cases_eq x.value (due_at t order (length front) x)) [
      | inl q ↦ q
      | inr ne ↦ absurd (n (length front) x c.stands (record { read = r; wrong = ne }))
    ] in
    v ∙ ap (λ f. due_value t x f (drop (suc (length front)) order)) c.front_is ∙ ap (λ b. due_value t x front b) c.back_is

pub none-wrong : (t : Litmus) (order : List Entry) → HasReadValues t order → IsNowhere order (IsWrongRead t order)
none-wrong t order h at x e w = w.wrong (h (take at order) x (drop (suc at) order) (cut-at order at x e) w.read)
