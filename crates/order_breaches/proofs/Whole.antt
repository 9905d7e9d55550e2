-- An order is whole exactly where no entry is extra, there twice, missing or a write of a wrong value.
use Rattle.order_breaches.proofs.Vocabulary.{◌≡◌, ℕ, List, length, Some, slice_get, true, false, arith, ap, sym, ◌∙◌, inl, inr, subst, refl}
use Rattle.order_breaches.proofs.Vocabulary.{cases_eq, Litmus, is_read_kind, is_write_kind, made, IsWhole, Entry, Kind, R, W, F, LR, LW}
use Rattle.order_breaches.proofs.Vocabulary.{IsNowhere, same_action, same_but_value, IsExtra, IsStray, IsMissing, IsWrongWrite}
use Rattle.order_breaches.proofs.Vocabulary.{written_value, Each, each-at, member-at}
use Rattle.tso_terms.specs.Standing.{StandsIn}
use Rattle.order_breaches.proofs.Firsts.{passing}
use Rattle.order_breaches.proofs.Made.{made-once}
use Rattle.order_breaches.proofs.OwnReads.{ReadsOwn, made-read}
use Rattle.order_breaches.proofs.Actions.{same-parts, same-from, same-turned, same-itself, entry-is, SameButValue, same_but_value-parts}
use Rattle.order_breaches.proofs.Actions.{same_but_value-itself, NoneTwice, one-entry, value-at, looked-up}
use Rattle.order_breaches.proofs.Pigeon.{at-member, Distinct, distinct-from, distinct-one, no_fewer, pigeon}

-- an order without any of the four
pub record IsClean (made order : List Entry) : Type 0 where
  pub no_stray : IsNowhere order (IsStray made order)
  pub no_missing : IsNowhere made (IsMissing order)
  pub no_wrong : IsNowhere order (IsWrongWrite made)

pub none-twice : (made order : List Entry) → IsNowhere order (IsStray made order) → NoneTwice order
none-twice made order n i j x y l e f s = n i x e (inr (j, y, l, f, same-from x y s))

-- an entry of the programs, the same as x but for its value
pub record Made (made : List Entry) (x : Entry) : Type 0 where
  pub place : ℕ
  pub entry : Entry
  pub stands : slice_get made place ≡ Some entry
  pub same : SameButValue entry x

pub made-of : (made : List Entry) (x : Entry) → (IsExtra made x → ⊥) → Made made x
made-of made x n = elim (passing (λ e. same_but_value e x) made) [
  | inl r ↦ record { place = r.0; entry = r.1; stands = r.2; same = same_but_value-parts r.1 x r.3 }
  | inr none ↦ absurd (n none)
]

-- a fence has the value of its entry, a read the order's own, a write its program's
by-kind : (k : Kind) {P : Type 0} → (is_read_kind k ≡ true → P) → (is_write_kind k ≡ true → P) → (k ≡ F → P) → P
by-kind R read write fence = read refl
by-kind W read write fence = write refl
by-kind F read write fence = fence refl
by-kind LR read write fence = read refl
by-kind LW read write fence = write refl

module _ (made order : List Entry) (one : NoneTwice made) (own : Each (ReadsOwn order) made) where
  same-value : NoneTwice order
      → IsNowhere order (IsWrongWrite made)
      → (i : ℕ) (x : Entry)
      → slice_get order i ≡ Some x
      → (k : ℕ) (e : Entry)
      → slice_get made k ≡ Some e
      → SameButValue e x
      → x.value ≡ e.value
  same-value once written i x at_i k e at_k s = by-kind x.kind
      (λ r. sym (value-at order once i x at_i) ∙ looked-up x e order (same-turned e x s.action)
      ∙ sym (each-at (ReadsOwn order) made k e own at_k (subst (λ z. is_read_kind z ≡ true) (sym s.action.kind) r)))
      (λ w.
      elim (cases_eq x.value (written_value made x)) [ inl e ↦ e | inr ne ↦ absurd (written i x at_i (w, ne)) ]
      ∙ looked-up x e made (same-turned e x s.action)
      ∙ value-at made one k e at_k)
      s.fence

  -- each entry of the order is one of the programs
  pub in-made : IsClean made order → (i : ℕ) (x : Entry) → slice_get order i ≡ Some x → StandsIn made x
  in-made c i x e =
      let m = made-of made x (λ q. c.no_stray i x e (inl q)) in
      let v = same-value (none-twice made order c.no_stray) c.no_wrong i x e m.place m.entry m.stands m.same in
      let q : m.entry ≡ x = entry-is m.entry x m.same.action (sym m.same.loc) (sym v) in
      (m.place, m.stands ∙ ap Some q)

  -- each entry of the programs is in the order
  in-order : IsClean made order → (k : ℕ) (e : Entry) → slice_get made k ≡ Some e → StandsIn order e
  in-order c k e h = elim (passing (λ x. same_action e x) order) [
    | inr none ↦ absurd (c.no_missing k e h none)
    | inl r ↦
        let m = in-made c r.0 r.1 r.2 in
        (r.0, r.2 ∙ ap Some (one-entry made one m.0 k r.1 e m.1 h (same-turned e r.1 (same-parts e r.1 r.3))))
  ]

  as-many : IsClean made order → length order ≡ length made
  as-many c =
      let once = none-twice made order c.no_stray in
      let left = no_fewer order made (distinct-from order (λ i j x l e f. once i j x x l e f (record { core = refl; place = refl; kind = refl })))
      (λ z m. let r = member-at z order m in let s = in-made c r.0 z r.1 in at-member made s.0 z s.1) in
      let right = no_fewer made order (distinct-from made (λ i j x l e f. one i j x x l e f (record { core = refl; place = refl; kind = refl })))
      (λ z m. let r = member-at z made m in let s = in-order c r.0 z r.1 in at-member order s.0 z s.1) in
      omega arith

  -- an order of the programs' entries, each once
  clean : length order ≡ length made → ((k : ℕ) (e : Entry) → slice_get made k ≡ Some e → StandsIn order e) → IsClean made order
  clean count each =
      let d : Distinct made = distinct-from made (λ i j x l e f. one i j x x l e f (record { core = refl; place = refl; kind = refl })) in
      let p = pigeon made order d (λ z m. let r = member-at z made m in let s = each r.0 z r.1 in at-member order s.0 z s.1) (omega arith) in
      let inside = λ (i : ℕ) (x : Entry) (e : slice_get order i ≡ Some x). member-at x made (p.0 x (at-member order i x e)) in
      record {
        no_stray = λ i x e s. elim s [
          | inl extra ↦ let m = inside i x e in let f : same_but_value x x ≡ false = extra m.0 x m.1 in let t = same_but_value-itself x in let z : ⊥ = cc in z
          | inr twice ↦
              let m = inside i x e in
              let n = inside twice.0 twice.1 twice.3 in
              let q : x ≡ twice.1 = one-entry made one m.0 n.0 x twice.1 m.1 n.1 (same-parts x twice.1 twice.4) in
              distinct-one order p.1 i twice.0 x twice.2 e (twice.3 ∙ ap Some (sym q))
        ];
        no_missing = λ k e h m. let s = each k e h in let f : same_action e e ≡ false = m s.0 e s.1 in let t = same-itself e in let z : ⊥ = cc in z;
        no_wrong = λ i x e w. let m = inside i x e in w.1 (sym (value-at made one m.0 x m.1));
      }

pub whole-from : (t : Litmus) (order : List Entry) → IsClean (made t order) order → IsWhole t order
whole-from t order c =
    let one = made-once t order in
    let own = made-read t order in
    record { count = as-many (made t order) order one own c; each = in-order (made t order) order one own c }

pub whole-clean : (t : Litmus) (order : List Entry) → IsWhole t order → IsClean (made t order) order
whole-clean t order w = clean (made t order) order (made-once t order) (made-read t order) w.count w.each
