-- Each order is a TSO execution, or has a first breach.
use Rattle.order_breaches.proofs.Vocabulary.{◌≡◌, ◌≢◌, ℕ, suc, List, slice_get, Bool, true, false, ◌⊎◌, inl, inr, refl, cases_eq, Litmus}
use Rattle.order_breaches.proofs.Vocabulary.{is_read, is_write, made, IsTsoExecution, Entry, LR, same_action, same_but_value, IsExtra}
use Rattle.order_breaches.proofs.Vocabulary.{IsStray, IsMissing, IsWrongWrite, written_value, must_stand_before, Overtakes, IsLate}
use Rattle.order_breaches.proofs.Vocabulary.{IsSeparated, IsWrongRead, due_at, IsFirstBreach, Breach, Extra, Twice, Missing, WrongValue}
use Rattle.order_breaches.proofs.Vocabulary.{ProgramOrder, NotAdjacent, ReadValue}
use Rattle.order_breaches.proofs.Firsts.{Told, searched, passing, told-test, told-before}
use Rattle.order_breaches.proofs.Actions.{kind-or-not}
use Rattle.order_breaches.proofs.Keeps.{next-of, keeps-order, keeps-pairs, has-values}
use Rattle.order_breaches.proofs.Whole.{whole-from}

-- each fact can be told
told-extra : (made : List Entry) (x : Entry) → IsExtra made x ⊎ (IsExtra made x → ⊥)
told-extra made x = elim (passing (λ e. same_but_value e x) made) [
  | inl r ↦ inr (λ extra. let f : same_but_value r.1 x ≡ false = extra r.0 r.1 r.2 in let t = r.3 in let z : ⊥ = cc in z)
  | inr none ↦ inl none
]

told-stray : (made order : List Entry) → Told (IsStray made order)
told-stray made order k x = elim (told-extra made x) [
  | inl e ↦ inl (inl e)
  | inr n ↦ elim (searched order _ (told-before k (λ y. same_action x y))) [
    | inl s ↦ inl (inr (s.1.0, s.0, s.1.1.holds.0, s.1.1.stands, s.1.1.holds.1))
    | inr none ↦ inr (λ s. elim s [ inl e ↦ n e | inr w ↦ none w.0 w.1 w.3 (w.2, w.4) ])
  ]
]

told-missing : (order : List Entry) → Told (IsMissing order)
told-missing order k e = elim (passing (λ y. same_action e y) order) [
  | inl r ↦ inr (λ m. let f : same_action e r.1 ≡ false = m r.0 r.1 r.2 in let t = r.3 in let z : ⊥ = cc in z)
  | inr none ↦ inl none
]

told-unequal : (b : Bool) (v w : ℕ) → ((b ≡ true) × (v ≢ w)) ⊎ ((b ≡ true) × (v ≢ w) → ⊥)
told-unequal b v w = elim (told-test b) [
  | inr n ↦ inr (λ h. n h.0)
  | inl t ↦ elim (cases_eq v w) [ inl e ↦ inr (λ h. h.1 e) | inr n ↦ inl (t, n) ]
]

told-overtaking : (at : ℕ) (a : Entry) → Told (Overtakes at a)
told-overtaking at a k b = elim (told-before at (must_stand_before a) k b) [
  | inl h ↦ inl (record { sooner = h.0; swapped = h.1 })
  | inr n ↦ inr (λ o. n (o.sooner, o.swapped))
]

told-late : (order : List Entry) → Told (IsLate order)
told-late order at a = elim (searched order (Overtakes at a) (told-overtaking at a)) [
  | inl s ↦ inl (s.1.0, s.0, s.1.1.stands, s.1.1.holds)
  | inr none ↦ inr (λ l. none l.0 l.1 l.2 l.3)
]

told-separated : (order : List Entry) → Told (IsSeparated order)
told-separated order k x = elim (kind-or-not x.kind LR) [
  | inr n ↦ inr (λ p. n p.load_part)
  | inl l ↦ elim (next-of x (slice_get order (suc k))) [
    | inl none ↦ inl (record { load_part = l; separated = none })
    | inr next ↦ inr (λ p. p.separated next.0 next.1 next.2)
  ]
]

told-wrong-read : (t : Litmus) (order : List Entry) → Told (IsWrongRead t order)
told-wrong-read t order k x = elim (told-unequal (is_read x) x.value (due_at t order k x)) [
  | inl w ↦ inl (record { read = w.0; wrong = w.1 })
  | inr n ↦ inr (λ w. n (w.read, w.wrong))
]

pub judged : (t : Litmus) (order : List Entry) → IsTsoExecution t order ⊎ ((b : Breach) × IsFirstBreach t order b)
judged t order = let m = made t order in elim (searched order (IsStray m order) (told-stray m order)) [
  | inl s ↦ elim (told-extra m s.0) [ inl e ↦ inr (Extra s.0, (e, s.1)) | inr n ↦ inr (Twice s.0, (n, s.1)) ]
  | inr stray ↦ elim (searched m (IsMissing order) (told-missing order)) [
    | inl s ↦ inr (Missing s.0.core s.0.place s.0.kind s.0.loc, (stray, (s.1.0, s.0.value, s.1.1)))
    | inr missing ↦ elim (searched order (IsWrongWrite m) (λ k x. told-unequal (is_write x) x.value (written_value m x))) [
      | inl s ↦ inr (WrongValue s.0 (written_value m s.0), (stray, missing, s.1, refl))
      | inr wrong ↦
          let whole = whole-from t order (record { no_stray = stray; no_missing = missing; no_wrong = wrong }) in
          elim (searched order (IsLate order) (told-late order)) [
            | inl s ↦ elim (searched order (Overtakes s.1.0 s.0) (told-overtaking s.1.0 s.0)) [
              | inl o ↦ inr (ProgramOrder s.0 o.0, (whole, (s.1.0, o.1.0, s.1.1, o.1.1)))
              | inr none ↦ let l = s.1.1.holds in absurd (none l.0 l.1 l.2 l.3)
            ]
            | inr late ↦ elim (searched order (IsSeparated order) (told-separated order)) [
              | inl s ↦ inr (NotAdjacent s.0, (whole, keeps-order order late, s.1))
              | inr separated ↦ elim (searched order (IsWrongRead t order) (told-wrong-read t order)) [
                | inl s ↦ inr (ReadValue s.0 (due_at t order s.1.0 s.0), (whole, keeps-order order late, keeps-pairs order separated, (s.1.0, s.1.1, refl)))
                | inr read ↦
                    inl (record {
                      whole = whole;
                      program_order = keeps-order order late;
                      adjacent = keeps-pairs order separated;
                      read_values = has-values t order read;
                    })
              ]
            ]
          ]
    ]
  ]
]
