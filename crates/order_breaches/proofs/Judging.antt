-- The breach that is named of what the passes met is the first.
use Rattle.order_breaches.proofs.Vocabulary.{◌≡◌, ℕ, List, length, Option, Some, None, IfSome, IsNone, refl, sym, subst, arith, Litmus}
use Rattle.order_breaches.proofs.Vocabulary.{made, IsTsoExecution, IsWhole, Entry, IsFirst, IsEarliest, IsNowhere, IsWrongWrite, Overtakes}
use Rattle.order_breaches.proofs.Vocabulary.{IsLate, IsSeparated, IsWrongRead, IsMatched, HasMet, IsFirstWrongRead, IsFirstBreach}
use Rattle.order_breaches.proofs.Vocabulary.{TellsFirstBreach, Met, Breach, ProgramOrder, NotAdjacent, ReadValue}
use Rattle.order_breaches.proofs.Firsts.{none_at_all}
use Rattle.order_breaches.proofs.Whole.{whole-from}
use Rattle.order_breaches.proofs.Keeps.{keeps-order, keeps-pairs, has-values}

module _ (t : Litmus) (order : List Entry) (met : Met) (matched : IsMatched t order) (all : HasMet t order (length order) met) where
  no-wrong-write : met.wrong_write ≡ None → IsNowhere order (IsWrongWrite (made t order))
  no-wrong-write e = none_at_all order (IsWrongWrite (made t order)) (length order) (omega arith) (all.wrong_write.none (subst (λ o. IsNone o) (sym e) refl))

  none-late : met.late ≡ None → IsNowhere order (IsLate order)
  none-late e = none_at_all order (IsLate order) (length order) (omega arith) (all.late.none (subst (λ o. IsNone o) (sym e) refl))

  none-separated : met.separated ≡ None → IsNowhere order (IsSeparated order)
  none-separated e = none_at_all order (IsSeparated order) (length order) (omega arith) (all.separated.none (subst (λ o. IsNone o) (sym e) refl))

  whole : met.wrong_write ≡ None → IsWhole t order
  whole w = whole-from t order (record { no_stray = matched.no_stray; no_missing = matched.no_missing; no_wrong = no-wrong-write w })

  pub late-has-one : (at : ℕ) (a : Entry) → met.late ≡ Some (at, a) → (IsLate order at a → ⊥) → ⊥
  late-has-one at a e none = none (subst (λ o. IfSome o (λ a. IsFirst order (IsLate order) a.0 a.1)) e all.late.named).holds

  pub names-met-late : met.wrong_write ≡ None
      → (at : ℕ) (a : Entry)
      → met.late ≡ Some (at, a)
      → (b : Entry) → IsEarliest order (Overtakes at a) b
      → IsFirstBreach t order (ProgramOrder a b)
  names-met-late w at a e b first =
      (whole w, (at, first.0, subst (λ o. IfSome o (λ a. IsFirst order (IsLate order) a.0 a.1)) e all.late.named, first.1))

  pub names-met-separated : met.wrong_write ≡ None → met.late ≡ None → (x : Entry) → met.separated ≡ Some x → IsFirstBreach t order (NotAdjacent x)
  names-met-separated w l x e =
      (whole w, keeps-order order (none-late l), subst (λ o. IfSome o (IsEarliest order (IsSeparated order))) e all.separated.named)

  pub names-met-read : met.wrong_write ≡ None
      → met.late ≡ None
      → met.separated ≡ None
      → (x : Entry) (due : ℕ)
      → met.wrong_read ≡ Some (x, due)
      → IsFirstBreach t order (ReadValue x due)
  names-met-read w l p x due e =
      let keeps = keeps-order order (none-late l) in
      (whole w, keeps, keeps-pairs order (none-separated p), subst (λ o. IfSome o (IsFirstWrongRead t order)) e (all.wrong_read (whole w) keeps).named)

  pub names-met-none : met.wrong_write ≡ None → met.late ≡ None → met.separated ≡ None → met.wrong_read ≡ None → IsTsoExecution t order
  names-met-none w l p r =
      let keeps = keeps-order order (none-late l) in
      record {
        whole = whole w;
        program_order = keeps;
        adjacent = keeps-pairs order (none-separated p);
        read_values =
            has-values t order (none_at_all order (IsWrongRead t order) (length order) (omega arith)
            ((all.wrong_read (whole w) keeps).none (subst (λ o. IsNone o) (sym r) refl)));
      }

-- what the last step tells of the order as it is after the pass
pub tells-met : (t : Litmus) (order now : List Entry) (met : Met) (breach : Option Breach) → now ≡ order → IsMatched t order → HasMet t order (length order) met
    → (IsMatched t now → HasMet t now (length now) met → IfSome breach (IsFirstBreach t now))
    → (IsMatched t now → HasMet t now (length now) met → IsNone breach → IsTsoExecution t now)
    → TellsFirstBreach t order breach
tells-met t order now met breach same matched all found none =
    subst (λ o. TellsFirstBreach t o breach) same
    (let m =
    subst (λ o. IsMatched t o) (sym same) matched in
    let a = subst (λ o. HasMet t o (length o) met) (sym same) all in
    record { found = found m a; none = none m a })
