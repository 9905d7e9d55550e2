-- An order keeps all of program order exactly where no entry comes after one that comes later in its program.
use Rattle.std.proofs.Common.{◌≡◌, ◌<◌, ◌&&◌, ◌||◌, ℕ, zero, suc, true, false, not, Bool, List, [], ◌∷◌, Some, slice_get, arith, sym, refl, subst}
use Rattle.std.specs.List.{list_any}
use Rattle.tso_terms.specs.ProgramOrder.{is_before}
use Rattle.tso_terms.specs.SequentialConsistency.{KeepsAllOrder}
use Rattle.tso_terms.specs.declared.execution.Entry.{Entry}
use Rattle.execution_check.specs.inner.Orders.{is_preceded_by, keeps}
use Rattle.relational_model.proofs.Ranks.{before-irreflexive}

not-both : (a b : Bool) → (not a && b) ≡ true → (a ≡ false) × (b ≡ true)
not-both a b h = (grind arith, grind arith)

any-parts : (a b : Bool) → (a || b) ≡ false → (a ≡ false) × (b ≡ false)
any-parts a b h = (grind arith, grind arith)

none-at : (p : Entry → Bool) (xs : List Entry) → list_any p xs ≡ false → (k : ℕ) (y : Entry) → slice_get xs k ≡ Some y → p y ≡ true → ⊥
none-at p [] h k y e f = let z : ⊥ = cc in z
none-at p (x ∷ xs) h zero y e f =
    let s : x ≡ y = cc in
    let n : p x ≡ false = (any-parts (p x) (list_any p xs) h).0 in
    let m : p x ≡ true = subst (λ v. p v ≡ true) (sym s) f in
    let z : ⊥ = cc in z
none-at p (x ∷ xs) h (suc k) y e f = none-at p xs (any-parts (p x) (list_any p xs) h).1 k y e f

pub keeps_all : (order : List Entry) → keeps order ≡ true → KeepsAllOrder order
keeps_all [] h i j x y p q b = absurd (let z : ⊥ = cc in z)
keeps_all (e ∷ es) h zero zero x y p q b =
    let s : x ≡ y = cc in absurd (before-irreflexive x (subst (λ v. is_before x v ≡ true) (sym s) b))
keeps_all (e ∷ es) h zero (suc j) x y p q b = omega arith
keeps_all (e ∷ es) h (suc i) zero x y p q b =
    let s : e ≡ y = cc in
    absurd (none-at (λ v. is_before v e) es (not-both (is_preceded_by e es) (keeps es) h).0 i x p (subst (λ v. is_before x v ≡ true) (sym s) b))
keeps_all (e ∷ es) h (suc i) (suc j) x y p q b =
    let l : i < j = keeps_all es (not-both (is_preceded_by e es) (keeps es) h).1 i j x y p q b in omega arith

-- an entry that passes a test
any-step : (p : Entry → Bool) (x : Entry) (xs : List Entry) (b : Bool)
    → p x ≡ b
    → (b || list_any p xs) ≡ true
    → (list_any p xs ≡ true → (k : ℕ) × (y : Entry) × (slice_get xs k ≡ Some y) × (p y ≡ true))
    → (k : ℕ) × (y : Entry) × (slice_get (x ∷ xs) k ≡ Some y) × (p y ≡ true)
any-step p x xs true e h rest = (0, x, refl, e)
any-step p x xs false e h rest = let r = rest h in (suc r.0, r.1, r.2, r.3)

any-at : (p : Entry → Bool) (xs : List Entry) → list_any p xs ≡ true → (k : ℕ) × (y : Entry) × (slice_get xs k ≡ Some y) × (p y ≡ true)
any-at p [] h = absurd (let z : ⊥ = cc in z)
any-at p (x ∷ xs) h = any-step p x xs (p x) refl h (any-at p xs)

pub all_kept : (order : List Entry) → KeepsAllOrder order → keeps order ≡ true
all_kept [] h = refl
all_kept (x ∷ xs) h = both (is_preceded_by x xs) refl (all_kept xs (λ i j y z p q b. let l : suc i < suc j = h (suc i) (suc j) y z p q b in omega arith))
  where
    both : (b : Bool) → is_preceded_by x xs ≡ b → keeps xs ≡ true → (not b && keeps xs) ≡ true
    both false e k = k
    both true e k = let r = any-at (λ y. is_before y x) xs e in absurd (let l : suc r.0 < 0 = h (suc r.0) 0 r.1 x r.2 refl r.3 in omega arith)
