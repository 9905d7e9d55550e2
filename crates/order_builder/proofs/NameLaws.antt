-- Bytes that are in no number and in no name, and the numbers of locations.
use Rattle.order_builder.proofs.Vocabulary.{is_ascii_digit, ◌≡◌, ◌≢◌, ℕ, zero, suc, ◌^◌, ◌<◌, Bool, true, false, not, ◌||◌, eqb, ◌⊎◌, inl}
use Rattle.order_builder.proofs.Vocabulary.{inr, List, [], ◌∷◌, length, get_or, Some, refl, sym, subst, arith, decimal, list_all, list_any}
use Rattle.order_builder.proofs.Vocabulary.{bytes_eq, and_parts, and_from, eqb-true, nat_tests, position-Some, All-cons, All-nil, Litmus}
use Rattle.order_builder.proofs.Vocabulary.{IsTest, are_distinct, is_name, is_location_name, begins_name, continues_name, is_among}
use Rattle.order_builder.proofs.Vocabulary.{location_named}
use Rattle.order_builder.proofs.Choosing.{same_bytes, bytes_eq-same, bytes_eq-other}
use Rattle.order_builder.proofs.LineLemmas.{Lacks, first_at}
use Rattle.order_builder.proofs.NumberLaws.{is_digits-decimal}

-- ---- bytes that are in no number and in no name

fails : (p : ℕ → Bool) (b byte : ℕ) → p b ≡ true → p byte ≡ false → eqb b byte ≡ false
fails p b byte passes misses =
    elim (two (eqb b byte) refl) [
      | inl equal ↦ absurd (let same : b ≡ byte = eqb-true _ _ equal in let clash : p byte ≡ true = subst (λ (k : ℕ). p k ≡ true) same passes in cc)
      | inr differs ↦ differs
    ] where
      two : (v : Bool) → eqb b byte ≡ v → (eqb b byte ≡ true) ⊎ (eqb b byte ≡ false)
      two true e = inl e
      two false e = inr e

pub lacks_from_all : (p : ℕ → Bool) (byte : ℕ) (text : List ℕ) → p byte ≡ false → list_all p text ≡ true → Lacks byte text
lacks_from_all p byte [] misses all = All-nil (λ b. eqb b byte ≡ false)
lacks_from_all p byte (b ∷ bs) misses all =
    let parts = and_parts _ _ all in
    All-cons (λ b. eqb b byte ≡ false) b bs (fails p b byte parts.0 misses) (lacks_from_all p byte bs misses parts.1)

pub lacks-decimal : (byte n : ℕ) → is_ascii_digit byte ≡ false → n < 2 ^ 64 → Lacks byte (decimal n)
lacks-decimal byte n misses small = lacks_from_all is_ascii_digit byte (decimal n) misses (is_digits-decimal n small)

begins_continues : (b : ℕ) → begins_name b ≡ true → continues_name b ≡ true
begins_continues b first = grind (arith, nat_tests)

all_of_name : (name : List ℕ) → is_name name ≡ true → list_all continues_name name ≡ true
all_of_name [] is = absurd cc
all_of_name (b ∷ bs) is =
    let parts = and_parts _ _ is in
    let front = and_parts _ _ parts.0 in
    and_from _ _ (begins_continues b front.0) front.1

is_name_from : (name : List ℕ) → is_location_name name ≡ true → is_name name ≡ true
is_name_from name is = let parts = and_parts _ _ is in (and_parts _ _ parts.0).0

all_at : (p : List ℕ → Bool) (names : List (List ℕ)) (i : ℕ) → i < length names → list_all p names ≡ true → p (get_or names i []) ≡ true
all_at p [] i lt all = absurd (omega arith)
all_at p (x ∷ xs) zero lt all = (and_parts _ _ all).0
all_at p (x ∷ xs) (suc i) lt all = all_at p xs i (omega arith) (and_parts _ _ all).1

pub all_of_location : (t : Litmus) (loc : ℕ) → IsTest t → loc < length t.locations → list_all continues_name (get_or t.locations loc []) ≡ true
all_of_location t loc test known =
    let spelled : is_location_name (get_or t.locations loc []) ≡ true = all_at is_location_name t.locations loc known test.locations_spelled in
    all_of_name (get_or t.locations loc []) (is_name_from (get_or t.locations loc []) spelled)

pub lacks-name : (byte : ℕ) (t : Litmus) (loc : ℕ) → continues_name byte ≡ false → IsTest t → loc < length t.locations → Lacks byte (get_or t.locations loc [])
lacks-name byte t loc misses test known = lacks_from_all continues_name byte (get_or t.locations loc []) misses (all_of_location t loc test known)

-- ---- locations

any_at : (p : List ℕ → Bool) (names : List (List ℕ)) (i : ℕ) → i < length names → p (get_or names i []) ≡ true → list_any p names ≡ true
any_at p [] i lt here = absurd (omega arith)
any_at p (x ∷ xs) zero lt here = rw here refl
any_at p (x ∷ xs) (suc i) lt here = rw (any_at p xs i (omega arith) here) (or_true (p x)) where
  or_true : (b : Bool) → (b || true) ≡ true
  or_true true = refl
  or_true false = refl

differ : (names : List (List ℕ)) (k i : ℕ) → are_distinct names ≡ true → k < i → i < length names → get_or names k [] ≢ get_or names i []
differ [] k i distinct before lt same = omega arith
differ (x ∷ xs) k zero distinct before lt same = omega arith
differ (x ∷ xs) zero (suc i) distinct before lt same =
    let apart : not (is_among x xs) ≡ true = (and_parts _ _ distinct).0 in
    let among : is_among x xs ≡ true = any_at (λ other. bytes_eq other x) xs i (omega arith) (rw (← same) (bytes_eq-same x)) in
    let clash : not true ≡ true = rw among at apart in
    cc
differ (x ∷ xs) (suc k) (suc i) distinct before lt same =
    differ xs k i (and_parts _ _ distinct).1 (omega arith) (omega arith) same

pub location_again : (t : Litmus) (loc : ℕ) → IsTest t → loc < length t.locations → location_named t (get_or t.locations loc []) ≡ Some loc
unfolding location_named
location_again t loc test known =
    first_at (λ other. bytes_eq other (get_or t.locations loc [])) t.locations loc [] known
    (λ k before. bytes_eq-other (get_or t.locations k []) (get_or t.locations loc []) (differ t.locations k loc test.locations_differ before known))
    (bytes_eq-same (get_or t.locations loc []))

pub location_found : (t : Litmus) (name : List ℕ) (loc : ℕ) → location_named t name ≡ Some loc → (loc < length t.locations) × (name ≡ get_or t.locations loc [])
unfolding location_named
location_found t name loc e =
    let at = position-Some (λ other. bytes_eq other name) t.locations loc [] e in
    (at.0, sym (same_bytes _ _ at.1))
