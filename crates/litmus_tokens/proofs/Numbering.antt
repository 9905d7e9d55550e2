-- The number of a name among slices.
use Rattle.std.proofs.Common.{◌≡◌, ℕ, ◌+◌, suc, Bool, true, false, cond, ltb, not, ◌||◌, List, [], ◌∷◌, ◌++◌, length, refl, sym, ◌∙◌, arith}
use Rattle.std.specs.Prelude.{◌≢◌}
use Rattle.std.specs.List.{list_any, position_or_len}
use Rattle.std.proofs.lemmas.Bool.{lt-ltb, le-ltb}
use Rattle.std.proofs.lemmas.List.{length-map, map-append}
use Rattle.std.proofs.lemmas.List.Sums.{prefix_len-le-length}
use Rattle.std.specs.Str.{bytes_eq}
use denote.Ref.{Bor}
use Prim.Native.Nat.compare
use Rattle.litmus_tokens.specs.Locations.{texts}
use Rattle.litmus_tokens.proofs.Maps.{position_or_len-map}
use Rattle.litmus_tokens.specs.GrammarNames.{number_of, with_name}

-- a search finds a place before the end where an item passes
any_before : {X : Type 0} (p : X → Bool) (xs : List X) → list_any p xs ≡ ltb (position_or_len p xs) (length xs)
any_before p [] = refl
any_before p (x ∷ xs) = by_test (p x) (any_before p xs)
  where
    by_test : (b : Bool)
        → list_any p xs ≡ ltb (position_or_len p xs) (length xs)
        → (b || list_any p xs) ≡ ltb (cond (not b) (1 + position_or_len p xs) 0) (suc (length xs))
    by_test true e = sym (lt-ltb 0 (suc (length xs)) (omega arith))
    by_test false e = let one : 1 + position_or_len p xs ≡ suc (position_or_len p xs) = omega arith in rw (one, compare.suc-suc) e

-- ---- the number of a name, found by a loop

abbrev pub is_name : List ℕ → Bor (List ℕ) → Bool
is_name x k = bytes_eq x k.now

pub number_is : (names : List (Bor (List ℕ))) (x : List ℕ) (i rest : ℕ)
    → i + rest ≡ position_or_len (is_name x) names
    → rest ≡ 0
    → i ≡ number_of (texts names) x
number_is names x i rest so_far none =
    let is : i ≡ position_or_len (is_name x) names = omega (arith, so_far, none) in
    is ∙ sym (position_or_len-map (bytes_eq x) (λ (k : Bor (List ℕ)). k.now) names)

-- ---- a name that is put after the others where it is new

pub noted_new : (names : List (Bor (List ℕ))) (k : Bor (List ℕ)) (number : ℕ)
    → number ≡ number_of (texts names) k.now
    → number ≡ length names
    → texts (names ++ k ∷ []) ≡ with_name (texts names) k.now
noted_new names k number is e =
    let absent : list_any (bytes_eq k.now) (texts names) ≡ false =
    any_before (bytes_eq k.now) (texts names) ∙ le-ltb _ _ (omega (arith, is, e, length-map names (λ x. x.now))) in
    rw absent (map-append (λ x. x.now) names (k ∷ []))

pub noted_known : (names : List (Bor (List ℕ))) (k : Bor (List ℕ)) (number : ℕ)
    → number ≡ number_of (texts names) k.now
    → number ≢ length names
    → texts names ≡ with_name (texts names) k.now
noted_known names k number is ne =
    let there : list_any (bytes_eq k.now) (texts names) ≡ true =
    any_before (bytes_eq k.now) (texts names)
    ∙ lt-ltb _ _ (omega (
      arith,
      is,
      ne,
      length-map names (λ x. x.now),
      prefix_len-le-length (λ x. not (bytes_eq k.now x)) (texts names),
    )) in
    rw there refl
