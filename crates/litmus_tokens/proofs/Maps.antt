-- Searches of a list, seen through a map.
use Rattle.std.proofs.Common.{◌≡◌, ℕ, ◌+◌, ◌<◌, ◌≤◌, Bool, true, false, cond, ltb, not, ◌||◌, List, [], ◌∷◌, length, map, drop}
use Rattle.std.proofs.Common.{slice_index_or, Some, None, refl, sym, ap, ◌∙◌, inl, inr, arith}
use Rattle.std.proofs.lemmas.Option.{slice_get-get_or}
use Rattle.basic_laws.proofs.Lists.{drop-at, drop-end}
use Rattle.std.specs.Prelude.{position}
use Rattle.std.specs.List.{position_or_len, prefix_len, list_any}
use Rattle.std.proofs.lemmas.Bool.{ltb-false}
use Rattle.std.proofs.lemmas.List.Sums.{prefix_len-le-length}
use Rattle.litmus_tokens.proofs.Gaps.{chosen}

pub prefix_len-map : {X Y : Type 0} (p : Y → Bool) (f : X → Y) (xs : List X) → prefix_len p (map f xs) ≡ prefix_len (λ x. p (f x)) xs
prefix_len-map p f [] = refl
prefix_len-map p f (x ∷ xs) = ap (λ (n : ℕ). cond (p (f x)) (1 + n) 0) (prefix_len-map p f xs)

pub position_or_len-map : {X Y : Type 0} (p : Y → Bool) (f : X → Y) (xs : List X) → position_or_len p (map f xs) ≡ position_or_len (λ x. p (f x)) xs
position_or_len-map p f xs = prefix_len-map (λ y. not (p y)) f xs

pub list_any_map : {X Y : Type 0} (p : Y → Bool) (f : X → Y) (xs : List X) → list_any p (map f xs) ≡ list_any (λ x. p (f x)) xs
list_any_map p f [] = refl
list_any_map p f (x ∷ xs) = ap (λ b. p (f x) || b) (list_any_map p f xs)

-- a search that finds no place ends at the length
pub position_none : {X : Type 0} (p : X → Bool) (xs : List X) → None ≡ position p xs → length xs ≡ position_or_len p xs
position_none p xs at = elim (chosen (ltb (position_or_len p xs) (length xs)) (Some (position_or_len p xs)) None None (sym at)) [
  | inl hit ↦ absurd cc
  | inr miss ↦ omega (arith, ltb-false _ _ miss.0, prefix_len-le-length (λ x. not (p x)) xs)
]

-- ---- what is left to search while a loop goes over a list: one that goes on, one that finds, and one that ends

module _ {X : Type 0} (p : X → Bool) where
  pub search_on : (xs : List X) (i : ℕ) (d : X)
      → i < length xs
      → p (slice_index_or xs i d) ≡ false
      → i + 1 + position_or_len p (drop (i + 1) xs) ≡ i + position_or_len p (drop i xs)
  search_on xs i d l q =
      let step : position_or_len p (drop i xs) ≡ 1 + position_or_len p (drop (i + 1) xs) =
      ap (position_or_len p) (drop-at xs i (slice_index_or xs i d) (slice_get-get_or xs i d l))
      ∙ ap (λ b. cond (not b) (1 + position_or_len p (drop (i + 1) xs)) 0) q in
      omega (arith, step)

  pub search_here : (xs : List X) (i : ℕ) (d : X) → i < length xs → p (slice_index_or xs i d) ≡ true → position_or_len p (drop i xs) ≡ 0
  search_here xs i d l q =
      ap (position_or_len p) (drop-at xs i (slice_index_or xs i d) (slice_get-get_or xs i d l))
      ∙ ap (λ b. cond (not b) (1 + position_or_len p (drop (i + 1) xs)) 0) q

  pub search_ends : (xs : List X) (i : ℕ) → length xs ≤ i → i ≤ length xs → position_or_len p (drop i xs) ≡ 0
  search_ends xs i l m = ap (position_or_len p) (drop-end xs i (omega (arith, l, m)))
