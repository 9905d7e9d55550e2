-- What a loop over a list finds, where it goes from one item to the next.
use Rattle.litmus_reader.proofs.Vocabulary.{◌≡◌, ◌∙◌, ℕ, ◌+◌, ◌<◌, ◌≤◌, Bool, true, false, cond, ◌||◌, List, length, drop, Some, None, sym}
use Rattle.litmus_reader.proofs.Vocabulary.{ap, subst, arith, position, position_or_len, lt-ltb, le-ltb, prefix_len, ltb}
use Rattle.std.proofs.Common.{slice_index_or}
use Rattle.std.specs.List.{list_any}
use Rattle.std.proofs.lemmas.Option.{slice_get-get_or}
use Rattle.basic_laws.proofs.Lists.{drop-at, drop-end}

module _ {X : Type 0} (p : X → Bool) where
  pub found_at : (xs : List X) (i rest : ℕ) → i < length xs → i + rest ≡ position_or_len p xs → rest ≡ 0 → Some i ≡ position p xs
  found_at xs i rest l so_far none =
      let is : i ≡ position_or_len p xs = omega (arith, so_far, none) in
      subst (λ n. Some i ≡ cond (ltb n (length xs)) (Some n) None) is (sym (ap (λ b. cond b (Some i) None) (lt-ltb i (length xs) l)))

  pub found_nowhere : (xs : List X) (i rest : ℕ) → length xs ≤ i → i + rest ≡ position_or_len p xs → rest ≡ 0 → None ≡ position p xs
  found_nowhere xs i rest l so_far none =
      let is : i ≡ position_or_len p xs = omega (arith, so_far, none) in
      subst (λ n. None ≡ cond (ltb n (length xs)) (Some n) None) is (sym (ap (λ b. cond b (Some i) None) (le-ltb i (length xs) l)))

  pub any_on : (xs : List X) (i : ℕ) (d : X) (b : Bool)
      → i < length xs
      → p (slice_index_or xs i d) ≡ b
      → list_any p (drop i xs) ≡ (b || list_any p (drop (i + 1) xs))
  any_on xs i d b l q = ap (list_any p) (drop-at xs i (slice_index_or xs i d) (slice_get-get_or xs i d l)) ∙ ap (λ b. b || list_any p (drop (i + 1) xs)) q

  pub any_ends : (xs : List X) (i : ℕ) → length xs ≤ i → i ≤ length xs → list_any p (drop i xs) ≡ false
  any_ends xs i l m = ap (list_any p) (drop-end xs i (omega (arith, l, m)))

  pub prefix_on : (xs : List X) (i : ℕ) (d : X)
      → i < length xs
      → p (slice_index_or xs i d) ≡ true
      → i + 1 + prefix_len p (drop (i + 1) xs) ≡ i + prefix_len p (drop i xs)
  prefix_on xs i d l q =
      let step : prefix_len p (drop i xs) ≡ 1 + prefix_len p (drop (i + 1) xs) =
      ap (prefix_len p) (drop-at xs i (slice_index_or xs i d) (slice_get-get_or xs i d l)) ∙ ap (λ b. cond b (1 + prefix_len p (drop (i + 1) xs)) 0) q in
      omega (arith, step)

  -- the prefix ends at an item that doesn't pass, or with the list
  pub prefix_is : (xs : List X) (i : ℕ) (d : X)
      → i < length xs
      → p (slice_index_or xs i d) ≡ false
      → i + prefix_len p (drop i xs) ≡ prefix_len p xs
      → i ≡ prefix_len p xs
  prefix_is xs i d l q so_far =
      let none : prefix_len p (drop i xs) ≡ 0 =
      ap (prefix_len p) (drop-at xs i (slice_index_or xs i d) (slice_get-get_or xs i d l)) ∙ ap (λ b. cond b (1 + prefix_len p (drop (i + 1) xs)) 0) q in
      omega (arith, none, so_far)

  pub prefix_all : (xs : List X) (i : ℕ) → length xs ≤ i → i ≤ length xs → i + prefix_len p (drop i xs) ≡ prefix_len p xs → length xs ≡ prefix_len p xs
  prefix_all xs i l m so_far =
      let none : prefix_len p (drop i xs) ≡ 0 = ap (prefix_len p) (drop-end xs i (omega (arith, l, m))) in
      omega (arith, none, so_far, l, m)
