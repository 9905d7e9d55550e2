-- How long the front of a list is whose items pass a test, where a loop goes from one item to the next.
use Rattle.std.proofs.Common.{◌≡◌, ℕ, ◌+◌, ◌<◌, ◌≤◌, Bool, true, false, List, length, drop, get_or, refl, ap, arith, add-one, drop-cons, zero, suc, [], ◌∷◌}
use Rattle.std.specs.List.{prefix_len}

drop_end : (xs : List ℕ) (i : ℕ) → length xs ≤ i → drop i xs ≡ []
drop_end [] zero le = refl
drop_end [] (suc i) le = refl
drop_end (x ∷ xs) zero le = absurd (omega (arith, le))
drop_end (x ∷ xs) (suc i) le = drop_end xs i (omega (arith, le))

module _ (p : ℕ → Bool) where
  pub prefix_on : (xs : List ℕ) (i d : ℕ) → i < length xs → p (get_or xs i d) ≡ true → i + 1 + prefix_len p (drop (i + 1) xs) ≡ i + prefix_len p (drop i xs)
  prefix_on xs i d lt passes =
      let step : prefix_len p (drop i xs) ≡ 1 + prefix_len p (drop (i + 1) xs) = rw (add-one, drop-cons xs i d, passes) refl in
      omega (arith, step)

  -- the first item passes
  pub prefix_begins : (xs : List ℕ) → 0 < length xs → p (get_or xs 0 0) ≡ true → 1 + prefix_len p (drop 1 xs) ≡ prefix_len p xs
  prefix_begins [] some passes = absurd (omega (arith, some))
  prefix_begins (x ∷ xs) some passes = rw passes refl

  -- the front ends at an item that doesn't pass, or with the list
  pub prefix_is : (xs : List ℕ) (i d : ℕ) → i < length xs → p (get_or xs i d) ≡ false → i + prefix_len p (drop i xs) ≡ prefix_len p xs → i ≡ prefix_len p xs
  prefix_is xs i d lt fails so_far =
      let none : prefix_len p (drop i xs) ≡ 0 = rw (drop-cons xs i d, fails) refl in
      omega (arith, none, so_far)

  pub prefix_all : (xs : List ℕ) (i : ℕ) → length xs ≤ i → i ≤ length xs → i + prefix_len p (drop i xs) ≡ prefix_len p xs → length xs ≡ prefix_len p xs
  prefix_all xs i past within so_far =
      let none : prefix_len p (drop i xs) ≡ 0 = ap (prefix_len p) (drop_end xs i past) in
      omega (arith, none, so_far, past, within)
