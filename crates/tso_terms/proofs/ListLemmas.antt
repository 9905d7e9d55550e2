use Rattle.std.proofs.Common.{◌≡◌, ◌<◌, ℕ, suc, zero, List, [], ◌∷◌, length, map, All, slice_index_or, get_or, arith, subst, refl}
use Rattle.std.specs.List.{HoldsAt}
use Rattle.std.proofs.lemmas.List.{length-map}

slice_index_or-map : {X Y : Type 0} (f : X → Y) (xs : List X) (k : ℕ) (d : X) (e : Y)
    → k < length xs
    → slice_index_or (map f xs) k e ≡ f (slice_index_or xs k d)
slice_index_or-map f [] k d e h = absurd (omega arith)
slice_index_or-map f (x ∷ xs) zero d e h = refl
slice_index_or-map f (x ∷ xs) (suc k) d e h = slice_index_or-map f xs k d e (omega arith)

-- what holds of each image
pub All-from_map : {X Y : Type 0} (P : Y → Type 0) (f : X → Y) (xs : List X) → All P (map f xs) → All (λ x. P (f x)) xs
All-from_map P f xs h =
    λ k d l. subst P (slice_index_or-map f xs k d (f d) l) (h k (f d) (let q = length-map xs f in omega arith))

-- what is said of the element at a place, whatever stands for one that isn't there
pub HoldsAt-from_one : {X : Type 0} (P : X → Type 0) (xs : List X) (i : ℕ) (d : X) → i < length xs → P (get_or xs i d) → HoldsAt P xs i
HoldsAt-from_one P [] i d l h = absurd (omega arith)
HoldsAt-from_one P (x ∷ xs) zero d l h = λ e. h
HoldsAt-from_one P (x ∷ xs) (suc i) d l h = HoldsAt-from_one P xs i d (omega arith) h
