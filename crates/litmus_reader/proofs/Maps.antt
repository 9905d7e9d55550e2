-- Searches and cuts of a list, seen through a map.
use Rattle.litmus_reader.proofs.Vocabulary.{◌≡◌, Bool, true, false, cond, List, [], ◌∷◌, map, refl, slice_split, onto_first}

onto_first-map : {X Y : Type 0} (f : X → Y) (x : X) (parts : List (List X)) → onto_first (f x) (map (map f) parts) ≡ map (map f) (onto_first x parts)
onto_first-map f x [] = refl
onto_first-map f x (part ∷ parts) = refl

pub slice_split-map : {X Y : Type 0} (p : Y → Bool) (f : X → Y) (xs : List X) → slice_split p (map f xs) ≡ map (map f) (slice_split (λ x. p (f x)) xs)
slice_split-map p f [] = refl
slice_split-map p f (x ∷ xs) = rw (slice_split-map p f xs) (choice (p (f x)))
  where
    choice : (b : Bool)
        → cond b ([] ∷ map (map f) (slice_split (λ y. p (f y)) xs)) (onto_first (f x) (map (map f) (slice_split (λ y. p (f y)) xs)))
        ≡ map (map f) (cond b ([] ∷ slice_split (λ y. p (f y)) xs) (onto_first x (slice_split (λ y. p (f y)) xs)))
    choice true = refl
    choice false = onto_first-map f x (slice_split (λ y. p (f y)) xs)
