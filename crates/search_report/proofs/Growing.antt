-- Lists that a loop makes of another one, item by item.
use Rattle.search_report.proofs.Vocabulary.{Bool, true, false, cond, filter, ℕ, ◌+◌, ◌≡◌, ◌<◌, ◌≤◌, append-nil, drop_all, List, [], ◌∷◌}
use Rattle.search_report.proofs.Vocabulary.{◌++◌, length, drop, get_or, map, sym, ap, ◌∙◌, append_assoc, drop_more, flat_map}

-- what is written of the next item comes after what is written
pub written : {X : Type 0} (f : X → List ℕ) (xs : List X) (i : ℕ) (x : X) (old new whole : List ℕ) → i < length xs → x ≡ get_or xs i x → new ≡ old ++ f x
    → old ++ flat_map f (drop i xs) ≡ whole → new ++ flat_map f (drop (i + 1) xs) ≡ whole
written f xs i x old new whole w is e h =
    let rest = flat_map f (drop (i + 1) xs) in
    ap (λ z. z ++ rest) e
    ∙ (append_assoc old (f x) rest ∙ (ap (λ y. old ++ (f y ++ rest)) is ∙ (sym (ap (λ ys. old ++ flat_map f ys) (drop_more xs i x w)) ∙ h)))

-- nothing is left to be made at the end
pub all-made : {X Y : Type 0} (F : List X → List Y) → F [] ≡ [] → (xs : List X) (i : ℕ) (made whole : List Y) → length xs ≤ i
    → made ++ F (drop i xs) ≡ whole → made ≡ whole
all-made F none xs i made whole over so =
    sym (append-nil made) ∙ (ap (λ ys. made ++ ys) (sym (ap F (drop_all i xs over) ∙ none)) ∙ so)
