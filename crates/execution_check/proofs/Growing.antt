-- Lists that a loop makes of another one, item by item.
use Rattle.std.proofs.Common.{ℕ, ◌≡◌, ◌≤◌, List, [], ◌++◌, length, drop, sym, ap, ◌∙◌}
use Rattle.std.proofs.lemmas.List.{append-nil, drop_all}

-- nothing is left to be made at the end
pub all-made : {X Y : Type 0} (F : List X → List Y) → F [] ≡ [] → (xs : List X) (i : ℕ) (made whole : List Y) → length xs ≤ i
    → whole ≡ made ++ F (drop i xs) → made ≡ whole
all-made F none xs i made whole over so =
    sym (append-nil made) ∙ (ap (λ ys. made ++ ys) (sym (ap F (drop_all i xs over) ∙ none)) ∙ sym so)
