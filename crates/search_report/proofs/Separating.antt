-- Items with something between them, by way of what they stand for.
use Rattle.search_report.proofs.Vocabulary.{◌≡◌, ℕ, List, [], ◌∷◌, ◌++◌, ap, sym, refl, map, flat_map-map, append_assoc, append-nil, ◌∙◌}
use Rattle.search_report.specs.ShownText.{separated}

pub separated-map : {X Y : Type 0} (between : List ℕ) (f : Y → List ℕ) (g : X → Y) (xs : List X)
    → separated between (λ x. f (g x)) xs ≡ separated between f (map g xs)
separated-map between f g [] = refl
separated-map between f g (x ∷ xs) = ap (λ ys. f (g x) ++ ys) (sym (flat_map-map (λ y. between ++ f y) g xs))

-- nothing closes the answers of a line
pub case-written : (text question answers closed : List ℕ) → closed ≡ [] → (text ++ question) ++ answers ≡ text ++ (question ++ (answers ++ closed))
case-written text question answers closed none =
    append_assoc text question answers
    ∙ ap (λ bytes. text ++ (question ++ bytes)) (sym (append-nil answers) ∙ ap (λ bytes. answers ++ bytes) (sym none))

-- this closes them
pub case-closed : (text question answers closed colon closing : List ℕ) → closed ≡ colon ++ closing
    → (((text ++ question) ++ answers) ++ colon) ++ closing ≡ text ++ (question ++ (answers ++ closed))
case-closed text question answers closed colon closing is =
    append_assoc ((text ++ question) ++ answers) colon closing
    ∙ (append_assoc (text ++ question) answers (colon ++ closing)
    ∙ (append_assoc text question (answers ++ (colon ++ closing))
    ∙ ap (λ bytes. text ++ (question ++ (answers ++ bytes))) (sym is)))
