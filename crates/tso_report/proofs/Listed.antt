-- Lists that a loop makes element by element.
use Rattle.tso_report.proofs.Vocabulary.{◌≡◌, ◌∙◌, ◌≤◌, ◌++◌, ◌∷◌, [], ℕ, List, ap, sym, length, drop, map, drop_all, append_assoc}
use Rattle.tso_report.proofs.Vocabulary.{append-nil, rules, string_bytes, string, view}
use Rattle.std.proofs.Common.{String, Global}
use Rattle.std.proofs.lemmas.List.{map-append}
use Rattle.serde_json.specs.declared.value.Value.{Value, the_lemmas}
use Rattle.serde_json.specs.declared.value.Value.TheVariants as value

-- one more is made
pub listed : {Y : Type 0} (made after : List Y) (first : Y) (rest all whole : List Y)
    → after ≡ made ++ first ∷ []
    → all ≡ first ∷ rest
    → made ++ all ≡ whole
    → after ++ rest ≡ whole
listed made after first rest all whole pushed next so_far =
    ap (λ l. l ++ rest) pushed ∙ (append_assoc made (first ∷ []) rest ∙ (sym (ap (λ l. made ++ l) next) ∙ so_far))

-- nothing is left to be made at the end
pub all-made : {X Y : Type 0} (f : X → Y) (xs : List X) (i : ℕ) (made : List Y) → length xs ≤ i
    → made ++ map f (drop i xs) ≡ map f xs → made ≡ map f xs
all-made f xs i made over so =
    sym (append-nil made) ∙ (ap (λ ys. made ++ ys) (sym (ap (map f) (drop_all i xs over))) ∙ so)

view-text : (text : String Global) → view (value.String text) ≡ string (string_bytes text)
view-text text = search (rules, the_lemmas)

-- one text more is pushed
pub text-pushed : (before after : List Value) (text : String Global) (bytes : List ℕ) → after ≡ before ++ value.String text ∷ [] → string_bytes text ≡ bytes
    → map view after ≡ map view before ++ string bytes ∷ []
text-pushed before after text bytes is text_is =
    ap (map view) is ∙ (map-append view before (value.String text ∷ []) ∙ ap (λ d. map view before ++ d ∷ []) (view-text text ∙ ap string text_is))
