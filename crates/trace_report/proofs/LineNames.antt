-- The name of a line, made name by name.
use Rattle.trace_report.proofs.Vocabulary.{◌≡◌, ◌∙◌, ℕ, ◌+◌, ◌<◌, ◌≤◌, List, [], ◌∷◌, ◌++◌, length, take, drop, get_or, codes, sym, ap}
use Rattle.trace_report.proofs.Vocabulary.{append_assoc, append-nil, arith, drop_of_length-le, drop_more, get_or-take, length-take}
use Rattle.trace_report.proofs.Vocabulary.{after_plus, joined_by_plus}

-- what is left of the first names from a place before their end
left : (names : List (List ℕ)) (stop i : ℕ) → i < stop → i < length names → drop i (take stop names) ≡ get_or names i [] ∷ drop (i + 1) (take stop names)
left names stop i within there =
    let room : i < length (take stop names) = omega (arith, length-take stop names) in
    drop_more (take stop names) i [] room ∙ ap (λ name. name ∷ drop (i + 1) (take stop names)) (get_or-take stop names i [] within)

pub one-named : (names : List (List ℕ)) (stop i : ℕ) (before after whole : List ℕ) → i < stop → i < length names
    → after ≡ before ++ (codes "+" ++ get_or names i []) → before ++ after_plus (drop i (take stop names)) ≡ whole
    → after ++ after_plus (drop (i + 1) (take stop names)) ≡ whole
one-named names stop i before after whole within there is was =
    let rest = drop (i + 1) (take stop names) in
    ap (λ text. text ++ after_plus rest) is
    ∙ (append_assoc before (codes "+" ++ get_or names i []) (after_plus rest)
    ∙ (ap (λ text. before ++ text) (append_assoc (codes "+") (get_or names i []) (after_plus rest))
    ∙ (sym (ap (λ list. before ++ after_plus list) (left names stop i within there)) ∙ was)))

pub all-named : (names : List (List ℕ)) (words first i : ℕ) (old begun text : List ℕ) → 0 < words → first < length names
    → length (take (first + words) names) ≤ i → begun ≡ old ++ get_or names first []
    → text ++ after_plus (drop i (take (first + words) names)) ≡ begun ++ after_plus (drop (first + 1) (take (first + words) names))
    → text ≡ old ++ joined_by_plus (drop first (take (first + words) names))
all-named names words first i old begun text some there past began was =
    let listed = take (first + words) names in
    let within : first < first + words = omega arith in
    sym (append-nil text) ∙ (sym (ap (λ rest. text ++ after_plus rest) (drop_of_length-le listed past)) ∙ (was
    ∙ (ap (λ front. front ++ after_plus (drop (first + 1) listed)) began ∙ (append_assoc old (get_or names first []) (after_plus (drop (first + 1) listed))
    ∙ sym (ap (λ list. old ++ joined_by_plus list) (left names (first + words) first within there))))))
