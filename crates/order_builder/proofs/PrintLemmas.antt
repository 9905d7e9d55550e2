-- Printed lines.
use Rattle.order_builder.proofs.Vocabulary.{◌≡◌, ℕ, List, [], ◌∷◌, ◌++◌, length, map, refl, sym, ap, ◌∙◌, codes, append_assoc, Litmus}
use Rattle.order_builder.proofs.Vocabulary.{Entry, printed_entry, printed_end, printed_lines, printed_order}

pub printed_lines-append : (xs ys : List (List ℕ)) → printed_lines (xs ++ ys) ≡ printed_lines xs ++ printed_lines ys
printed_lines-append [] ys = refl
printed_lines-append (x ∷ xs) ys =
    ap (λ (l : List ℕ). x ++ 10 ∷ l) (printed_lines-append xs ys)
    ∙ sym (append_assoc x (10 ∷ printed_lines xs) (printed_lines ys))

-- the order's text, as it is written part by part after what is there before
pub written_order : (t : Litmus) (order : List Entry) (before a b c : List ℕ) → a ≡ before ++ codes "Order\n"
    → b ≡ a ++ printed_lines (map (printed_entry t) order) → c ≡ b ++ (printed_end (length order) ++ 10 ∷ []) → c ≡ before ++ printed_order t order
written_order t order before a b c a-is b-is c-is =
    let entries = printed_lines (map (printed_entry t) order) in
    let end = printed_end (length order) ++ 10 ∷ [] in
    let lines : c ≡ ((before ++ codes "Order\n") ++ entries) ++ end = c-is ∙ rw (b-is, a-is) refl in
    let joined : printed_lines (map (printed_entry t) order ++ (printed_end (length order) ∷ [])) ≡ entries ++ end =
    printed_lines-append (map (printed_entry t) order) (printed_end (length order) ∷ []) in
    lines ∙ append_assoc (before ++ codes "Order\n") entries end ∙ append_assoc before (codes "Order\n") (entries ++ end)
    ∙ ap (λ (l : List ℕ). before ++ (codes "Order\n" ++ l)) (sym joined)
