-- Lines of words that come in the place of others, one after the other.
use Rattle.cache_set.proofs.Vocabulary.{arith, ◌≡◌, ℕ, List, [], ◌∷◌, length, map, sym, ap, ◌∙◌, ◌<◌, ◌+◌, slice_set, slice_index_or, drop}
use Rattle.cache_set.proofs.Vocabulary.{◌++◌, append_assoc, drop_more, range_with_len, length-map-range_with_len, map-range_with_len_more}
use Rattle.std.proofs.lemmas.List.{set_at}

-- one line more comes in the place of the one that was there
pub put-next : {A : Type 0} (f : ℕ → A) (n : ℕ) (xs ys : List A) (d : A) → n < length xs → ys ≡ map f (range_with_len 0 n) ++ drop n xs →
    slice_set ys n (f n) ≡ map f (range_with_len 0 (n + 1)) ++ drop (n + 1) xs
put-next f n xs ys d within so_far =
    let front = map f (range_with_len 0 n) in
    let parts : ys ≡ front ++ slice_index_or xs n d ∷ drop (n + 1) xs = so_far ∙ ap (λ l. front ++ l) (drop_more xs n d within) in
    ap (λ l. slice_set l n (f n)) parts
    ∙ set_at front _ _ (f n) n (length-map-range_with_len f 0 n)
    ∙ sym (append_assoc front (f n ∷ []) _)
    ∙ ap (λ l. l ++ drop (n + 1) xs) (sym (map-range_with_len_more f 0 n n (omega arith)))
