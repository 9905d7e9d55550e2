-- Each line has its words of the list of words, and 0 at every other offset: what keeps that.
use Rattle.snoop_bus.proofs.Vocabulary.{nat_tests, arith, ◌≡◌, ◌≢◌, ◌⊎◌, inl, inr, ℕ, ◌<◌, ◌≤◌, nat_eq, true, false, refl, sym, ap, ◌∙◌}
use Rattle.snoop_bus.proofs.Vocabulary.{List, length, slice_set, if◌then◌else◌, ◌%◌, slice_index_or, nat_lt, ◌+◌, ◌*◌, ◌/◌, slice_index}
use Rattle.snoop_bus.proofs.Vocabulary.{cases_eq, cases_lt, Words, words_in_lines, offset_of, line_of_words, get_or-set_same}
use Rattle.snoop_bus.proofs.Vocabulary.{get_or-set_other, ext_get_or, length-set, length-map-range_with_len, get_or-map-range_with_len}
use Rattle.snoop_bus.proofs.Vocabulary.{div-add-mod', div-mul-add, mod-mul-add, mod_below, most_words}
use Rattle.cache_set.proofs.Numbers.{differ, itself}
use Rattle.snoop_bus.proofs.WordLemmas.{length-words, words-same, words-set}

-- where each line is as it was
pub lines-same : (words n size : ℕ) (l0 l2 : ℕ → Words) → 0 < words → n ≤ size * words → ((k : ℕ) → k < size → l2 k ≡ l0 k) →
    ((k : ℕ) → k < size → l0 k ≡ line_of_words words (words_in_lines words l0 n) k)
    → (k : ℕ) → k < size
    → l2 k ≡ line_of_words words (words_in_lines words l2 n) k
lines-same words n size l0 l2 some enough same was k b =
    same k b ∙ was k b ∙ ap (λ (ws : List ℕ). line_of_words words ws k) (sym (words-same words n size l0 l2 some enough same))

pub place-at : (words : ℕ) (ws : List ℕ) (k p : ℕ) → p < most_words → slice_index (line_of_words words ws k) p ≡ offset_of words ws k p
place-at words ws k p b = get_or-map-range_with_len (offset_of words ws k) 0 most_words p p 0 b (omega arith)

pub length-line : (words : ℕ) (ws : List ℕ) (k : ℕ) → length (line_of_words words ws k) ≡ most_words
length-line words ws k = length-map-range_with_len (offset_of words ws k) 0 most_words

module _ (words : ℕ) (ws : List ℕ) (loc value : ℕ) (some : 0 < words) (within : loc < length ws) where
  -- a location that is written is one offset of one line
  place-set : (k p : ℕ) →
      ((k ≡ loc / words) × (p ≡ loc % words) × (offset_of words (slice_set ws loc value) k p ≡ value))
      ⊎ ((k ≡ loc / words → p ≢ loc % words) × (offset_of words (slice_set ws loc value) k p ≡ offset_of words ws k p))
  place-set k p = by_size (cases_lt p words)
    where
      by_loc : p < words → (k * words + p ≡ loc) ⊎ (k * words + p ≢ loc) →
          ((k ≡ loc / words) × (p ≡ loc % words) × (offset_of words (slice_set ws loc value) k p ≡ value))
          ⊎ ((k ≡ loc / words → p ≢ loc % words) × (offset_of words (slice_set ws loc value) k p ≡ offset_of words ws k p))
      by_loc low (inl e) =
          let yes : nat_lt p words ≡ true = grind (arith, nat_tests) in
          inl (
            sym (div-mul-add k words p low) ∙ ap (λ (n : ℕ). n / words) e,
            sym (mod-mul-add k words p low) ∙ ap (λ (n : ℕ). n % words) e,
            rw (yes, e) (get_or-set_same ws loc value 0 within),
          )
      by_loc low (inr d) =
          let yes : nat_lt p words ≡ true = grind (arith, nat_tests) in
          inr (λ a b. d (rw (a, b) (div-add-mod' loc words)), rw yes (get_or-set_other ws loc (k * words + p) value 0 d))

      by_size : (p < words) ⊎ (words ≤ p) →
          ((k ≡ loc / words) × (p ≡ loc % words) × (offset_of words (slice_set ws loc value) k p ≡ value))
          ⊎ ((k ≡ loc / words → p ≢ loc % words) × (offset_of words (slice_set ws loc value) k p ≡ offset_of words ws k p))
      by_size (inl low) = by_loc low (cases_eq (k * words + p) loc)
      by_size (inr high) =
          let no : nat_lt p words ≡ false = grind (arith, nat_tests) in
          inr (λ a b. let below : loc % words < words = mod_below loc words some in omega arith, rw no refl)

  line-here : (k : ℕ) → k ≡ loc / words → line_of_words words (slice_set ws loc value) k ≡ slice_set (line_of_words words ws k) (loc % words) value
  line-here k e =
      ext_get_or 0 (line_of_words words (slice_set ws loc value) k) (slice_set (line_of_words words ws k) (loc % words) value)
      (length-line words (slice_set ws loc value) k ∙ sym (length-line words ws k) ∙ sym (length-set (line_of_words words ws k) (loc % words) value)) (λ p b.
      let bp : p < most_words = rw (length-line words (slice_set ws loc value) k) at b in
      place-at words (slice_set ws loc value) k p bp ∙ at p bp (place-set k p))
    where
      at : (p : ℕ) → p < most_words →
          ((k ≡ loc / words) × (p ≡ loc % words) × (offset_of words (slice_set ws loc value) k p ≡ value))
          ⊎ ((k ≡ loc / words → p ≢ loc % words) × (offset_of words (slice_set ws loc value) k p ≡ offset_of words ws k p)) →
          offset_of words (slice_set ws loc value) k p ≡ slice_index_or (slice_set (line_of_words words ws k) (loc % words) value) p 0
      at p b (inl q) = q.2 ∙ sym (rw q.1 (get_or-set_same (line_of_words words ws k) (loc % words) value 0 (rw (length-line words ws k, ← q.1) b)))
      at p b (inr q) = q.1 ∙ sym (get_or-set_other (line_of_words words ws k) (loc % words) p value 0 (q.0 e) ∙ place-at words ws k p b)

  line-away : (k : ℕ) → k ≢ loc / words → line_of_words words (slice_set ws loc value) k ≡ line_of_words words ws k
  line-away k d =
      ext_get_or 0 (line_of_words words (slice_set ws loc value) k) (line_of_words words ws k)
      (length-line words (slice_set ws loc value) k ∙ sym (length-line words ws k)) (λ p b.
      let bp : p < most_words = rw (length-line words (slice_set ws loc value) k) at b in
      place-at words (slice_set ws loc value) k p bp ∙ at p (place-set k p) ∙ sym (place-at words ws k p bp))
    where
      at : (p : ℕ) →
          ((k ≡ loc / words) × (p ≡ loc % words) × (offset_of words (slice_set ws loc value) k p ≡ value))
          ⊎ ((k ≡ loc / words → p ≢ loc % words) × (offset_of words (slice_set ws loc value) k p ≡ offset_of words ws k p)) →
          offset_of words (slice_set ws loc value) k p ≡ offset_of words ws k p
      at p (inl q) = absurd (d q.0)
      at p (inr q) = q.1

-- where one offset of one line was written
pub lines-set : (words n size : ℕ) (l0 l2 : ℕ → Words) (loc value : ℕ) → 0 < words → n ≤ size * words → loc < n → loc % words < length (l0 (loc / words)) →
    ((k : ℕ) → k < size → l2 k ≡ (if nat_eq k (loc / words) then slice_set (l0 (loc / words)) (loc % words) value else l0 k)) →
    ((k : ℕ) → k < size → l0 k ≡ line_of_words words (words_in_lines words l0 n) k)
    → (k : ℕ) → k < size
    → l2 k ≡ line_of_words words (words_in_lines words l2 n) k
lines-set words n size l0 l2 loc value some enough within offset set was k b =
    by_line (cases_eq k (loc / words))
    ∙ ap (λ (ws : List ℕ). line_of_words words ws k) (sym (words-set words n size l0 l2 loc value some enough within offset set))
  where
    there : loc < length (words_in_lines words l0 n)
    there = rw (length-words words l0 n) within

    by_line : (k ≡ loc / words) ⊎ (k ≢ loc / words) → l2 k ≡ line_of_words words (slice_set (words_in_lines words l0 n) loc value) k
    by_line (inl p) =
        let yes : nat_eq k (loc / words) ≡ true = rw p (itself (loc / words)) in
        (rw yes at (set k b)) ∙ ap (λ (w : Words). slice_set w (loc % words) value) (ap l0 (sym p) ∙ was k b)
        ∙ sym (line-here words (words_in_lines words l0 n) loc value some there k p)
    by_line (inr p) =
        let no : nat_eq k (loc / words) ≡ false = differ k (loc / words) p in
        (rw no at (set k b)) ∙ was k b ∙ sym (line-away words (words_in_lines words l0 n) loc value some there k p)
