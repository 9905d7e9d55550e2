-- The words of a generator, one after the other.
use Rattle.scheduler.proofs.Vocabulary.{◌≡◌, ◌≢◌, ℕ, ◌-◌, zero, suc, [], ◌∷◌, length, refl, ap, sym, ◌∙◌, map, arith, Lcg, pcg32, drawn_words}

-- as many words as were asked for
pub length-words : {X : Type 0} (f : ℕ → X) (n : ℕ) (g : Lcg) → length (map f (drawn_words n g)) ≡ n
unfolding drawn_words
length-words f zero g = refl
length-words f (suc n) g = ap suc (length-words f n (pcg32 g).1)

-- where none is left to be drawn
pub none-drawn : {X : Type 0} (f : ℕ → X) (n : ℕ) (g : Lcg) → n ≡ 0 → map f (drawn_words n g) ≡ []
unfolding drawn_words
none-drawn f n g none = rw none refl

-- where one is left
pub one-drawn : {X : Type 0} (f : ℕ → X) (n : ℕ) (g after : Lcg) (word : ℕ) (x : X)
    → n ≢ 0
    → (word, after) ≡ pcg32 g
    → x ≡ f word
    → map f (drawn_words n g) ≡ x ∷ map f (drawn_words (n - 1) after)
unfolding drawn_words
one-drawn f zero g after word x some drawn is = absurd (some refl)
one-drawn f (suc n) g after word x some drawn is =
    let one : suc n - 1 ≡ n = omega arith in
    ap (λ w. f w.0 ∷ map f (drawn_words n w.1)) (sym drawn) ∙ rw (is, one) refl
