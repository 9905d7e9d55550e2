-- The line of a step, put together from what is written of it.
use Rattle.trace_report.proofs.Vocabulary.{◌≡◌, ◌≢◌, ◌∙◌, ◌⊎◌, inl, inr, refl, arith, ℕ, zero, suc, ◌+◌, slice_index_or, List, [], ◌∷◌}
use Rattle.trace_report.proofs.Vocabulary.{◌++◌, codes, sym, ap, append_assoc, Litmus, Entry, later_stores}
use Rattle.std.specs.Fmt.{decimal}
use Rattle.trace_report.specs.Lines.{store_text, stores_text}

-- the pending stores from the one at this place on
abbrev pub stores_from : Litmus → ℕ → List Entry → List ℕ
stores_from t zero stores = stores_text t stores
stores_from t (suc at) stores = later_stores t stores

-- one store more is written, after a space where it isn't the first
pub one-store : (t : Litmus) (at : ℕ) (e : Entry) (es all : List Entry) (space name before after whole : List ℕ)
    → ((at ≡ 0) × (space ≡ [])) ⊎ ((at ≢ 0) × (space ≡ codes " ")) → name ≡ slice_index_or t.locations e.loc.0 []
    → after ≡ before ++ (space ++ (name ++ (codes "=" ++ decimal e.value)))
    → all ≡ e ∷ es → before ++ stores_from t at all ≡ whole → after ++ stores_from t (at + 1) es ≡ whole
one-store t at e es all space name before after whole where_it_is name_is is next was =
    by_place at where_it_is (sym (ap (λ list. before ++ stores_from t at list) next) ∙ was)
  where
    written : after ≡ before ++ (space ++ store_text t e)
    written = is ∙ ap (λ n. before ++ (space ++ (n ++ (codes "=" ++ decimal e.value)))) name_is

    later : (n : ℕ) → n + 1 ≡ suc n
    later n = omega arith

    by_place : (n : ℕ)
        → ((n ≡ 0) × (space ≡ [])) ⊎ ((n ≢ 0) × (space ≡ codes " "))
        → before ++ stores_from t n (e ∷ es) ≡ whole
        → after ++ stores_from t (n + 1) es ≡ whole
    by_place zero (inl (first, none)) so_far =
        ap (λ text. text ++ later_stores t es) (written ∙ ap (λ s. before ++ (s ++ store_text t e)) none)
        ∙ (append_assoc before (store_text t e) (later_stores t es) ∙ so_far)
    by_place (suc n) (inl (first, none)) so_far = absurd (omega (arith, first))
    by_place zero (inr (other, one)) so_far = absurd (other refl)
    by_place (suc n) (inr (other, one)) so_far =
        ap (λ place. after ++ stores_from t place es) (later (suc n))
        ∙ (ap (λ text. text ++ later_stores t es) (written ∙ ap (λ s. before ++ (s ++ store_text t e)) one)
        ∙ (append_assoc before (codes " " ++ store_text t e) (later_stores t es) ∙ so_far))

-- a line of five parts, the last two of them together
pub five-parts : (old outcome did traffic changes buffer : List ℕ) (first second third fourth fifth all : List ℕ)
    → first ≡ old ++ outcome → second ≡ first ++ did → third ≡ second ++ traffic → fourth ≡ third ++ changes → fifth ≡ fourth ++ buffer → all ≡ fifth ++ 10 ∷ []
    → all ≡ old ++ (outcome ++ (did ++ (traffic ++ ((changes ++ buffer) ++ 10 ∷ []))))
five-parts old outcome did traffic changes buffer first second third fourth fifth all is_1 is_2 is_3 is_4 is_5 is =
    is ∙ (ap (λ text. text ++ 10 ∷ []) (is_5 ∙ ap (λ text. text ++ buffer) (is_4 ∙ ap (λ text. text ++ changes) (is_3 ∙ ap (λ text. text ++ traffic)
    (is_2 ∙ ap (λ text. text ++ did) is_1)))) ∙ regrouped)
  where
    regrouped : (((((old ++ outcome) ++ did) ++ traffic) ++ changes) ++ buffer) ++ 10 ∷ []
        ≡ old ++ (outcome ++ (did ++ (traffic ++ ((changes ++ buffer) ++ 10 ∷ []))))
    regrouped = simp append_assoc

-- what is written of three parts, each of them where there is one
pub three-parts : (old request flush back first second all : List ℕ)
    → first ≡ old ++ request → second ≡ first ++ flush → all ≡ second ++ back → all ≡ old ++ (request ++ (flush ++ back))
three-parts old request flush back first second all is_1 is_2 is =
    is ∙ (ap (λ text. text ++ back) (is_2 ∙ ap (λ text. text ++ flush) is_1) ∙ regrouped)
  where
    regrouped : ((old ++ request) ++ flush) ++ back ≡ old ++ (request ++ (flush ++ back))
    regrouped = simp append_assoc
