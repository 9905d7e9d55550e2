-- Values of which at most one number is left.
use Rattle.lemma_refutations.proofs.Vocabulary.{◌≡◌, ◌==◌, ◌||◌, ℕ, suc, Bool, true, false, not, if◌then◌else◌, Entry, List, [], ◌∷◌, Some}
use Rattle.lemma_refutations.proofs.Vocabulary.{None, refl, sym, ap, ◌∙◌, ◌⊎◌, inl, inr, subst, slice_get, map, filter, number-same}
use Rattle.lemma_refutations.proofs.Vocabulary.{same-number, Values, can_be, values_of}
use Rattle.possible_reads.specs.Possible.{at_most_64, either_of, both_of, any_of, combined_values, negated_values, only_where}
use Rattle.possible_reads.specs.Possible.{exchanged_word, exchanged_values, kept, is_among}
use Rattle.tso_terms.specs.Thread.{combined, difference_of}
use Rattle.basic_laws.specs.Types.{Operator}
use Rattle.possible_reads.proofs.Values.{turned}
use Rattle.lemma_refutations.proofs.Programs.{Relates}
use Rattle.lemma_refutations.proofs.Lists.{any-picked, any-at, filter-at}

-- this number, or none
abbrev pub AtMost : ℕ → Values → Type 0
AtMost n vs = (vs ≡ Some []) ⊎ (vs ≡ Some (n ∷ []))

pub exactly-one : (n : ℕ) → AtMost n (Some (n ∷ []))
exactly-one n = inr refl

-- what can be is so of the number
abbrev pub Exact : ℕ → Values → Type 0
Exact n vs = (p : ℕ → Bool) → can_be vs p ≡ true → p n ≡ true

pub most-exact : (n : ℕ) (vs : Values) → AtMost n vs → Exact n vs
most-exact n vs (inl e) p h = let q : can_be (Some []) p ≡ true = subst (λ us. can_be us p ≡ true) e h in let z : ⊥ = cc in absurd z
most-exact n vs (inr e) p h = only (p n) (subst (λ us. can_be us p ≡ true) e h)
  where
    only : (b : Bool) → (b || false) ≡ true → b ≡ true
    only true h = refl
    only false h = h

two : (n : ℕ) → either_of (Some (n ∷ [])) (Some (n ∷ [])) ≡ Some (n ∷ [])
two n = go (n == n) (number-same n n refl)
  where
    go : (b : Bool) → b ≡ true → at_most_64 (if (b || false) then n ∷ [] else n ∷ (n ∷ [])) ≡ Some (n ∷ [])
    go true h = refl
    go false h = let z : ⊥ = cc in absurd z

pub either-most : (n : ℕ) (us vs : Values) → AtMost n us → AtMost n vs → AtMost n (either_of us vs)
either-most n us vs (inl e) (inl f) = inl (ap (λ x. either_of x vs) e ∙ ap (λ x. either_of (Some []) x) f)
either-most n us vs (inl e) (inr f) = inr (ap (λ x. either_of x vs) e ∙ ap (λ x. either_of (Some []) x) f)
either-most n us vs (inr e) (inl f) = inr (ap (λ x. either_of x vs) e ∙ ap (λ x. either_of (Some (n ∷ [])) x) f)
either-most n us vs (inr e) (inr f) = inr (ap (λ x. either_of x vs) e ∙ (ap (λ x. either_of (Some (n ∷ [])) x) f ∙ two n))

pub any-most : {A : Type 0} (n : ℕ) (f : A → Values) (xs : List A) → ((i : ℕ) (x : A) → slice_get xs i ≡ Some x → AtMost n (f x))
    → AtMost n (any_of (map f xs))
any-most n f [] h = inl refl
any-most n f (x ∷ xs) h = either-most n (f x) (any_of (map f xs)) (h 0 x refl) (any-most n f xs (λ i y e. h (suc i) y e))

one-kept : (n : ℕ) (b : Bool) → AtMost n (Some (if b then n ∷ [] else []))
one-kept n true = inr refl
one-kept n false = inl refl

pub kept-most : (n : ℕ) (p : ℕ → Bool) (vs : Values) → AtMost n vs → AtMost n (kept p vs)
kept-most n p vs (inl e) = inl (ap (kept p) e)
kept-most n p vs (inr e) = subst (λ x. AtMost n (kept p x)) (sym e) (one-kept n (p n))

pub both-most : (n : ℕ) (us vs : Values) → AtMost n us → AtMost n (both_of us vs)
both-most n us None (inl e) = inl (ap (λ x. both_of x None) e)
both-most n us (Some vs) (inl e) = inl (ap (λ x. both_of x (Some vs)) e)
both-most n us None (inr e) = inr (ap (λ x. both_of x None) e)
both-most n us (Some vs) (inr e) = subst (λ x. AtMost n (both_of x (Some vs))) (sym e) (one-kept n (is_among vs n))

combined-most : (operator : Operator) (m n : ℕ) (us vs : Values) → AtMost m us → AtMost n vs → AtMost (combined operator m n) (combined_values operator us vs)
combined-most operator m n us vs (inl e) (inl f) =
    inl (ap (λ x. combined_values operator x vs) e ∙ ap (λ x. combined_values operator (Some []) x) f)
combined-most operator m n us vs (inl e) (inr f) =
    inl (ap (λ x. combined_values operator x vs) e ∙ ap (λ x. combined_values operator (Some []) x) f)
combined-most operator m n us vs (inr e) (inl f) =
    inl (ap (λ x. combined_values operator x vs) e ∙ ap (λ x. combined_values operator (Some (m ∷ [])) x) f)
combined-most operator m n us vs (inr e) (inr f) =
    inr (ap (λ x. combined_values operator x vs) e ∙ ap (λ x. combined_values operator (Some (m ∷ [])) x) f)

negated-most : (n : ℕ) (vs : Values) → AtMost n vs → AtMost (difference_of 0 n) (negated_values vs)
negated-most n vs (inl e) = inl (ap negated_values e)
negated-most n vs (inr e) = inr (ap negated_values e)

word-most : (m e n : ℕ) (eax new : Values) → AtMost e eax → AtMost n new → AtMost (if m == e then n else m) (exchanged_word eax new m)
word-most m e n eax new (inl k) l = inl (ap (λ x. exchanged_word x new m) k)
word-most m e n eax new (inr k) l =
    subst (λ x. AtMost (if m == e then n else m) (exchanged_word x new m)) (sym k)
    (subst (λ b. AtMost (if b then n else m) (exchanged_word (Some (e ∷ [])) new m)) (turned m e) (go (e == m)))
  where
    go : (b : Bool) → AtMost (if b then n else m) (either_of (only_where (b || false) new) (only_where (not b || false) (Some (m ∷ []))))
    go true = either-most n new (Some []) l (inl refl)
    go false = either-most m (Some []) (Some (m ∷ [])) (inl refl) (exactly-one m)

exchanged-most : (m e n : ℕ) (words eax new : Values) → AtMost m words → AtMost e eax → AtMost n new
    → AtMost (if m == e then n else m) (exchanged_values words eax new)
exchanged-most m e n words eax new (inl w) k l = inl (ap (λ x. exchanged_values x eax new) w)
exchanged-most m e n words eax new (inr w) k l =
    subst (λ x. AtMost (if m == e then n else m) (exchanged_values x eax new)) (sym w)
    (either-most (if m == e then n else m) (exchanged_word eax new m) (Some []) (word-most m e n eax new k l) (inl refl))

-- having at most this value relates what instructions make of values
pub most-relates : (reads : Entry → Values) → Relates (λ x n. AtMost n (values_of reads x))
most-relates reads = record {
  constant = λ n. exactly-one n;
  combine = λ operator a b m n u v. combined-most operator m n (values_of reads a) (values_of reads b) u v;
  negate = λ a n u. negated-most n (values_of reads a) u;
  exchange = λ word eax new m e n u v w. exchanged-most m e n (values_of reads word) (values_of reads eax) (values_of reads new) u v w;
}

-- what is exact stays so where fewer are left
pub kept-exact : (n : ℕ) (p : ℕ → Bool) (vs : Values) → Exact n vs → Exact n (kept p vs)
kept-exact n p None x q h = x q h
kept-exact n p (Some vs) x q h =
    let m = any-picked q (filter p vs) h in
    let f = filter-at p vs m.place m.member m.stands in
    x q (any-at q vs f.0.0 m.member f.0.1 m.holds)

pub both-exact : (n : ℕ) (us vs : Values) → Exact n vs → Exact n (both_of us vs)
both-exact n None vs x q h = x q h
both-exact n (Some us) None x q h = x q refl
both-exact n (Some us) (Some vs) x q h =
    let m = any-picked q (filter (is_among vs) us) h in
    let f = filter-at (is_among vs) us m.place m.member m.stands in
    let g = any-picked (λ v. v == m.member) vs f.1 in
    let e : g.member ≡ m.member = same-number g.member m.member g.holds in
    x q (any-at q vs g.place g.member g.stands (subst (λ v. q v ≡ true) (sym e) m.holds))
