-- An edge is one of a model's relations, and the values of its events have no part in it.
use Rattle.refutation_laws.proofs.Vocabulary.{◌≡◌, ◌==◌, ◌&&◌, ◌||◌, Bool, true, not, List, [], ◌∷◌, Option, Some, None, refl, sym, ap, ◌∙◌}
use Rattle.refutation_laws.proofs.Vocabulary.{◌⊎◌, inl, inr, list_any, Litmus, Entry, or-either, Known, bare, same_event, is_write_of}
use Rattle.refutation_laws.proofs.Vocabulary.{reads_from, is_overwritten, from_reads, relates, is_edge, Source, Relation, Po, PoLoc, PoGhb}
use Rattle.refutation_laws.proofs.Vocabulary.{Mfence, Implied, Rf, Rfe, Co, Fr}
use Rattle.refutation_laws.proofs.Tests.{or-first, or-second}

-- ---- one of some relations

abbrev pub OneOf : Litmus → Known → List Relation → Entry → Entry → Type 0
OneOf t k [] x y = ⊥
OneOf t k (r ∷ rs) x y = (relates t k r x y ≡ true) ⊎ OneOf t k rs x y

pub one-of : (t : Litmus) (k : Known) (rs : List Relation) (x y : Entry) → is_edge t k rs x y ≡ true → OneOf t k rs x y
one-of t k [] x y h = let z : ⊥ = cc in z
one-of t k (r ∷ rs) x y h = elim (or-either (relates t k r x y) (is_edge t k rs x y) h) [ inl g ↦ inl g | inr g ↦ inr (one-of t k rs x y g) ]

pub edge-by : (t : Litmus) (k : Known) (rs : List Relation) (x y : Entry) → OneOf t k rs x y → is_edge t k rs x y ≡ true
edge-by t k [] x y h = absurd h
edge-by t k (r ∷ rs) x y (inl h) = or-first (relates t k r x y) (is_edge t k rs x y) h
edge-by t k (r ∷ rs) x y (inr h) = or-second (relates t k r x y) (is_edge t k rs x y) (edge-by t k rs x y h)

-- ---- values have no part

any-same : (p q : Source → Bool) → ((s : Source) → p s ≡ q s) → (ss : List Source) → list_any p ss ≡ list_any q ss
any-same p q h [] = refl
any-same p q h (s ∷ ss) = ap (λ b. b || list_any p ss) (h s) ∙ ap (λ b. q s || b) (any-same p q h ss)

write-bare : (w : Entry) (o : Option Entry) → is_write_of w o ≡ is_write_of (bare w) o
write-bare w None = refl
write-bare w (Some v) = refl

over-bare : (k : Known) (r v : Entry) (o : Option Entry) → is_overwritten k r o v ≡ is_overwritten k (bare r) o (bare v)
over-bare k r v None = refl
over-bare k r v (Some w) = refl

pub rf-bare : (k : Known) (w r : Entry) → reads_from k w r ≡ reads_from k (bare w) (bare r)
rf-bare k w r =
    any-same (λ (s : Source). same_event s.read r && is_write_of w s.write) (λ (s : Source). same_event s.read r && is_write_of (bare w) s.write)
    (λ s. ap (λ b. same_event s.read r && b) (write-bare w s.write)) k.sources

pub fr-bare : (k : Known) (r v : Entry) → from_reads k r v ≡ from_reads k (bare r) (bare v)
fr-bare k r v =
    any-same (λ (s : Source). same_event s.read r && is_overwritten k r s.write v)
    (λ (s : Source). same_event s.read r && is_overwritten k (bare r) s.write (bare v))
    (λ s. ap (λ b. same_event s.read r && b) (over-bare k r v s.write)) k.sources

relates-bare : (t : Litmus) (k : Known) (r : Relation) (x y : Entry) → relates t k r x y ≡ relates t k r (bare x) (bare y)
relates-bare t k Po x y = refl
relates-bare t k PoLoc x y = refl
relates-bare t k PoGhb x y = refl
relates-bare t k Mfence x y = refl
relates-bare t k Implied x y = refl
relates-bare t k Rf x y = rf-bare k x y
relates-bare t k Rfe x y = ap (λ b. b && not (x.core.0 == y.core.0)) (rf-bare k x y)
relates-bare t k Co x y = refl
relates-bare t k Fr x y = fr-bare k x y

edge-bare : (t : Litmus) (k : Known) (rs : List Relation) (x y : Entry) → is_edge t k rs x y ≡ is_edge t k rs (bare x) (bare y)
edge-bare t k [] x y = refl
edge-bare t k (r ∷ rs) x y =
    ap (λ b. b || is_edge t k rs x y) (relates-bare t k r x y) ∙ ap (λ b. relates t k r (bare x) (bare y) || b) (edge-bare t k rs x y)

pub of-bare : (t : Litmus) (k : Known) (rs : List Relation) (x y : Entry) → is_edge t k rs x y ≡ true → is_edge t k rs (bare x) (bare y) ≡ true
of-bare t k rs x y h = sym (edge-bare t k rs x y) ∙ h
