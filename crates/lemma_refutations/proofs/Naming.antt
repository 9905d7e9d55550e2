-- The first relation of an edge.
use Rattle.lemma_refutations.proofs.Vocabulary.{◌≡◌, ◌||◌, Bool, true, false, if◌then◌else◌, List, [], ◌∷◌, Some, refl, ap, ◌∙◌, sym}
use Rattle.lemma_refutations.proofs.Vocabulary.{Litmus, Entry, Knowledge, relates, is_edge, Relation}
use Rattle.lemma_refutations.specs.Shown.{first_that_relates}
use Rattle.refutation_laws.proofs.Tests.{or-first, or-second}

pub has-first : (t : Litmus) (k : Knowledge) (rs : List Relation) (x y : Entry) → is_edge t k rs x y ≡ true
    → (r : Relation) × (first_that_relates t k rs x y ≡ Some r)
has-first t k [] x y h = let z : ⊥ = cc in absurd z
has-first t k (r ∷ rs) x y h = go (relates t k r x y) refl h (λ g. has-first t k rs x y g)
  where
    go : (b : Bool) → relates t k r x y ≡ b → (b || is_edge t k rs x y) ≡ true
        → (is_edge t k rs x y ≡ true → (s : Relation) × (first_that_relates t k rs x y ≡ Some s))
        → (s : Relation) × ((if b then Some r else first_that_relates t k rs x y) ≡ Some s)
    go true q g later = (r, refl)
    go false q g later = later g

pub first-holds : (t : Litmus) (k : Knowledge) (rs : List Relation) (x y : Entry) (r : Relation) → first_that_relates t k rs x y ≡ Some r
    → (relates t k r x y ≡ true) × (is_edge t k rs x y ≡ true)
first-holds t k [] x y r h = let z : ⊥ = cc in absurd z
first-holds t k (s ∷ rs) x y r h = go (relates t k s x y) refl h (λ g. first-holds t k rs x y r g)
  where
    go : (b : Bool) → relates t k s x y ≡ b → (if b then Some s else first_that_relates t k rs x y) ≡ Some r
        → (first_that_relates t k rs x y ≡ Some r → (relates t k r x y ≡ true) × (is_edge t k rs x y ≡ true))
        → (relates t k r x y ≡ true) × ((relates t k s x y || is_edge t k rs x y) ≡ true)
    go true q g later =
        let e : s ≡ r = cc in
        (ap (λ z. relates t k z x y) (sym e) ∙ q, or-first (relates t k s x y) _ q)
    go false q g later = let m = later g in (m.0, or-second (relates t k s x y) _ m.1)
