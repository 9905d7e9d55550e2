-- Trees are put together: a question whose branches all have a tree has one.
use Rattle.refutation_laws.proofs.Vocabulary.{◌≡◌, true, List, [], ◌∷◌, ◌++◌, append-nil, append_assoc, refl, sym, subst, Litmus, Claim}
use Rattle.refutation_laws.proofs.Vocabulary.{and-both, Known, Model, Node, is_node, branches, close}
use Rattle.refutation_laws.proofs.Tests.{and-of}

module _ (model : Model) (t : Litmus) (claim : Claim) where
  -- trees for some cases, and trees for others after them, are trees for both
  pub side-by-side : (ns ms : List Node) (js ks : List Known) → close model t claim js ns ≡ true → close model t claim ks ms ≡ true
      → close model t claim (js ++ ks) (ns ++ ms) ≡ true
  side-by-side [] ms [] ks h g = g
  side-by-side [] ms (j ∷ js) ks h g = let z : ⊥ = cc in absurd z
  side-by-side (n ∷ ns) ms [] ks h g = let z : ⊥ = cc in absurd z
  side-by-side (n ∷ ns) ms (j ∷ js) ks h g =
      let m = and-both (is_node model t claim j n) (close model t claim (branches t j n ++ js) ns) h in
      let r = side-by-side ns ms (branches t j n ++ js) ks m.1 g in
      and-of (is_node model t claim j n) _ m.0
      (subst (λ cases. close model t claim cases (ns ++ ms) ≡ true) (append_assoc (branches t j n) js ks) r)

  pub record HasTrees (ks : List Known) : Type 0 where
    pub nodes : List Node
    pub closed : close model t claim ks nodes ≡ true

  abbrev pub EachHasOne : List Known → Type 0
  EachHasOne [] = Unit {0}
  EachHasOne (k ∷ ks) = HasTrees (k ∷ []) × EachHasOne ks

  all-have : (ks : List Known) → EachHasOne ks → HasTrees ks
  all-have [] e = record { nodes = []; closed = refl }
  all-have (k ∷ ks) e =
      let r = all-have ks e.1 in
      record { nodes = e.0.nodes ++ r.nodes; closed = side-by-side e.0.nodes r.nodes (k ∷ []) ks e.0.closed r.closed }

  pub has-tree : (k : Known) (n : Node) → is_node model t claim k n ≡ true → EachHasOne (branches t k n) → HasTrees (k ∷ [])
  has-tree k n h e =
      let r = all-have (branches t k n) e in
      record {
        nodes = n ∷ r.nodes;
        closed =
            and-of (is_node model t claim k n) _ h
            (subst (λ cases. close model t claim cases r.nodes ≡ true) (sym (append-nil (branches t k n))) r.closed);
      }
