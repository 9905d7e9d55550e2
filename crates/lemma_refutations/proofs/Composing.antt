-- Trees are put together: a question whose branches all have a tree has one.
use Rattle.lemma_refutations.proofs.Vocabulary.{◌≡◌, true, List, [], ◌∷◌, ◌++◌, map, append-nil, append_assoc, refl, sym, subst, Litmus}
use Rattle.lemma_refutations.proofs.Vocabulary.{and-both, Model, Fact, Node, known_from, is_node, answers, close}
use Rattle.refutation_laws.proofs.Tests.{and-of}

module _ (model : Model) (t : Litmus) where
  -- the facts in each branch
  abbrev pub below : List Fact → Node → List (List Fact)
  below facts n = map (λ answer. answer ++ facts) (answers t (known_from t facts) n)

  -- trees for some cases, and trees for others after them, are trees for both
  pub side-by-side : (ns ms : List Node) (js ks : List (List Fact)) → close model t [] js ns ≡ true → close model t [] ks ms ≡ true
      → close model t [] (js ++ ks) (ns ++ ms) ≡ true
  side-by-side [] ms [] ks h g = g
  side-by-side [] ms (j ∷ js) ks h g = let z : ⊥ = cc in absurd z
  side-by-side (n ∷ ns) ms [] ks h g = let z : ⊥ = cc in absurd z
  side-by-side (n ∷ ns) ms (j ∷ js) ks h g =
      let m = and-both (is_node model t [] (known_from t j) n) (close model t [] (below j n ++ js) ns) h in
      let r = side-by-side ns ms (below j n ++ js) ks m.1 g in
      and-of (is_node model t [] (known_from t j) n) _ m.0
      (subst (λ cases. close model t [] cases (ns ++ ms) ≡ true) (append_assoc (below j n) js ks) r)

  pub record HasTrees (ks : List (List Fact)) : Type 0 where
    pub nodes : List Node
    pub closed : close model t [] ks nodes ≡ true

  abbrev pub EachHasOne : List (List Fact) → Type 0
  EachHasOne [] = Unit {0}
  EachHasOne (k ∷ ks) = HasTrees (k ∷ []) × EachHasOne ks

  all-have : (ks : List (List Fact)) → EachHasOne ks → HasTrees ks
  all-have [] e = record { nodes = []; closed = refl }
  all-have (k ∷ ks) e =
      let r = all-have ks e.1 in
      record { nodes = e.0.nodes ++ r.nodes; closed = side-by-side e.0.nodes r.nodes (k ∷ []) ks e.0.closed r.closed }

  pub has-tree : (facts : List Fact) (n : Node) → is_node model t [] (known_from t facts) n ≡ true → EachHasOne (below facts n) → HasTrees (facts ∷ [])
  has-tree facts n h e =
      let r = all-have (below facts n) e in
      record {
        nodes = n ∷ r.nodes;
        closed =
            and-of (is_node model t [] (known_from t facts) n) _ h
            (subst (λ cases. close model t [] cases r.nodes ≡ true) (sym (append-nil (below facts n))) r.closed);
      }
