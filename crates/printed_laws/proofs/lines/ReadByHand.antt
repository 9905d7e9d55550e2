-- What lines refute, read by hand, is refuted: the nodes that they name make lemmas and a tree.
use Rattle.printed_laws.proofs.Vocabulary.{◌≡◌, ℕ, ◌+◌, ◌⊎◌, inl, inr, zero, suc, true, List, [], ◌∷◌, ◌++◌, map, refl, sym, ap, subst, ◌∙◌}
use Rattle.printed_laws.proofs.Vocabulary.{Some, slice_get, append_assoc, append-nil, map-append, Litmus, Model}
use Rattle.relational_model.proofs.KindFacts.{and-both}
use Rattle.refutation_laws.proofs.Tests.{and-of}
use Rattle.possible_reads.specs.Facts.{Fact, given_by}
use Rattle.lemma_refutations.specs.Edges.{Knowledge}
use Rattle.lemma_refutations.specs.Refutations.{Node, ReadsFrom, ReadsValue, Asks, IsReadBy, ComesLast, HasCase, OnLocation, Globally}
use Rattle.lemma_refutations.specs.Refutations.{Between, FalseClaim, ByLemma, Lemma, answers, applies, close, hold, is_node, known_from}
use Rattle.search_report.specs.Lines.{Line, question_word}
use Rattle.printed_laws.specs.ByHand.{HasClosedCase, HasOpenCase, HaveCases, LinesRefuteInTurn, LinesRefuteWithin, RefutingLinesAreRefutations}

-- ---- of a lemma only its facts count

abbrev facts_in : List Lemma → List (List Fact)
facts_in lemmas = map (λ (l : Lemma). l.facts) lemmas

applies-too : (t : Litmus) (k : Knowledge) (xs ys : List Lemma) (i : ℕ)
    → facts_in xs ≡ facts_in ys
    → applies t k (slice_get xs i) ≡ applies t k (slice_get ys i)
applies-too t k [] [] i e = refl
applies-too t k [] (y ∷ ys) i e = absurd (let z : ⊥ = cc in z)
applies-too t k (x ∷ xs) [] i e = absurd (let z : ⊥ = cc in z)
applies-too t k (x ∷ xs) (y ∷ ys) zero e =
    let same : x.facts ≡ y.facts = cc in
    ap (λ (facts : List Fact). applies t k (Some (record { facts = facts; tree = [] }))) same
applies-too t k (x ∷ xs) (y ∷ ys) (suc i) e = applies-too t k xs ys i (let same : facts_in xs ≡ facts_in ys = cc in same)

stands-too : (model : Model) (t : Litmus) (k : Knowledge) (xs ys : List Lemma) (n : Node)
    → facts_in xs ≡ facts_in ys
    → is_node model t xs k n ≡ is_node model t ys k n
stands-too model t k xs ys (ByLemma i) e = applies-too t k xs ys i e
stands-too model t k xs ys (ReadsFrom r) e = refl
stands-too model t k xs ys (ReadsValue r) e = refl
stands-too model t k xs ys (Asks fact) e = refl
stands-too model t k xs ys (IsReadBy loc word) e = refl
stands-too model t k xs ys (ComesLast loc) e = refl
stands-too model t k xs ys (HasCase fact) e = refl
stands-too model t k xs ys (OnLocation cycle) e = refl
stands-too model t k xs ys (Globally cycle) e = refl
stands-too model t k xs ys (Between r v w) e = refl
stands-too model t k xs ys FalseClaim e = refl

-- ---- trees of the nodes

module _ (model : Model) (t : Litmus) (lemmas : List Lemma) where
  abbrev below : List Fact → Node → List (List Fact)
  below facts n = map (λ answer. answer ++ facts) (answers t (known_from t facts) n)

  side-by-side : (ns ms : List Node) (js ks : List (List Fact)) → close model t lemmas js ns ≡ true → close model t lemmas ks ms ≡ true
      → close model t lemmas (js ++ ks) (ns ++ ms) ≡ true
  side-by-side [] ms [] ks h g = g
  side-by-side [] ms (j ∷ js) ks h g = absurd (let z : ⊥ = cc in z)
  side-by-side (n ∷ ns) ms [] ks h g = absurd (let z : ⊥ = cc in z)
  side-by-side (n ∷ ns) ms (j ∷ js) ks h g =
      let m = and-both (is_node model t lemmas (known_from t j) n) (close model t lemmas (below j n ++ js) ns) h in
      let r = side-by-side ns ms (below j n ++ js) ks m.1 g in
      and-of (is_node model t lemmas (known_from t j) n) _ m.0
      (subst (λ cases. close model t lemmas cases (ns ++ ms) ≡ true) (append_assoc (below j n) js ks) r)

  -- a tree for these branches
  record HasTree (ks : List (List Fact)) : Type 0 where
    nodes : List Node
    closed : close model t lemmas ks nodes ≡ true

  with-node : (facts : List Fact) (n : Node) → is_node model t lemmas (known_from t facts) n ≡ true → HasTree (below facts n) → HasTree (facts ∷ [])
  with-node facts n h tree = record {
    nodes = n ∷ tree.nodes;
    closed = and-of (is_node model t lemmas (known_from t facts) n) _ h
        (subst (λ cases. close model t lemmas cases tree.nodes ≡ true) (sym (append-nil (below facts n))) tree.closed);
  }

  -- where others have the same facts
  module _ (shown : List Lemma) (same : facts_in shown ≡ facts_in lemmas) where
    of-a-leaf : (facts : List Fact) (n : Node)
        → is_node model t shown (known_from t facts) n ≡ true
        → answers t (known_from t facts) n ≡ []
        → HasTree (facts ∷ [])
    of-a-leaf facts n stands none =
        with-node facts n (sym (stands-too model t (known_from t facts) shown lemmas n same) ∙ stands)
        (subst (λ (all : List (List Fact)). HasTree (map (λ answer. answer ++ facts) all)) (sym none) (record { nodes = []; closed = refl }))

    each-has-tree : (P : List Fact → List Line → Type 0)
        → ((facts : List Fact) (lines : List Line) → P facts lines → HasTree (facts ∷ []))
        → (facts : List Fact) (question : List ℕ) (lines : List Line) (all : List (List Fact))
        → HaveCases P model t shown facts question lines all → HasTree (map (λ answer. answer ++ facts) all)
    each-has-tree P f facts question lines [] is = record { nodes = []; closed = refl }
    each-has-tree P f facts question lines (a ∷ all) is =
        let first = one is.0 in
        let rest = each-has-tree P f facts question lines all is.1 in
        record {
          nodes = first.nodes ++ rest.nodes;
          closed = side-by-side first.nodes rest.nodes ((a ++ facts) ∷ []) (map (λ answer. answer ++ facts) all) first.closed rest.closed;
        }
      where
        one : HasClosedCase model t shown facts question lines a ⊎ HasOpenCase P t facts question lines a → HasTree ((a ++ facts) ∷ [])
        one (inl has) = of-a-leaf (a ++ facts) has.closes.node has.closes.stands has.closes.unanswered
        one (inr has) = f (a ++ facts) has.part has.refute

    trees : (n : ℕ) (facts : List Fact) (lines : List Line) → LinesRefuteWithin model t shown n facts lines → HasTree (facts ∷ [])
    trees zero facts lines is = absurd is
    trees (suc n) facts lines (inl leaf) = of-a-leaf facts leaf.closes.node leaf.closes.stands leaf.closes.unanswered
    trees (suc n) facts lines (inr asked) =
        with-node facts asked.question (sym (stands-too model t (known_from t facts) shown lemmas asked.question same) ∙ asked.stands)
        (each-has-tree (LinesRefuteWithin model t shown n) (trees n) facts (question_word asked.question) lines
        (answers t (known_from t facts) asked.question) asked.cases)

-- ---- lemmas, and the tree below them

module _ (model : Model) (t : Litmus) (given : List Fact) where
  record HaveTrees (made : List Lemma) : Type 0 where
    more : List Lemma
    tree : List Node
    hold_all : hold model t given made more ≡ true
    closed : close model t (made ++ more) (given ∷ []) tree ≡ true

  all-made : (ls : List Lemma) (shown made : List Lemma) (number : ℕ) (lines : List Line)
      → facts_in shown ≡ facts_in made
      → LinesRefuteInTurn model t given shown number ls lines
      → HaveTrees made
  all-made [] shown made number lines same is =
      let last = trees model t made shown same is.0 given lines is.1 in
      record {
        more = [];
        tree = last.nodes;
        hold_all = refl;
        closed = subst (λ l. close model t l (given ∷ []) last.nodes ≡ true) (sym (append-nil made)) last.closed;
      }
  all-made (l ∷ ls) shown made number lines same is =
      let first = trees model t made shown same is.refute.0 (l.facts ++ given) is.part is.refute.1 in
      let own : Lemma = record { facts = l.facts; tree = first.nodes } in
      let alike : facts_in (shown ++ (l ∷ [])) ≡ facts_in (made ++ (own ∷ [])) =
      map-append (λ (x : Lemma). x.facts) shown (l ∷ []) ∙ ap (λ fs. fs ++ (l.facts ∷ [])) same ∙ sym (map-append (λ (x : Lemma). x.facts) made (own ∷ [])) in
      let rest = all-made ls (shown ++ (l ∷ [])) (made ++ (own ∷ [])) (number + 1) is.rest alike is.others in
      record {
        more = own ∷ rest.more;
        tree = rest.tree;
        hold_all = and-of (close model t made ((l.facts ++ given) ∷ []) first.nodes) _ first.closed rest.hold_all;
        closed = subst (λ k. close model t k (given ∷ []) rest.tree ≡ true) (append_assoc made (own ∷ []) rest.more) rest.closed;
      }

pub refuting-lines-are-refutations : RefutingLinesAreRefutations
refuting-lines-are-refutations model t claim lines is =
    let given = given_by t claim true in
    let made = all-made model t given is.lemmas [] [] 1 is.rest refl is.refute in
    record { lemmas = made.more; tree = made.tree; refuted = and-of (hold model t given [] made.more) _ made.hold_all made.closed }
