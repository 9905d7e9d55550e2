-- The stack of branches: what is pushed comes first.
use Rattle.refutation_checker.proofs.Vocabulary.{◌≡◌, List, [], ◌∷◌, ◌++◌, refl, ap, ◌∙◌, map, facts_of, branches_of}
use Rattle.refutation_checker.proofs.Vocabulary.{◌<◌, ◌≤◌, ℕ, suc, arith, ◌+◌, ◌==◌, ◌&&◌, Bool, true, false, length, get_or, drop, sym}
use Rattle.refutation_checker.proofs.Vocabulary.{at_drop_more, at_drop_all, nat_tests, Litmus, Model, node_of}
use Rattle.possible_reads.specs.Facts as spec
use Rattle.lemma_refutations.specs.Refutations as refutations
use Rattle.lemma_refutations.specs.Refutations.{Lemma, is_node, known_from, answers, close, hold}
use Rattle.refutation_checker.specs.declared.tree.Lemma as code
use Rattle.refutation_checker.specs.Trees.{lemma_of}
use Rattle.std.proofs.Common.{take}
use Rattle.std.proofs.lemmas.List.{map_more}
use Rattle.refutation_checker.specs.declared.tree.Node.{Node}
use Rattle.std.specs.Prelude.{Vec}
use Rattle.std.specs.Global.{Global}
use Rattle.reading_tables.specs.declared.facts.Fact.{Fact}

pub branches-push : (old : List (Vec Fact Global)) (a : Vec Fact Global) → branches_of (old ++ (a ∷ [])) ≡ facts_of a.items ∷ branches_of old
branches-push [] a = refl
branches-push (b ∷ old) a = ap (λ ks. ks ++ (facts_of b.items ∷ [])) (branches-push old a)

-- one more branch
pub pushed : (before after : List (Vec Fact Global)) (a : Vec Fact Global)
    → after ≡ before ++ (a ∷ [])
    → branches_of after ≡ facts_of a.items ∷ branches_of before
pushed before after a e = ap branches_of e ∙ branches-push before a

-- what two lists give, before others
pub in_two_parts : {A B : Type 0} (f : A → B) (xs ys : List A) (old : List B) → map f (xs ++ ys) ++ old ≡ map f xs ++ (map f ys ++ old)
in_two_parts f [] ys old = refl
in_two_parts f (x ∷ xs) ys old = ap (λ zs. f x ∷ zs) (in_two_parts f xs ys old)

-- the facts in each branch of a node
abbrev pub below : Litmus → List spec.Fact → refutations.Node → List (List spec.Fact)
below t facts n = map (λ answer. answer ++ facts) (answers t (known_from t facts) n)

-- ---- the nodes, one by one

module _ (model : Model) (t : Litmus) (lemmas : List Lemma) (nodes : List Node) (i : ℕ) (s : Node) (within : i < length nodes) (is : s ≡ get_or nodes i s)
    (old new : List (Vec Fact Global)) (a : Vec Fact Global) (popped : old ≡ new ++ (a ∷ [])) (whole b : Bool)
    (judged : b ≡ is_node model t lemmas (known_from t (facts_of a.items)) (node_of s))
    (so : whole ≡ close model t lemmas (branches_of old) (map node_of (drop i nodes))) where
  next : whole
      ≡ (is_node model t lemmas (known_from t (facts_of a.items)) (node_of s)
      && close model t lemmas (below t (facts_of a.items) (node_of s) ++ branches_of new) (map node_of (drop (i + 1) nodes)))
  next =
      so
      ∙ (ap (λ ks. close model t lemmas ks (map node_of (drop i nodes))) (ap branches_of popped ∙ branches-push new a)
      ∙ (at_drop_more (λ ss. close model t lemmas (facts_of a.items ∷ branches_of new) (map node_of ss)) nodes i s within
      ∙ ap (λ x. is_node model t lemmas (known_from t (facts_of a.items)) (node_of x)
      && close model t lemmas (below t (facts_of a.items) (node_of x) ++ branches_of new) (map node_of (drop (i + 1) nodes))) (sym is)))

  pub wrong-node : b ≡ false → false ≡ whole
  wrong-node h =
      sym (next ∙ ap (λ x. x && close model t lemmas (below t (facts_of a.items) (node_of s) ++ branches_of new) (map node_of (drop (i + 1) nodes)))
      (sym judged ∙ h))

  pub right-node : b ≡ true → (newer : List (Vec Fact Global)) → branches_of newer ≡ below t (facts_of a.items) (node_of s) ++ branches_of new
      → whole ≡ close model t lemmas (branches_of newer) (map node_of (drop (i + 1) nodes))
  right-node h newer e =
      next
      ∙ (ap (λ x. x && close model t lemmas (below t (facts_of a.items) (node_of s) ++ branches_of new) (map node_of (drop (i + 1) nodes)))
      (sym judged ∙ h)
      ∙ ap (λ ks. close model t lemmas ks (map node_of (drop (i + 1) nodes))) (sym e))

-- no node is left
pub ended : (model : Model) (t : Litmus) (lemmas : List Lemma) (nodes : List Node) (i : ℕ)
    → length nodes ≤ i
    → (cases : List (Vec Fact Global)) (whole empty : Bool)
    → whole ≡ close model t lemmas (branches_of cases) (map node_of (drop i nodes)) → (n : ℕ) → n ≡ length cases → empty ≡ (n == 0) → empty ≡ whole
ended model t lemmas nodes i all cases whole empty so n size is =
    is ∙ (ap (λ m. m == 0) size ∙ go cases ∙ sym (so ∙ at_drop_all (λ ss. close model t lemmas (branches_of cases) (map node_of ss)) nodes i all))
  where
    more : (m : ℕ) → (suc m == 0) ≡ false
    more m = grind (arith, nat_tests)

    none : (ks : List (List spec.Fact)) (k : List spec.Fact) → false ≡ close model t lemmas (ks ++ (k ∷ [])) []
    none [] k = refl
    none (x ∷ ks) k = refl

    go : (cs : List (Vec Fact Global)) → (length cs == 0) ≡ close model t lemmas (branches_of cs) []
    go [] = refl
    go (c ∷ cs) = more (length cs) ∙ none (branches_of cs) (facts_of c.items)

-- ---- the lemmas, one by one

module _ (model : Model) (t : Litmus) (given : List spec.Fact) (lemmas : List code.Lemma) (i : ℕ) (s : code.Lemma) (within : i < length lemmas)
    (is : s ≡ get_or lemmas i s) (whole b : Bool)
    (judged : b ≡ close model t (map lemma_of (take i lemmas)) ((facts_of s.facts.items ++ given) ∷ []) (map node_of s.tree.items))
    (so : whole ≡ hold model t given (map lemma_of (take i lemmas)) (map lemma_of (drop i lemmas))) where
  after : whole ≡ (b && hold model t given (map lemma_of (take (i + 1) lemmas)) (map lemma_of (drop (i + 1) lemmas)))
  after =
      so
      ∙ (at_drop_more (λ ls. hold model t given (map lemma_of (take i lemmas)) (map lemma_of ls)) lemmas i s within
      ∙ (ap (λ x. hold model t given (map lemma_of (take i lemmas)) (lemma_of x ∷ map lemma_of (drop (i + 1) lemmas))) (sym is)
      ∙ (ap (λ x. x && hold model t given (map lemma_of (take i lemmas) ++ (lemma_of s ∷ [])) (map lemma_of (drop (i + 1) lemmas))) (sym judged)
      ∙ ap (λ shown. b && hold model t given shown (map lemma_of (drop (i + 1) lemmas)))
      (ap (λ x. map lemma_of (take i lemmas) ++ (lemma_of x ∷ [])) is ∙ sym (map_more lemma_of lemmas i s within)))))

  pub lemma-wrong : b ≡ false → false ≡ whole
  lemma-wrong h = sym (after ∙ ap (λ x. x && hold model t given (map lemma_of (take (i + 1) lemmas)) (map lemma_of (drop (i + 1) lemmas))) h)

  pub lemma-right : b ≡ true → whole ≡ hold model t given (map lemma_of (take (i + 1) lemmas)) (map lemma_of (drop (i + 1) lemmas))
  lemma-right h = after ∙ ap (λ x. x && hold model t given (map lemma_of (take (i + 1) lemmas)) (map lemma_of (drop (i + 1) lemmas))) h
