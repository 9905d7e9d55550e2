-- One step of the search, as the code takes it.
use Rattle.found_reasons.proofs.Vocabulary.{◌≡◌, false, List, ◌++◌, map, Some, None, sym, ap, subst, Litmus, Model, Known, is_answered}
use Rattle.found_reasons.proofs.Vocabulary.{IsFull, IsSound, Fact, Reading, readings, known_from, may_ask, true, answers_told, as_question}
use Rattle.found_reasons.proofs.Vocabulary.{as_node, IsBranch, HasNoLeaf, LeafIfAny, IsCaseStep, QuestionOrFull}
use Rattle.refutation_laws.specs.Refutations as full_node
use Rattle.refutations.specs.inner.Trees.{node_of}
use Rattle.refutations.specs.declared.tree.Node.{Node}
use Rattle.found_reasons.specs.declared.reason.Step.TheVariants.{Leaf, Question}
use Rattle.found_reasons.proofs.Narrowing.{question-has-answer}

module _ (model : Model) (t : Litmus) (facts : List Fact) (table : List Reading) (e : table ≡ readings t facts) where
  -- a question of a full case is the same one over facts
  told-question : (k : Known) (q : full_node.Node) → may_ask t q ≡ true → is_answered k q ≡ false
      → (may_ask t (as_question (as_node q)) ≡ true) × (is_answered k (as_question (as_node q)) ≡ false)
  told-question k (full_node.ReadsFrom r) m f = (m, f)
  told-question k (full_node.ComesFirst w v) m f = (m, f)
  told-question k (full_node.OnLocation c) m f = let z : ⊥ = cc in absurd z
  told-question k (full_node.Globally c) m f = let z : ⊥ = cc in absurd z
  told-question k (full_node.Between r v w) m f = let z : ⊥ = cc in absurd z
  told-question k full_node.FalseClaim m f = let z : ⊥ = cc in absurd z

  pub leaf-step : (n : Node) → LeafIfAny model t (record { facts = facts; readings = table }) (Some n) → IsCaseStep model t facts (Leaf n)
  leaf-step n h =
      let g = subst (λ (rs : List Reading). LeafIfAny model t (record { facts = facts; readings = rs }) (Some n)) e h in
      (g.0, ap (map (λ answer. answer ++ facts)) g.1)

  pub question-step : (known : Known) → known ≡ answers_told facts → (n : Node) → LeafIfAny model t (record { facts = facts; readings = table }) None
      → QuestionOrFull t known (Some n) → IsCaseStep model t facts (Question n)
  question-step known a n u q =
      let v : HasNoLeaf model t (known_from t facts) =
      subst (λ (rs : List Reading). HasNoLeaf model t (record { facts = facts; readings = rs })) e u in
      let m = told-question known (node_of n) q.0 q.1 in (
        m.0,
        (
          subst (λ (k : Known). is_answered k (as_question (as_node (node_of n))) ≡ false) a m.1,
          question-has-answer t facts (as_node (node_of n)) m.0 v.can_read,
        ),
      )

pub full : (t : Litmus) (facts : List Fact) → IsBranch t facts → (known : Known) → known ≡ answers_told facts → QuestionOrFull t known None → IsFull t known
full t facts b known a q = q (subst (IsSound t) (sym a) b.sound)
