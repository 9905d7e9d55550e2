-- A refutation is right, and there is one wherever it could be.
use Rattle.std.specs.Prelude.{◌≡◌, true, List}
use Rattle.tso_terms.specs.Litmus.{Litmus}
use Rattle.tso_terms.specs.Condition.{Claim}
use Rattle.refutation_laws.specs.declared.model.Model.{Model}
use Rattle.lemma_refutations.specs.Refutations.{Node, Lemma, refutes}

pub record IsRefuted (model : Model) (t : Litmus) (claim : Claim) : Type 0 where
  pub lemmas : List Lemma
  pub tree : List Node
  pub refuted : refutes model t claim lemmas tree ≡ true
