use Rattle.refutation_laws.specs.declared.model.Model.TheVariants.{Sequential, Tso}
use Rattle.promises.proofs.reasons.by_trees.no_final_state_meets_a_refuted_claim.Goals as goal

pub returns-clause-tso : goal.returns-clause-tso
returns-clause-tso c = c.refuted_claims_are_false.ensures.states Tso

pub returns-clause-sequential : goal.returns-clause-sequential
returns-clause-sequential c = c.refuted_claims_are_false.ensures.states Sequential
