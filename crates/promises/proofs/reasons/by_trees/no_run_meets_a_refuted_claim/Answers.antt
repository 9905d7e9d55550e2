use Rattle.promises.proofs.reasons.by_trees.no_run_meets_a_refuted_claim.Goals as goal

pub returns-clause-tso : goal.returns-clause-tso
returns-clause-tso c = c.no_run_makes_a_refuted_claim_true.ensures.tso

pub returns-clause-sequential : goal.returns-clause-sequential
returns-clause-sequential c = c.no_run_makes_a_refuted_claim_true.ensures.sequential

pub returns-clause-ends : goal.returns-clause-ends
returns-clause-ends c = c.no_run_makes_a_refuted_claim_true.ensures.ends

pub returns-clause-unbuffered_ends : goal.returns-clause-unbuffered_ends
returns-clause-unbuffered_ends c = c.no_run_makes_a_refuted_claim_true.ensures.unbuffered_ends
