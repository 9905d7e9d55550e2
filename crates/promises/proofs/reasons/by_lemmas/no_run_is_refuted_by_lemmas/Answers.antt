use Rattle.promises.proofs.reasons.by_lemmas.no_run_is_refuted_by_lemmas.Goals as goal

pub returns-clause-tso : goal.returns-clause-tso
returns-clause-tso c = c.no_run_meets_what_is_refuted.ensures.tso

pub returns-clause-sequential : goal.returns-clause-sequential
returns-clause-sequential c = c.no_run_meets_what_is_refuted.ensures.sequential

pub returns-clause-ends : goal.returns-clause-ends
returns-clause-ends c = c.no_run_meets_what_is_refuted.ensures.ends

pub returns-clause-unbuffered_ends : goal.returns-clause-unbuffered_ends
returns-clause-unbuffered_ends c = c.no_run_meets_what_is_refuted.ensures.unbuffered_ends
