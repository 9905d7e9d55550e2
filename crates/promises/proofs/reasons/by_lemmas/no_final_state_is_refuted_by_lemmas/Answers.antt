use Rattle.refutation_laws.specs.declared.model.Model.TheVariants.{Sequential, Tso}
use Rattle.promises.proofs.reasons.by_lemmas.no_final_state_is_refuted_by_lemmas.Goals as goal

pub returns-clause-tso : goal.returns-clause-tso
returns-clause-tso c = c.refutations_by_lemmas_are_sound.ensures.states Tso

pub returns-clause-sequential : goal.returns-clause-sequential
returns-clause-sequential c = c.refutations_by_lemmas_are_sound.ensures.states Sequential
