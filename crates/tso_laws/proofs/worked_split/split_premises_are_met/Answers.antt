use Rattle.tso_laws.proofs.WellFormed.{well-formed}
use Rattle.tso_laws.proofs.BusVocabulary.{zero, suc, [], arith, refl, inl, inr, rules, IsTest, start, unheld, HitsFit, choices_in, Split}
use Rattle.tso_laws.proofs.BusVocabulary.{IsRound, added_and_loaded_elsewhere, load_between, one_round}
use Rattle.tso_laws.proofs.worked_split.split_premises_are_met.Goals as goal

is-test : IsTest added_and_loaded_elsewhere
is-test = search rules

fits : HitsFit Split added_and_loaded_elsewhere 4 (unheld (start added_and_loaded_elsewhere)) load_between
fits = (tt, (tt, (tt, (tt, (λ l q h n z. let y : ⊥ = cc in y, (λ l q h n z. let y : ⊥ = cc in y, tt))))))

is-round : IsRound 1 (choices_in one_round)
is-round zero l = (inr (inl refl), inl refl)
is-round (suc k) l = absurd (omega arith)

pub returns-clause-fit : goal.returns-clause-fit
returns-clause-fit c = fits

pub returns-clause-execution : goal.returns-clause-execution
returns-clause-execution c =
    (c.ended_runs_on_either_bus_are_executions.ensures Split added_and_loaded_elsewhere 4 load_between
    (well-formed added_and_loaded_elsewhere is-test) fits refl).order

pub returns-clause-rounds : goal.returns-clause-rounds
returns-clause-rounds c = (choices_in one_round, _, refl, is-round, (choices_in one_round, _, refl, is-round, (choices_in one_round, [], refl, is-round, tt)))
