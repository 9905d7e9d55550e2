use Rattle.tso_laws.proofs.WellFormed.{well-formed}
use Rattle.tso_laws.proofs.Vocabulary.{zero, suc, [], arith, refl, inl, inr, rules, IsTest, sb, sb_choices, IsRound, sb_round}
use Rattle.tso_laws.proofs.SoFar.{test-locations}
use Rattle.tso_laws.proofs.Beginnings.{run-is-execution}
use Rattle.tso_laws.proofs.worked.premises_are_met.Goals as goal

is-round : IsRound 2 sb_round
is-round zero l = (inl refl, inr (inr (inl refl)))
is-round (suc zero) l = (inr (inl refl), inr (inr (inr (inl refl))))
is-round (suc (suc k)) l = absurd (omega arith)

is-test : IsTest sb
is-test = search rules

pub returns-clause-execution : goal.returns-clause-execution
returns-clause-execution c = (run-is-execution sb 4 sb_choices (test-locations sb (well-formed sb is-test)) refl).order

pub returns-clause-rounds : goal.returns-clause-rounds
returns-clause-rounds c = (sb_round, _, refl, is-round, (sb_round, _, refl, is-round, (sb_round, _, refl, is-round, (sb_round, [], refl, is-round, tt))))
