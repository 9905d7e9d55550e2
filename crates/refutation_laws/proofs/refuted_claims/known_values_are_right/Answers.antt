use Rattle.refutation_laws.proofs.Telling.{event-value, register-value, word-value}
use Rattle.refutation_laws.proofs.refuted_claims.known_values_are_right.Goals as goal

pub returns-clause-events : goal.returns-clause-events
returns-clause-events c = λ t d k x value candidate a i h. event-value t d candidate k a x i value h

pub returns-clause-registers : goal.returns-clause-registers
returns-clause-registers c = λ t d k core reg value candidate a l h. register-value t d candidate k a core reg value l h

pub returns-clause-words : goal.returns-clause-words
returns-clause-words c = λ t d k loc candidate a l. word-value t d candidate k a loc l
