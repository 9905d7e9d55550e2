use Rattle.lemma_refutations.proofs.Naming.{has-first, first-holds}
use Rattle.lemma_refutations.proofs.refuted_claims.edges_have_names.Goals as goal

pub returns-clause-edge : goal.returns-clause-edge
returns-clause-edge c = λ t k relations x y h. has-first t k relations x y h

pub returns-clause-holds : goal.returns-clause-holds
returns-clause-holds c = λ t k relations x y r h. first-holds t k relations x y r h
