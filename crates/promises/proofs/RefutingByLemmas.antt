-- A claim that no lemmas and tree refute: what makes it true.
use Rattle.promises.proofs.Vocabulary.{◌≡◌, true, List, length, ◌⊎◌, inl, inr, Litmus, Claim, truth_of, registers_in, CoresExist, run, Choice, Entry}
use Rattle.tso_terms.specs.FinalState.{final_registers, final_words}
use Rattle.tso_laws.specs.EndedRuns.{End}
use Rattle.relational_model.specs.Candidates.{Candidate, registers_left, words_left}
use Rattle.refutation_laws.specs.Models.{HasCandidate, HasExecution, HasRun, IsAllowedBy, IsExecutionOf, depth_of}
use Rattle.lemma_refutations.specs.Laws.{IsRefuted}
use Rattle.lemma_refutations.specs.Refutations.{Lemma, Node, refutes}
use Rattle.refutation_laws.specs.declared.model.Model.{Model}

refuted-by : (model : Model) (t : Litmus) (claim : Claim)
    → IsRefuted model t claim
    → ((lemmas : List Lemma) (tree : List Node) → refutes model t claim lemmas tree ≡ true → ⊥)
    → ⊥
refuted-by model t claim is none = none is.lemmas is.tree is.refuted

-- what is refuted or met is met, where nothing refutes it
met : {A B : Type 0} (model : Model) (t : Litmus) (claim : Claim) → ((lemmas : List Lemma) (tree : List Node) → refutes model t claim lemmas tree ≡ true → ⊥)
    → (A → B) → IsRefuted model t claim ⊎ A → B
met model t claim none f (inl is) = absurd (refuted-by model t claim is none)
met model t claim none f (inr a) = f a

pub candidate-of : (model : Model) (t : Litmus) (claim : Claim) → ((lemmas : List Lemma) (tree : List Node) → refutes model t claim lemmas tree ≡ true → ⊥)
    → IsRefuted model t claim ⊎ HasCandidate model t claim
    → (c : Candidate) × IsAllowedBy model t c × (truth_of (registers_left t c) (words_left t c) claim ≡ true)
candidate-of model t claim none = met model t claim none (parts model t claim)
  where
    parts : (model : Model) (t : Litmus) (claim : Claim) → HasCandidate model t claim
        → (c : Candidate) × IsAllowedBy model t c × (truth_of (registers_left t c) (words_left t c) claim ≡ true)
    parts model t claim has = (has.candidate, has.allowed, has.holds)

pub execution-of : (model : Model) (t : Litmus) (claim : Claim) → ((lemmas : List Lemma) (tree : List Node) → refutes model t claim lemmas tree ≡ true → ⊥)
    → IsRefuted model t claim ⊎ HasExecution model t claim
    → (order : List Entry) × IsExecutionOf model t order × (truth_of (final_registers t order) (final_words t order) claim ≡ true)
execution-of model t claim none = met model t claim none (parts model t claim)
  where
    parts : (model : Model) (t : Litmus) (claim : Claim) → HasExecution model t claim
        → (order : List Entry) × IsExecutionOf model t order × (truth_of (final_registers t order) (final_words t order) claim ≡ true)
    parts model t claim has = (has.order, has.execution, has.holds)

pub run-of : (model : Model) (t : Litmus) (claim : Claim) → ((lemmas : List Lemma) (tree : List Node) → refutes model t claim lemmas tree ≡ true → ⊥)
    → IsRefuted model t claim ⊎ HasRun model t claim
    → (choices : List Choice) × CoresExist (length t.programs) choices × End t (depth_of model) choices
    × (truth_of (registers_in (run t (depth_of model) choices).state) (run t (depth_of model) choices).state.memory claim ≡ true)
run-of model t claim none = met model t claim none (parts model t claim)
  where
    parts : (model : Model) (t : Litmus) (claim : Claim) → HasRun model t claim
        → (choices : List Choice) × CoresExist (length t.programs) choices × End t (depth_of model) choices
        × (truth_of (registers_in (run t (depth_of model) choices).state) (run t (depth_of model) choices).state.memory claim ≡ true)
    parts model t claim has = (has.choices, has.cores, has.ended, has.holds)
