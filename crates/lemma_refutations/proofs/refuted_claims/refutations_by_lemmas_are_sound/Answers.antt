use Rattle.refutation_laws.proofs.Vocabulary.{◌≡◌, ℕ, List, true, false, length, subst, Litmus, Claim, truth_of, NamesExist, IsTsoExecution}
use Rattle.refutation_laws.proofs.Vocabulary.{final_words, final_registers, Entry, Candidate, registers_left, words_left, IsCandidateOf}
use Rattle.refutation_laws.proofs.Vocabulary.{LeaveTheSame, IsAllowedBy, IsExecutionOf, IsFinalStateOf}
use Rattle.refutation_laws.specs.declared.model.Model.{Model}
use Rattle.refutation_laws.specs.declared.model.Model.TheVariants.{Tso, Sequential}
use Rattle.refutation_laws.proofs.Soundness.{as-tso}
use Rattle.lemma_refutations.proofs.Vocabulary.{◌∷◌, [], Bool, refl, ◌∙◌, and-both, given_by, Node, Lemma, hold, close, refutes}
use Rattle.lemma_refutations.proofs.Vocabulary.{TruthsAreThoseLeft, ClaimsGiveFacts}
use Rattle.lemma_refutations.proofs.Below.{Laws}
use Rattle.lemma_refutations.proofs.Soundness.{never-met}
use Rattle.lemma_refutations.proofs.refuted_claims.refutations_by_lemmas_are_sound.Goals as goal

of-the-order : (t : Litmus) (order : List Entry) (d : Candidate) (claim : Claim) → LeaveTheSame t order d
    → truth_of (registers_left t d) (words_left t d) claim ≡ false
    → truth_of (final_registers t order) (final_words t order) claim ≡ false
of-the-order t order d claim s h =
    subst (λ rs. truth_of rs (final_words t order) claim ≡ false) s.registers
    (subst (λ ws. truth_of (registers_left t d) ws claim ≡ false) s.memory h)

refuted-is-false : Laws → TruthsAreThoseLeft → ClaimsGiveFacts → (model : Model) (t : Litmus) (d : Candidate) → IsAllowedBy model t d → (claim : Claim)
    → NamesExist (length t.programs) (length t.words) claim → (lemmas : List Lemma) (nodes : List Node) → refutes model t claim lemmas nodes ≡ true
    → truth_of (registers_left t d) (words_left t d) claim ≡ false
refuted-is-false laws truths give model t d allowed claim names lemmas nodes h =
    go (truth_of (registers_left t d) (words_left t d) claim) refl
  where
    go : (b : Bool) → truth_of (registers_left t d) (words_left t d) claim ≡ b → truth_of (registers_left t d) (words_left t d) claim ≡ false
    go false q = q
    go true q =
        let m = and-both (hold model t (given_by t claim true) [] lemmas) (close model t lemmas (given_by t claim true ∷ []) nodes) h in
        absurd (never-met laws model t d allowed (given_by t claim true) lemmas nodes m.0 m.1
        (give t d claim true (as-tso model t d allowed).candidate (truths t d claim names ∙ q)))

pub returns-clause-candidates : goal.returns-clause-candidates
returns-clause-candidates c = λ model t claim lemmas nodes d names h allowed.
    refuted-is-false (record {
      possible = c.readings_are_possible.ensures;
      ordered = c.known_order_is_right.ensures;
      last = c.some_write_comes_last.ensures;
      words = c.last_words_are_possible.ensures;
      registers = c.last_registers_are_possible.ensures;
      cases = c.some_case_is_met.ensures;
      somebody = c.somebody_reads_the_initial_word.ensures;
      each = c.each_but_the_last_is_read.ensures;
    }) c.truths_are_those_left.ensures c.claims_give_facts.ensures model t d allowed claim names lemmas nodes h

-- a candidate of the execution, which the model allows
record IsAllowedOf (model : Model) (t : Litmus) (order : List Entry) : Type 0 where
  candidate : Candidate
  allowed : IsAllowedBy model t candidate
  state : LeaveTheSame t order candidate

pub returns-clause-executions : goal.returns-clause-executions
returns-clause-executions c = λ model t claim lemmas nodes order names h execution.
    let d = found model t order execution in
    of-the-order t order d.candidate claim d.state (returns-clause-candidates c model t claim lemmas nodes d.candidate names h d.allowed)
  where
    of-tso : (t : Litmus) (order : List Entry) → IsTsoExecution t order → (d : Candidate) × IsCandidateOf t order d × LeaveTheSame t order d
    of-tso t order e =
        let d = c.executions_have_candidates.ensures t order e in
        (d.0, d.1, c.candidates_of_executions_are_allowed.ensures.same_state t order d.0 e d.1)

    found : (model : Model) (t : Litmus) (order : List Entry) → IsExecutionOf model t order → IsAllowedOf model t order
    found Tso t order e =
        let d = of-tso t order e in
        record { candidate = d.0; allowed = c.candidates_of_executions_are_allowed.ensures.allowed t order d.0 e d.1; state = d.2 }
    found Sequential t order e =
        let d = of-tso t order e.execution in
        record {
          candidate = d.0;
          allowed = c.sequential_candidates_are_sequential_executions.ensures.sequential t order d.0 e d.1;
          state = d.2;
        }

of-the-state : (t : Litmus) (order : List Entry) (registers : List (List ℕ)) (memory : List ℕ) (claim : Claim)
    → final_registers t order ≡ registers → final_words t order ≡ memory
    → truth_of (final_registers t order) (final_words t order) claim ≡ false → truth_of registers memory claim ≡ false
of-the-state t order registers memory claim rs ws h =
    subst (λ ms. truth_of registers ms claim ≡ false) ws (subst (λ ns. truth_of ns (final_words t order) claim ≡ false) rs h)

pub returns-clause-states : goal.returns-clause-states
returns-clause-states c = λ model t claim lemmas nodes registers memory names h s. by model t claim lemmas nodes registers memory names h s
  where
    by : (model : Model) (t : Litmus) (claim : Claim) (lemmas : List Lemma) (nodes : List Node) (registers : List (List ℕ)) (memory : List ℕ)
        → NamesExist (length t.programs) (length t.words) claim → refutes model t claim lemmas nodes ≡ true
        → IsFinalStateOf model t registers memory → truth_of registers memory claim ≡ false
    by Tso t claim lemmas nodes registers memory names h s =
        of-the-state t s.order registers memory claim s.registers_are s.memory_is
        (returns-clause-executions c Tso t claim lemmas nodes s.order names h s.execution)
    by Sequential t claim lemmas nodes registers memory names h s =
        of-the-state t s.order registers memory claim s.registers_are s.memory_is
        (returns-clause-executions c Sequential t claim lemmas nodes s.order names h s.consistent)
