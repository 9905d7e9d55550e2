use Rattle.refutation_laws.proofs.Vocabulary.{◌≡◌, true, sym, subst, ◌⊎◌, inl, inr, most_depth, Litmus, IsTest, Claim, truth_of}
use Rattle.refutation_laws.proofs.Vocabulary.{final_words, run, registers_left, HasCandidate, HasExecution, HasRun}
use Rattle.refutation_laws.specs.declared.model.Model.{Model}
use Rattle.refutation_laws.specs.declared.model.Model.TheVariants.{Tso, Sequential}
use Rattle.refutation_laws.proofs.Completeness.{six-of}
use Rattle.lemma_refutations.proofs.Completeness.{refuted-or-candidate}
use Rattle.lemma_refutations.proofs.refuted_claims.refutations_by_lemmas_are_complete.Goals as goal

further : {A B C : Type 0} → (B → C) → A ⊎ B → A ⊎ C
further f (inl a) = inl a
further f (inr b) = inr (f b)

pub returns-clause-candidates : goal.returns-clause-candidates
returns-clause-candidates c = λ model t claim test names. refuted-or-candidate c.last_words_are_possible.ensures model t claim names (six-of t test)

pub returns-clause-executions : goal.returns-clause-executions
returns-clause-executions c = λ model t claim test names.
    further (λ m. by model t claim m) (refuted-or-candidate c.last_words_are_possible.ensures model t claim names (six-of t test))
  where
    by : (model : Model) (t : Litmus) (claim : Claim) → HasCandidate model t claim → HasExecution model t claim
    by Tso t claim m =
        let o = c.allowed_candidates_are_executions.ensures t m.candidate m.allowed in
        record {
          order = o.order;
          execution = o.execution;
          holds =
              subst (λ rs. truth_of rs (final_words t o.order) claim ≡ true) o.state.registers
              (subst (λ ws. truth_of (registers_left t m.candidate) ws claim ≡ true) o.state.memory m.holds);
        }
    by Sequential t claim m =
        let o = c.sequential_candidates_are_sequential_executions.ensures.executions t m.candidate m.allowed in
        record {
          order = o.order;
          execution = o.consistent;
          holds =
              subst (λ rs. truth_of rs (final_words t o.order) claim ≡ true) o.state.registers
              (subst (λ ws. truth_of (registers_left t m.candidate) ws claim ≡ true) o.state.memory m.holds);
        }

pub returns-clause-runs : goal.returns-clause-runs
returns-clause-runs c = λ model t claim test names.
    further (λ m. by model t claim test m) (refuted-or-candidate c.last_words_are_possible.ensures model t claim names (six-of t test))
  where
    by : (model : Model) (t : Litmus) (claim : Claim) → IsTest t → HasCandidate model t claim → HasRun model t claim
    by Tso t claim test m =
        let r = c.runs_have_exactly_the_allowed_candidates.ensures.reached t m.candidate test m.allowed in
        record {
          choices = r.0;
          cores = r.1;
          ended = r.2;
          holds =
              subst (λ rs. truth_of rs (run t most_depth r.0).state.memory claim ≡ true) (sym r.3.registers)
              (subst (λ ws. truth_of (registers_left t m.candidate) ws claim ≡ true) (sym r.3.memory) m.holds);
        }
    by Sequential t claim test m =
        let r = c.unbuffered_runs_have_exactly_the_sequential_candidates.ensures.reached t m.candidate test m.allowed in
        record {
          choices = r.0;
          cores = r.1;
          ended = r.2;
          holds =
              subst (λ rs. truth_of rs (run t 0 r.0).state.memory claim ≡ true) (sym r.3.registers)
              (subst (λ ws. truth_of (registers_left t m.candidate) ws claim ≡ true) (sym r.3.memory) m.holds);
        }
