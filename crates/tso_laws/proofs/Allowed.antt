-- The ends of runs are what TSO allows.
use Rattle.tso_laws.proofs.WellFormed.{well-formed}
use Rattle.tso_laws.proofs.EndsVocabulary.{◌≡◌, ◌<◌, ℕ, List, ap, sym, ◌∙◌, refl, most_depth, Litmus, IsTest, IsWellFormed, final_words, final_registers}
use Rattle.tso_laws.proofs.EndsVocabulary.{run, Choice, Entry, End, IsExecution, IsReached, RunsReachExactlyTheExecutions, IsEnd}
use Rattle.tso_laws.proofs.EndsVocabulary.{IsAllowedAtDepth, IsAllowedByTso, IsAllowedSequentially}
use Rattle.tso_laws.proofs.EndsVocabulary.{UnbufferedRunsReachExactlyTheSequentiallyConsistent, EndsAreWhatTsoAllows}

module _ (exactly : RunsReachExactlyTheExecutions) (sequential : UnbufferedRunsReachExactlyTheSequentiallyConsistent)
    (ended : (t : Litmus) (depth : ℕ) (choices : List Choice) → IsWellFormed t → End t depth choices → IsExecution t (run t depth choices)) where
  reached : (t : Litmus) (d : ℕ) (r : List (List ℕ)) (m : List ℕ) (h : IsEnd t d r m) → IsReached t d (run t d h.choices).commits
  reached t d r m h = record { choices = h.choices; cores = h.cores; ended = h.ended; commits = refl }

  -- an order that runs end with leaves its final state
  end-of : (t : Litmus) (d : ℕ) (order : List Entry) → IsWellFormed t → IsReached t d order → IsEnd t d (final_registers t order) (final_words t order)
  end-of t d order test h =
      let x = ended t d h.choices test h.ended in
      record {
        choices = h.choices;
        cores = h.cores;
        ended = h.ended;
        registers_are = x.registers ∙ ap (final_registers t) h.commits;
        memory_is = x.memory ∙ ap (final_words t) h.commits;
      }

  is-end : (t : Litmus) (d : ℕ) (r s : List (List ℕ)) (m n : List ℕ) → r ≡ s → m ≡ n → IsEnd t d r m → IsEnd t d s n
  is-end t d r s m n p q h = record { choices = h.choices; cores = h.cores; ended = h.ended; registers_are = h.registers_are ∙ p; memory_is = h.memory_is ∙ q }

  to-allowed : (t : Litmus) (d : ℕ) (r : List (List ℕ)) (m : List ℕ) → IsWellFormed t → 0 < d → IsEnd t d r m → IsAllowedAtDepth t d r m
  to-allowed t d r m test p h =
      let x = ended t d h.choices test h.ended in
      let e = (exactly.by_depth t d (run t d h.choices).commits test p).0 (reached t d r m h) in
      record {
        order = (run t d h.choices).commits;
        execution = e.0;
        depth_needed = e.1;
        registers_are = sym x.registers ∙ h.registers_are;
        memory_is = sym x.memory ∙ h.memory_is;
      }

  from-allowed : (t : Litmus) (d : ℕ) (r : List (List ℕ)) (m : List ℕ) → IsWellFormed t → 0 < d → IsAllowedAtDepth t d r m → IsEnd t d r m
  from-allowed t d r m test p h =
      is-end t d _ r _ m h.registers_are h.memory_is (end-of t d h.order test ((exactly.by_depth t d h.order test p).1 (h.execution, h.depth_needed)))

  to-tso : (t : Litmus) (r : List (List ℕ)) (m : List ℕ) → IsTest t → IsEnd t most_depth r m → IsAllowedByTso t r m
  to-tso t r m test h =
      let x = ended t most_depth h.choices (well-formed t test) h.ended in
      let e = (exactly.at_the_greatest t (run t most_depth h.choices).commits test).0 (reached t most_depth r m h) in
      record {
        order = (run t most_depth h.choices).commits;
        execution = e;
        registers_are = sym x.registers ∙ h.registers_are;
        memory_is = sym x.memory ∙ h.memory_is;
      }

  from-tso : (t : Litmus) (r : List (List ℕ)) (m : List ℕ) → IsTest t → IsAllowedByTso t r m → IsEnd t most_depth r m
  from-tso t r m test h =
      is-end t most_depth _ r _ m h.registers_are h.memory_is
      (end-of t most_depth h.order (well-formed t test) ((exactly.at_the_greatest t h.order test).1 h.execution))

  to-sequential : (t : Litmus) (r : List (List ℕ)) (m : List ℕ) → IsWellFormed t → IsEnd t 0 r m → IsAllowedSequentially t r m
  to-sequential t r m test h =
      let x = ended t 0 h.choices test h.ended in
      let e = (sequential t (run t 0 h.choices).commits test).0 (reached t 0 r m h) in
      record { order = (run t 0 h.choices).commits; consistent = e; registers_are = sym x.registers ∙ h.registers_are; memory_is = sym x.memory ∙ h.memory_is }

  from-sequential : (t : Litmus) (r : List (List ℕ)) (m : List ℕ) → IsWellFormed t → IsAllowedSequentially t r m → IsEnd t 0 r m
  from-sequential t r m test h =
      is-end t 0 _ r _ m h.registers_are h.memory_is (end-of t 0 h.order test ((sequential t h.order test).1 h.consistent))

  pub ends-allowed : EndsAreWhatTsoAllows
  ends-allowed = record {
    by_depth = λ t d r m test p. (to-allowed t d r m test p, from-allowed t d r m test p);
    at_the_greatest = λ t r m test. (to-tso t r m test, from-tso t r m test);
    unbuffered = λ t r m test. (to-sequential t r m test, from-sequential t r m test);
  }
