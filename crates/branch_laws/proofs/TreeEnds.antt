-- Ends of runs over trees are outcomes by the axioms.
use Rattle.std.proofs.Common.{◌≡◌, ℕ, suc, List, [], true, ◌≤◌, length, slice_index_or, arith, ap, sym, ◌∙◌, refl, subst, ◌↔◌}
use Rattle.basic_laws.proofs.Cores.{all-done}
use Rattle.tso_terms.specs.Litmus.{Litmus, IsTest}
use Rattle.tso_terms.specs.Axioms.{IsTsoExecution}
use Rattle.tso_terms.specs.FinalState.{words_from}
use Rattle.tso_terms.specs.FlatMachine.{program_of, core_of, start}
use Rattle.tso_terms.specs.Runs.{has_ended, run}
use Rattle.tso_laws.specs.Choices.{state_after}
use Rattle.tso_laws.specs.WellFormed.{IsWellFormed}
use Rattle.tso_laws.proofs.WellFormed.{well-formed}
use Rattle.tso_laws.specs.Depth.{needed}
use Rattle.tso_laws.specs.EndedRuns.{End, IsExecution}
use Rattle.tso_laws.specs.Laws.{RunsReachExactlyTheExecutions}
use Rattle.tso_laws.specs.inner.Laws.{RunsStopWhereTheyEnd, WholeOrdersHaveEachEntryOnce}
use Rattle.basic_laws.specs.Types.{Entry, Choice}
use Rattle.branch_laws.specs.Branching.{Branching, values_from, straight, IsBranchExecution, IsBranchOutcome}
use Rattle.branch_laws.specs.TreeMachine.{tree_core, tree_after, tree_commits, tree_start, IsTreeReached, IsTreeEnd}
use Rattle.branch_laws.specs.Rounds.{EachPathIsTest, writes_in}
use Rattle.branch_laws.proofs.Splitting.{to-own}
use Rattle.branch_laws.proofs.States.{Rel, Level, tree-follows}
use Rattle.branch_laws.proofs.Ends.{own_test, start-rel, even-done}
use Rattle.branch_laws.proofs.Returning.{tree-runs-exactly}
use Rattle.branch_laws.proofs.InRounds.{paths-of-rounds}
use Rattle.branch_laws.proofs.Listed.{runs-listed}

abbrev pub Ended : Type 0
Ended = (t : Litmus) (depth : ℕ) (choices : List Choice) → IsWellFormed t → End t depth choices → IsExecution t (run t depth choices)

abbrev pub Greatest : Type 0
Greatest = (t : Litmus) (order : List Entry) → IsTest t → IsTsoExecution t order → needed order ≤ 32

-- the memory at the end of a run over trees is what its order leaves
pub memory-left : RunsStopWhereTheyEnd
    → Ended
    → (b : Branching) (m : ℕ) (order : List Entry) (outputs : List (List ℕ))
    → IsTest (straight b (values_from 0 b.trees order))
    → (h : IsTreeReached b (suc m) order outputs)
    → (tree_after (suc m) (tree_start b) h.choices).memory ≡ words_from 0 b.words order
memory-left stopping law b m order outputs test h =
    let t : Litmus = own_test b order in
    let n : ℕ = length b.trees in
    let r : Rel (Level t) n (tree_commits (suc m) (tree_start b) h.choices) (start t) (tree_start b) =
    subst (λ z. Rel (Level t) n z (start t) (tree_start b)) (sym h.commits) (start-rel b order) in
    let w = tree-follows t m n (start t) (tree_start b) h.choices h.exist r in
    let stops = stopping.stops t (suc m) w.choices in
    let ended : has_ended t (state_after t (suc m) (start t) w.choices) ≡ true = all-done t.programs (state_after t (suc m) (start t) w.choices).cores
    (λ k l.
    even-done k (program_of t k) (core_of (state_after t (suc m) (start t) w.choices) k)
    (tree_core (tree_after (suc m) (tree_start b) h.choices) k) (slice_index_or outputs k [])
    (w.rel.cores k (let z = w.rel.flat_size in omega arith)) (h.done k (let z = w.rel.flat_size in omega arith))) in
    let e = law t (suc m) w.choices (well-formed t test) (stops.ended ∙ ap (λ z. has_ended t z) stops.all_state ∙ ended) in
    sym w.rel.memory ∙ ap (λ z. z.memory) (sym stops.all_state) ∙ e.memory ∙ ap (λ z. words_from 0 b.words z) (stops.all_commits ∙ w.commits ∙ h.commits)

pub reach : RunsStopWhereTheyEnd
    → RunsReachExactlyTheExecutions
    → Greatest
    → (b : Branching) (order : List Entry) (outputs : List (List ℕ))
    → IsTest (straight b (values_from 0 b.trees order))
    → IsBranchExecution b order outputs → IsTreeReached b 32 order outputs
reach stopping law greatest b order outputs test h =
    (tree-runs-exactly stopping law b 32 order outputs (well-formed (straight b (values_from 0 b.trees order)) test) (omega arith)).1 (
      h,
      greatest (straight b (values_from 0 b.trees order)) order test (to-own b order outputs h).1,
    )

pub ends : RunsStopWhereTheyEnd
    → WholeOrdersHaveEachEntryOnce
    → RunsReachExactlyTheExecutions
    → Ended
    → Greatest
    → (b : Branching) (outputs : List (List ℕ)) (memory : List ℕ)
    → EachPathIsTest b
    → IsTreeEnd b 32 outputs memory ↔ IsBranchOutcome b outputs memory
ends stopping whole law ended greatest b outputs memory test = (
  λ h. (
      let order : List Entry = tree_commits 32 (tree_start b) h.choices in
      let r : IsTreeReached b 32 order outputs = record { choices = h.choices; exist = h.exist; commits = refl; count = h.count; done = h.done } in
      let own = test (length h.choices) (values_from 0 b.trees order) (runs-listed b 32 order outputs r) in
      record {
        order = order;
        execution = ((tree-runs-exactly stopping law b 32 order outputs (well-formed (straight b (values_from 0 b.trees order)) own) (omega arith)).0 r).0;
        memory_is = sym (memory-left stopping ended b 31 order outputs own r) ∙ h.memory_is;
      }
      ),
  λ h. (
      let own = test (writes_in h.order) (values_from 0 b.trees h.order) (paths-of-rounds whole b h.order outputs h.execution) in
      let r = reach stopping law greatest b h.order outputs own h.execution in
      record {
        choices = r.choices;
        exist = r.exist;
        count = r.count;
        done = r.done;
        memory_is = memory-left stopping ended b 31 h.order outputs own r ∙ h.memory_is;
      }
      ),
)
