-- A run is a run of all choices of a beginning of the list.
use Rattle.tso_laws.proofs.Vocabulary.{◌≡◌, ◌≤◌, ◌<◌, ℕ, ◌+◌, List, [], ◌∷◌, ◌++◌, true, length, take, arith, ap, sym, ◌∙◌, refl, subst}
use Rattle.tso_laws.proofs.Vocabulary.{◌==◌, slice_get_within, get_or_from_slice_get, Litmus, KeepsAllOrder, and-right, Instr, Choice}
use Rattle.tso_laws.proofs.Vocabulary.{is_none_pending, core_of, CoreState, State, idle, program_of, effect_of, after_choice, start, needed}
use Rattle.tso_laws.proofs.Vocabulary.{IsExecution, state_after, commits_of, is_done, has_ended, Run, run, run_from, cases_Bool, inl, inr}
use Rattle.tso_laws.proofs.Vocabulary.{done-at}
use Rattle.tso_laws.proofs.Folds.{needed-is, HasEnded, HasLocations}
use Rattle.tso_laws.proofs.MachineInvariant.{MachineInvariant, world-run, world-start}
use Rattle.tso_laws.proofs.Final.{ended_is_tso, ended_has_registers, memory-list, keeps_all, world-needs}
use Rattle.tso_laws.proofs.Work.{run-ended, is_none-is, done-length}

pub record Begins (t : Litmus) (d : ℕ) (state : State) (cs : List Choice) (r : Run) : Type 0 where
  pub now : r.state ≡ state_after t d state (take r.used cs)
  pub commits : r.commits ≡ commits_of t d state (take r.used cs)
  pub count : r.used + r.unused ≡ length cs

pub run-begins : (t : Litmus) (d : ℕ) (state : State) (cs : List Choice) → Begins t d state cs (run_from t d state cs)
run-begins t d state [] = record { now = refl; commits = refl; count = refl }
run-begins t d state (c ∷ cs) = let h = run-begins t d (after_choice t d state c) cs in elim (cases_Bool (has_ended t state)) [
  | inl is ↦ rw is (record { now = refl; commits = refl; count = omega arith })
  | inr is ↦ rw is (record { now = h.now; commits = ap (λ z. (effect_of t d state c).commits ++ z) h.commits; count = let n = h.count in omega arith })
]

has-ended : (t : Litmus) (state : State) → has_ended t state ≡ true → HasEnded t state
has-ended t state h = record {
  each = λ k s e.
      let l = slice_get_within state.cores k s e in
      let q : core_of state k ≡ s = get_or_from_slice_get state.cores k s idle e in
      let f : is_done (program_of t k) s ≡ true = subst (λ z. is_done (program_of t k) z ≡ true) q (done-at t.programs state.cores k h l) in
      (done-length (program_of t k) s f, pending (program_of t k) s f);
}
  where
    pending : (p : List Instr) (s : CoreState) → is_done p s ≡ true → s.pending ≡ []
    pending p s f = is_none-is s.pending (and-right (length p == s.place) (is_none_pending s.pending) f)

-- the world at the end of a run
pub record AtEnd (t : Litmus) (d : ℕ) (r : Run) : Type 0 where
  pub world : MachineInvariant d t r.commits r.state
  pub ended : HasEnded t r.state

pub run-world : (t : Litmus) (d : ℕ) (cs : List Choice) → HasLocations t → MachineInvariant d t (run t d cs).commits (run t d cs).state
run-world t d cs known =
    let b = run-begins t d (start t) cs in
    rw (b.commits, b.now) (world-run t d [] (start t) (take (run t d cs).used cs) known (world-start d t))

pub run-is-execution : (t : Litmus) (d : ℕ) (cs : List Choice) → HasLocations t → (run t d cs).ended ≡ true → IsExecution t (run t d cs)
run-is-execution t d cs known e =
    let a : AtEnd t d (run t d cs) = record { world = run-world t d cs known; ended = has-ended t (run t d cs).state (sym (run-ended t d (start t) cs) ∙ e) } in
    record {
      order = ended_is_tso d t (run t d cs).commits (run t d cs).state a.world a.ended;
      memory = memory-list t.words (run t d cs).state.memory (run t d cs).commits a.world.room a.world.memory;
      registers = ended_has_registers d t (run t d cs).commits (run t d cs).state a.world a.ended;
    }

pub run-keeps-all : (t : Litmus) (cs : List Choice) → HasLocations t → KeepsAllOrder (run t 0 cs).commits
run-keeps-all t cs known = keeps_all t (run t 0 cs).commits (run t 0 cs).state (run-world t 0 cs known)

pub run-needs : (t : Litmus) (d : ℕ) (cs : List Choice) → 0 < d → HasLocations t → needed (run t d cs).commits ≤ d
run-needs t d cs p known = rw (needed-is (run t d cs).commits) (world-needs d t (run t d cs).commits (run t d cs).state p (run-world t d cs known))
