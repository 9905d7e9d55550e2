-- What holds of the commits and the state after any list of choices, whether the test has ended or not: the invariant from
-- which it follows that an ended run is a TSO execution. (Primer, chapter 4; x86-TSO, section 3.)
use Rattle.std.specs.Prelude.{ℕ, ◌<◌, ◌≤◌, ◌≡◌, ◌&&◌, ◌||◌, not, Bool, true, false, List, [], ◌∷◌, ◌++◌, filter, length, take, slice_index_or, All}
use Rattle.tso_terms.specs.Litmus.{Litmus}
use Rattle.tso_terms.specs.ProgramOrder.{is_read, is_store}
use Rattle.tso_terms.specs.ProgramEntries.{is_at, made_by}
use Rattle.tso_terms.specs.Axioms.{KeepsProgramOrder, IsAdjacent, due_value}
use Rattle.tso_terms.specs.Standing.{StandsIn}
use Rattle.tso_terms.specs.FinalState.{final_words, registers_of}
use Rattle.tso_terms.specs.FlatMachine.{CoreState, State, program_of, core_of}
use Rattle.tso_terms.specs.declared.execution.Entry.{Entry}
use Rattle.tso_laws.specs.Entries.{FitsTest}

-- the entries that a core has issued when it is at this place: those of its program up to there, with the
-- commits' own read values
abbrev pub issued : Litmus → ℕ → ℕ → List Entry → List Entry
issued t core place commits = made_by core (take place (program_of t core)) (slice_index_or t.registers core []) commits

-- the registers of a core that is at this place, with the same read values
abbrev pub registers_at : Litmus → ℕ → ℕ → List Entry → List ℕ
registers_at t core place commits = registers_of core (take place (program_of t core)) (slice_index_or t.registers core []) commits

-- whether an entry of this core, place and kind is among the commits
abbrev pub is_committed : List Entry → Entry → Bool
is_committed [] e = false
is_committed (c ∷ cs) e = is_at e.core.0 e.place e.kind c || is_committed cs e

-- a plain store that isn't committed yet
abbrev pub is_waiting : List Entry → Entry → Bool
is_waiting commits e = is_store e && not (is_committed commits e)

-- of one core: it is within its program; what is pending are its issued and uncommitted plain stores, in
-- program order, no more than the buffer holds, and commits with these after them keep program order; all else that
-- it has issued is committed; its registers are its thread's so far
pub record CoreSoFar (t : Litmus) (depth : ℕ) (commits : List Entry) (core : ℕ) (s : CoreState) : Type 0 where
  pub place : s.place ≤ length (program_of t core)
  pub pending : s.pending ≡ filter (is_waiting commits) (issued t core s.place commits)
  pub room : length s.pending ≤ depth
  pub order : KeepsProgramOrder (commits ++ s.pending)
  pub locations : All (λ e. e.loc.0 < length t.words) s.pending
  pub others : (e : Entry) → StandsIn (issued t core s.place commits) e → is_waiting commits e ≡ false → StandsIn commits e
  pub registers : s.registers ≡ registers_at t core s.place commits

-- of one commit: it is an entry of the test, and its core has issued it
pub record IsIssued (t : Litmus) (commits : List Entry) (state : State) (e : Entry) : Type 0 where
  pub fits : FitsTest t e
  pub entry : StandsIn (issued t e.core.0 (core_of state e.core.0).place commits) e

-- each committed read has the value of the last of the writes that count: those before it in the commits, and those
-- before it in its program, which may be committed after it or still be pending
abbrev pub HasReadValuesSoFar : Litmus → List Entry → State → Type 0
HasReadValuesSoFar t commits state =
    (front : List Entry) (x : Entry) (back : List Entry) → commits ≡ front ++ (x ∷ back) → is_read x ≡ true
    → x.value ≡ due_value t x front (back ++ (core_of state x.core.0).pending)

-- of the whole machine: the commits meet the axioms as far as they go, and memory has the last write to each location
-- among them, else its first word
pub record SoFar (t : Litmus) (depth : ℕ) (commits : List Entry) (state : State) : Type 0 where
  pub each_issued : (e : Entry) → StandsIn commits e → IsIssued t commits state e
  pub program_order : KeepsProgramOrder commits
  pub adjacent : IsAdjacent commits
  pub read_values : HasReadValuesSoFar t commits state
  pub memory : state.memory ≡ final_words t commits
  pub size : length state.cores ≡ length t.programs
  pub cores : (k : ℕ) → k < length t.programs → CoreSoFar t depth commits k (core_of state k)
