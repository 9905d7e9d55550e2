-- Memory's own words as a trace tells them are those of the bus: along a run, each call of the bus leaves them so.
use Rattle.std.specs.Prelude.{ℕ, ◌≡◌, ◌<◌, false, List, length}
use Rattle.trace_report.specs.Vocabulary.{Configuration, ImD, is_dirty, IsD, IsTest, line_state, LineState, Litmus, M, machine_after}
use Rattle.trace_report.specs.Vocabulary.{new_machine, ProtocolKind, Running, SmD, State, table_of}
use Rattle.tso_terms.specs.declared.choice.Choice.{Choice}
use Rattle.snoop_bus.specs.Coherent.{state_of_copy}
use Rattle.cache_set.specs.Copies.{copy_at}
use Rattle.snoop_bus.specs.Bus.{BusModel, words_of, cores_of, counted_copies, IsSameMachine}
use Rattle.snoop_bus.specs.inner.Bus.{IsBus}
use Rattle.snoop_bus.specs.inner.Accesses.{memory_words_of}
use Rattle.multiprocessor.specs.Caches.{caches_of}
use Rattle.machine_core.specs.inner.Calls.{IsCalled}
use Rattle.trace_report.specs.StepLaws.{after_choices}
use Rattle.trace_report.specs.declared.step.LineState.TheVariants.{Stable, Transient}
use Rattle.trace_report.specs.OwnWords.{own_words}

-- what is told of a core's line is the state of the copy that counts there: while the words are awaited, the one that comes in
abbrev pub ShowsAs : LineState → State → Type 0
ShowsAs (Stable told) state = state ≡ told
ShowsAs (Transient IsD) state = is_dirty state ≡ false
ShowsAs (Transient ImD) state = state ≡ M
ShowsAs (Transient SmD) state = state ≡ M

-- the bus of a machine: what every bus keeps, its caches, the words that a program sees, and what is told of each line
pub record IsBusOf (b : BusModel) (m : Running) : Type 0 where
  pub sound : IsBus b.shape b.locations b.caches b.memory b.held
  pub caches : caches_of b ≡ m.statistics.caches
  pub words : words_of b ≡ m.state.flat.memory
  pub cores : cores_of b ≡ length m.test.programs
  pub lines : (core line : ℕ) → ShowsAs (line_state m core line) (state_of_copy (copy_at (counted_copies b) core line))

-- the words that a trace tells of memory after a choice, by those that the bus's memory had before it, are those that it has
-- then: whatever call the choice made, of each machine that choices of a test lead to
abbrev pub ToldMemoryIsTheBuses : Type 0
ToldMemoryIsTheBuses =
    (kind : ProtocolKind) (c : Configuration) (t : Litmus) (choices : List Choice) (choice : Choice) (old new : BusModel)
    → IsTest t → 0 < c.shape.words
    → IsBusOf old (after_choices (new_machine (table_of kind) c t) choices)
    → IsBusOf new (machine_after (after_choices (new_machine (table_of kind) c t) choices) choice)
    → IsSameMachine old new → IsCalled old new
    → own_words (machine_after (after_choices (new_machine (table_of kind) c t) choices) choice) (memory_words_of old) ≡ memory_words_of new
