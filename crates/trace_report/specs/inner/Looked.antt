-- A machine that is shown: it has a word for each location that its test names.
use Rattle.std.specs.Prelude.{ℕ, ◌≡◌, length, List, Option, Some, None, codes}
use Rattle.trace_report.specs.Vocabulary.{Configuration, configuration_of, Data, Litmus, member, no_members, object, Running, shown_step}
use Rattle.trace_report.specs.TraceJson.{Sourced, alone, step_to}
use Rattle.trace_report.specs.declared.step.Step.{Step}

-- the machine runs this test, is configured so, and has a word for each location
pub record IsMachineOfTest (t : Litmus) (c : Configuration) (m : Running) : Type 0 where
  pub test : m.test ≡ t
  pub config : configuration_of m ≡ c
  pub each : length m.state.flat.memory ≡ length t.locations

-- the machine has a word for each location of the test, and so has its memory, which has these
pub record HasMemory (t : Litmus) (m : Running) (own : List ℕ) : Type 0 where
  pub each : length m.state.flat.memory ≡ length t.locations
  pub own_each : length own ≡ length t.locations

-- a trace from its parts: the machine before the first choice, and the steps
abbrev pub trace_with : Data → Data → Data
trace_with start steps = object (member (codes "start") start (member (codes "steps") steps no_members))

-- what is told last of a machine whose memory has these words: the step to it, or where there is none the machine
abbrev pub told_last : Option Sourced → Running → List ℕ → Data
told_last None m memory = alone m memory
told_last (Some s) m memory = step_to s m memory

-- what is told of a choice
abbrev pub sourced : Step → Sourced
sourced s = record { step = shown_step s; supplied = s.supplied }
