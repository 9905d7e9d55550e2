-- The trace of a run as a JSON value: the machine before the first choice, and a step for each choice that was used, with
-- the machine after it. (This project's profile.)
use Rattle.std.specs.Prelude.{ℕ, if◌then◌else◌, List, [], ◌∷◌, Option, codes}
use Rattle.trace_report.specs.Vocabulary.{array, Configuration, Data, items_of, Litmus, machine_after, member, new_machine, no_members}
use Rattle.trace_report.specs.Vocabulary.{object, ProtocolKind, Running, ShownStep, table_of, trace_step_of}
use Rattle.tso_terms.specs.Runs.{has_ended}
use Rattle.tso_terms.specs.declared.choice.Choice.{Choice}
use Rattle.trace_report.specs.OwnWords.{own_words}
use Rattle.trace_report.specs.MachineJson.{words_per_line, machine_json}
use Rattle.trace_report.specs.StepJson.{step_json}
use Rattle.trace_report.specs.Supplied.{supplied_by}
use Rattle.trace_report.specs.declared.supplied.Source.{Source}

-- what a choice did, and where the word is found that it read
pub record Sourced : Type 0 where
  pub step : ShownStep
  pub supplied : Option Source

abbrev pub sourced_by : Running → Choice → Sourced
sourced_by m choice = record { step = trace_step_of m choice; supplied = supplied_by m choice }

-- a step to this machine, whose memory has these words
abbrev pub step_to : Sourced → Running → List ℕ → Data
step_to s m memory = step_json m.test (words_per_line m) s.step s.supplied (machine_json m memory)

-- what each choice did that was used, up to the first moment at which the test had ended, from a machine whose memory has these words
abbrev pub steps_json : Running → List ℕ → List Choice → List Data
steps_json m memory [] = []
steps_json m memory (c ∷ cs) =
    if has_ended m.test m.state.flat
    then []
    else step_to (sourced_by m c) (machine_after m c) (own_words (machine_after m c) memory)
    ∷ steps_json (machine_after m c) (own_words (machine_after m c) memory) cs

-- the machine before the first choice, whose memory has the test's first words
abbrev pub start_json : Running → Data
start_json m = machine_json m m.test.words

-- the trace from a new machine on
abbrev pub trace_from : Running → List Choice → Data
trace_from m choices =
    object (member (codes "start") (start_json m)
    (member (codes "steps") (array (items_of (steps_json m m.test.words choices))) no_members))

-- the trace of a test's run under these choices, on a machine of this protocol and configuration
abbrev pub trace_json : Litmus → ProtocolKind → Configuration → List Choice → Data
trace_json t kind config choices = trace_from (new_machine (table_of kind) config t) choices

-- the last of these, or this one where there is none
abbrev pub last_or : Data → List Data → Data
last_or none [] = none
last_or none (d ∷ ds) = last_or d ds

-- a machine whose memory has these words, as the one before the first choice
abbrev pub alone : Running → List ℕ → Data
alone m memory = object (member (codes "start") (machine_json m memory) no_members)

-- the last step alone; where no choice was used, the machine before the first choice
abbrev pub last_from : Running → List Choice → Data
last_from m choices = last_or (alone m m.test.words) (steps_json m m.test.words choices)

abbrev pub last_step_json : Litmus → ProtocolKind → Configuration → List Choice → Data
last_step_json t kind config choices = last_from (new_machine (table_of kind) config t) choices
