-- What `trace` prints tells what each choice did: of one test, steps that are told alike are the same.
use Rattle.std.specs.Prelude.{ℕ, ◌≡◌, ◌<◌, ◌≤◌, Bool, true, List, ◌++◌, map, length, All, Option, None, IfSome}
use Rattle.std.specs.Option.{option_map}
use Rattle.json.specs.Tree.{depth, HasNumbers}
use Rattle.serde_json.specs.Data.{Data}
use Rattle.printed_laws.specs.Vocabulary.{AnswersFit, chosen, compact_text, Configuration, CoresExist, IsConfigurationWithinLimits}
use Rattle.printed_laws.specs.Vocabulary.{IsOrderFor, IsTest, IsWord, Litmus, most_choices, outline, ProtocolKind, run_under, trace_text}
use Rattle.printed_laws.specs.Vocabulary.{trace_under}
use Rattle.basic_laws.specs.Types.{Choice, Entry, W}
use Rattle.order_builder.specs.PrintedOrder.{HasWord}
use Rattle.trace_report.specs.Known.{StepNamesExist}
use Rattle.trace_report.specs.Shown.{ShownStep}
use Rattle.trace_report.specs.declared.step.Moved.{Moved}
use Rattle.trace_report.specs.declared.step.Moved.TheVariants.{One, Both}
use Rattle.trace_report.specs.StepJson.{step_json}
use Rattle.trace_report.specs.TraceJson.{trace_json}
use Rattle.trace_report.specs.declared.supplied.Source.{Source}
use Rattle.trace_report.specs.declared.supplied.Source.TheVariants.{Buffer, Cache, Other, Bus, Memory}
use Rattle.tso_cli.specs.Trace.{traced_in}
use Rattle.printed_laws.specs.OfRuns.{RunsLeaveTheSame}
use Rattle.printed_laws.specs.Telling.{NameTheSame}

-- ---- what is told of a step

-- of a pending store a line tells the location and the value, and nothing else
abbrev pub bare_store : Entry → Entry
bare_store e = record { core = record { 0 = 0 }; place = 0; kind = W; loc = e.loc; value = e.value }

-- what a step's line tells: all of the step, and of its pending stores that
abbrev pub told_by_line : ShownStep → ShownStep
told_by_line s = record {
  choice = s.choice;
  outcome = s.outcome;
  entries = s.entries;
  moved = s.moved;
  forwarded = s.forwarded;
  access = s.access;
  request = s.request;
  flushed = s.flushed;
  wrote_back = s.wrote_back;
  changes = s.changes;
  buffer = option_map (map bare_store) s.buffer;
}

-- what the members of its JSON object tell: all but its pending stores, which are in the machine after it
abbrev pub told_by_object : ShownStep → ShownStep
told_by_object s = record {
  choice = s.choice;
  outcome = s.outcome;
  entries = s.entries;
  moved = s.moved;
  forwarded = s.forwarded;
  access = s.access;
  request = s.request;
  flushed = s.flushed;
  wrote_back = s.wrote_back;
  changes = s.changes;
  buffer = None;
}

-- what registers were given are words
abbrev pub MovesWords : Moved → Type 0
MovesWords (One g) = IsWord g.value
MovesWords (Both g h) = IsWord g.value × IsWord h.value

-- a step of this test on caches whose lines have so many words: what it names is the test's, and its numbers are those of cores,
-- places and words
pub record TraceStepFits (t : Litmus) (words : ℕ) (s : ShownStep) : Type 0 where
  pub known : StepNamesExist t words s
  pub chosen_core : chosen s.choice < 256
  pub entries : IsOrderFor t s.entries
  pub moved : IfSome s.moved (λ m. MovesWords m)
  pub flushed : IfSome s.flushed (λ core. core.0 < 256)
  pub changes : All (λ c. c.core.0 < 256) s.changes
  pub buffer : IfSome s.buffer (All HasWord)

-- where a word is found: another core's number is a core's
abbrev pub SourceFits : Source → Type 0
SourceFits Buffer = Unit {0}
SourceFits Cache = Unit {0}
SourceFits (Other core) = core.0 < 256
SourceFits Bus = Unit {0}
SourceFits Memory = Unit {0}

-- a value that is read back from its text: its numbers are JSON's, and it nests no deeper than this
pub record IsReadable (levels : ℕ) (d : Data) : Type 0 where
  pub numbers : HasNumbers (outline d)
  pub depth : depth (outline d) ≤ levels

-- ---- of any steps

-- the text of a trace tells its steps, whatever is behind it: how many there are, and what each line tells
abbrev pub TracesTellTheirSteps : Type 0
TracesTellTheirSteps =
    (t : Litmus) (words : ℕ) (steps others : List ShownStep) (rest other_rest : List ℕ)
    → IsTest t → All (TraceStepFits t words) steps → All (TraceStepFits t words) others
    → trace_text t words steps ++ rest ≡ trace_text t words others ++ other_rest
    → (map told_by_line steps ≡ map told_by_line others) × (rest ≡ other_rest)

-- the object of a step tells the step, where the word was found that it read, and the value of the machine after it up to how numbers
-- are spelled
abbrev pub ObjectsTellTheirSteps : Type 0
ObjectsTellTheirSteps =
    (t : Litmus) (words : ℕ) (s other : ShownStep) (supplied other_supplied : Option Source) (after other_after : Data)
    → IsTest t → TraceStepFits t words s → TraceStepFits t words other → IfSome supplied SourceFits → IfSome other_supplied SourceFits
    → IsReadable 100 after → IsReadable 100 other_after
    → compact_text (step_json t words s supplied after) ≡ compact_text (step_json t words other other_supplied other_after)
    → (told_by_object s ≡ told_by_object other) × ((supplied ≡ other_supplied) × (outline after ≡ outline other_after))

-- ---- of runs

-- the JSON value of a trace tells its steps, also under another protocol and on another machine whose lines have as many words
abbrev pub TraceValuesTellTheirSteps : Type 0
TraceValuesTellTheirSteps =
    (t : Litmus) (kind other_kind : ProtocolKind) (c d : Configuration) (choices other : List Choice)
    → IsTest t → IsConfigurationWithinLimits c → IsConfigurationWithinLimits d → c.shape.words ≡ d.shape.words
    → CoresExist (length t.programs) choices → CoresExist (length t.programs) other
    → compact_text (trace_json t kind c choices) ≡ compact_text (trace_json t other_kind d other)
    → map told_by_object (trace_under t kind c choices) ≡ map told_by_object (trace_under t other_kind d other)

-- the steps of a trace of the test fit the test
abbrev pub TracedStepsFit : Type 0
TracedStepsFit =
    (t : Litmus) (kind : ProtocolKind) (c : Configuration) (choices : List Choice)
    → IsTest t → IsConfigurationWithinLimits c → CoresExist (length t.programs) choices
    → All (TraceStepFits t c.shape.words) (trace_under t kind c choices)

-- choices of the test's cores, no more than a text of choices may have, that caches answer as they may
pub record IsTraceable (t : Litmus) (kind : ProtocolKind) (c : Configuration) (choices : List Choice) : Type 0 where
  pub exist : CoresExist (length t.programs) choices
  pub few : length choices ≤ most_choices
  pub answers : AnswersFit t kind c choices

-- two runs left the same, by the same steps
pub record TakeTheSameSteps (t : Litmus) (kind : ProtocolKind) (c : Configuration) (choices other : List Choice) : Type 0 where
  pub run : RunsLeaveTheSame t kind c choices other
  pub steps : trace_under t kind c choices ≡ trace_under t kind c other

-- runs of which `trace` prints the same, under whatever choices
abbrev pub PrintedTracesAreTold : Bool → Type 0
PrintedTracesAreTold json =
    (t : Litmus) (kind : ProtocolKind) (c : Configuration) (choices other : List Choice)
    → IsTest t → IsConfigurationWithinLimits c → IsTraceable t kind c choices → IsTraceable t kind c other
    → traced_in json t kind c choices ≡ traced_in json t kind c other → TakeTheSameSteps t kind c choices other

-- also of other tests and on other machines: which test, protocol and configuration it was; as JSON of runs that ended, since the
-- object of a run that didn't end names none of them
abbrev pub PrintedTracesNameTheSame : Bool → Type 0
PrintedTracesNameTheSame json =
    (t u : Litmus) (kind other_kind : ProtocolKind) (c d : Configuration) (choices other : List Choice)
    → IsTest t → IsTest u → IsConfigurationWithinLimits c → IsConfigurationWithinLimits d
    → IsTraceable t kind c choices → IsTraceable u other_kind d other
    → (json ≡ true → ((run_under t kind c choices).ended ≡ true) × ((run_under u other_kind d other).ended ≡ true))
    → traced_in json t kind c choices ≡ traced_in json u other_kind d other → NameTheSame t u kind other_kind c d
