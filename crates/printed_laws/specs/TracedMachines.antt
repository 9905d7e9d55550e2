-- What the JSON value of a machine tells, as it is in a trace before the first choice and after each step.
use Rattle.std.specs.Prelude.{ℕ, zero, suc, ◌+◌, ◌/◌, ◌≡◌, ◌<◌, List, [], ◌∷◌, map, length, take, All, Option}
use Rattle.std.specs.Fmt.{decimal}
use Rattle.std.specs.Option.{option_map}
use Rattle.printed_laws.specs.Vocabulary.{compact_text, Configuration, core_of, CoresExist, IsTest, IsWord, line_name, line_state, Litmus}
use Rattle.printed_laws.specs.Vocabulary.{names_in_line, ProtocolKind}
use Rattle.tso_terms.specs.Thread.{value_in}
use Rattle.basic_laws.specs.Types.{Choice, Reg}
use Rattle.protocol_tables.specs.Tables.{table_of}
use Rattle.protocol_tables.specs.declared.requests.Transient.{Transient}
use Rattle.snoop_bus.specs.declared.looking.CachedLine.{CachedLine}
use Rattle.machine_core.specs.Looking.{bus_holder_of}
use Rattle.machine_core.specs.Running.{Running, new_machine}
use Rattle.machine_core.specs.declared.looking.BusHolder.{BusHolder}
use Rattle.trace_report.specs.StepLaws.{after_choices}
use Rattle.trace_report.specs.declared.step.LineState.{LineState}
use Rattle.trace_report.specs.MachineJson.{words_per_line, cached_lines_in, words_in_line, words_on_bus, machine_json}
use Rattle.printed_laws.specs.Traces.{bare_store}

-- a copy of a line, as it is shown: the names of the line's locations, what it is in, and the words of these locations in digits
abbrev pub copy_shown : Running → ℕ → CachedLine → List ℕ × LineState × List (List ℕ)
copy_shown m core copy = (
  line_name m.test (words_per_line m) copy.line,
  line_state m core copy.line,
  map decimal (take (length (names_in_line m.test.locations (words_per_line m) copy.line)) copy.words),
)

-- the copies in a core's sets from this number on, so many, in each set the most recently used first
abbrev pub copies_shown : Running → ℕ → ℕ → ℕ → List (List (List ℕ × LineState × List (List ℕ)))
copies_shown m core set zero = []
copies_shown m core set (suc rest) = map (copy_shown m core) (cached_lines_in m core set) ∷ copies_shown m core (set + 1) rest

-- who holds the bus, as it is shown: its next choice, the names of its line, what that is in while its words are awaited, and the
-- words that the bus keeps then, in digits
abbrev pub holder_shown : Running → BusHolder → Choice × List ℕ × Option Transient × List (List ℕ)
holder_shown m h = (
  h.choice,
  line_name m.test (words_per_line m) (h.loc.0 / words_per_line m),
  h.transient,
  map decimal (words_on_bus h.transient (words_in_line (words_per_line m) m.state.flat.memory (h.loc.0 / words_per_line m))),
)

-- two machines of the test, whose memories have these words, show the same: who holds the bus; each core's place, registers, pending
-- stores, those by location and value, and copies; memory's own words; and the words that a program sees
pub record ShowTheSameMachine (t : Litmus) (m n : Running) (own other : List ℕ) : Type 0 where
  pub bus : option_map (holder_shown m) (bus_holder_of m) ≡ option_map (holder_shown n) (bus_holder_of n)
  pub places : (core : ℕ) → core < length t.programs → (core_of m.state.flat core).place ≡ (core_of n.state.flat core).place
  pub registers : (core : ℕ) → core < length t.programs → (reg : Reg)
      → value_in (core_of m.state.flat core).registers reg ≡ value_in (core_of n.state.flat core).registers reg
  pub buffers : (core : ℕ) → core < length t.programs
      → map bare_store (core_of m.state.flat core).pending ≡ map bare_store (core_of n.state.flat core).pending
  pub copies : (core : ℕ) → core < length t.programs
      → copies_shown m core 0 m.statistics.caches.shape.sets ≡ copies_shown n core 0 n.statistics.caches.shape.sets
  pub memory : own ≡ other
  pub seen : m.state.flat.memory ≡ n.state.flat.memory

-- words of memory for the test: one for each location
pub record AreWordsOf (t : Litmus) (words : List ℕ) : Type 0 where
  pub each : length words ≡ length t.locations
  pub words_are : All IsWord words

-- the machine that choices lead to
abbrev pub machine_under : Litmus → ProtocolKind → Configuration → List Choice → Running
machine_under t kind c choices = after_choices (new_machine (table_of kind) c t) choices

-- machines of the test, of whatever protocols and configurations, after whatever choices of its cores
abbrev pub MachinesAreTold : Type 0
MachinesAreTold =
    (t : Litmus) (kind other_kind : ProtocolKind) (c d : Configuration) (choices other : List Choice) (own other_own : List ℕ)
    → IsTest t → CoresExist (length t.programs) choices → CoresExist (length t.programs) other → AreWordsOf t own → AreWordsOf t other_own
    → compact_text (machine_json (machine_under t kind c choices) own) ≡ compact_text (machine_json (machine_under t other_kind d other) other_own)
    → ShowTheSameMachine t (machine_under t kind c choices) (machine_under t other_kind d other) own other_own
