-- The headline: what each command prints of every input; every text that spells no test is refused with its line.
use Rattle.std.specs.Prelude.{ℕ, ◌<◌, ◌≤◌, ◌≡◌, List, length, Option, IfSome}
use Rattle.tso_cli.specs.Vocabulary.{Litmus, longest_input, printed_table, protocol_name, ProtocolKind, Settings, table_of, TextFault}
use Rattle.litmus_reader.specs.Spelling.{SpellsTest, IsRefused as IsRefusedTest}
use Rattle.command_line.specs.Instructions.{instructions_of}
use Rattle.command_line.specs.declared.settings.Settings.TheVariants as settings
use Rattle.tso_cli.specs.RunHeadline.{HeadlineOfRuns}
use Rattle.tso_cli.specs.TraceHeadline.{HeadlineOfTraces}
use Rattle.tso_cli.specs.SweepHeadline.{HeadlineOfSweeps}
use Rattle.tso_cli.specs.CountsHeadline.{HeadlineOfCounts}
use Rattle.tso_cli.specs.OutcomesHeadline.{HeadlineOfOutcomes}
use Rattle.tso_cli.specs.WhyHeadline.{HeadlineOfReasons}
use Rattle.tso_cli.specs.Judgement.{JudgesEachOrder, WitnessesEachOrder}
use Rattle.tso_cli.specs.Dividing.{Parts, parts_of}
use Rattle.tso_cli.specs.Lines.{input_refusal, test_refusal}

-- the protocol's table is printed
abbrev pub PrintsTable : ProtocolKind → List ℕ → Type 0
PrintsTable kind out = out ≡ printed_table (protocol_name kind) (table_of kind)

-- what the headline says of a test and the second part of its input
abbrev pub HeadlineOf : Settings → Litmus → List ℕ → List ℕ → Type 0
HeadlineOf (settings.Run kind config set json) t text out = HeadlineOfRuns t kind config json text out
HeadlineOf (settings.Trace kind config set json) t text out = HeadlineOfTraces t kind config json text out
HeadlineOf (settings.Sweep kind config set plan) t text out = HeadlineOfSweeps t kind config plan out
HeadlineOf (settings.Counts kind config set plan json) t text out = HeadlineOfCounts t kind config plan json text out
HeadlineOf (settings.Outcomes search set json assert) t text out = HeadlineOfOutcomes t search json out
HeadlineOf (settings.Why plan set json assert) t text out = HeadlineOfReasons t plan json out
HeadlineOf (settings.Check set) t text out = JudgesEachOrder t text out
HeadlineOf (settings.Witness depth set) t text out = WitnessesEachOrder t depth text out
HeadlineOf (settings.Tables kind) t text out = PrintsTable kind out

-- this is so for every test text, in the set of instructions that is asked for; every other text is refused with its line
pub record PartsHeadline (s : Settings) (parts : Parts) (out : List ℕ) : Type 0 where
  pub every_test : (t : Litmus) → SpellsTest (instructions_of s) parts.test t → HeadlineOf s t parts.rest out
  pub every_other : ((t : Litmus) → ¬ (SpellsTest (instructions_of s) parts.test t))
      → (fault : TextFault) × IsRefusedTest (instructions_of s) parts.test fault × (out ≡ test_refusal fault)

-- of an input within its size; a larger one is refused
pub record InputHeadline (s : Settings) (input out : List ℕ) : Type 0 where
  pub within : length input ≤ longest_input → PartsHeadline s (parts_of input) out
  pub above : longest_input < length input → out ≡ input_refusal

-- of the bytes that the reader has, where they are known; `tables` reads none, and prints the protocol's table for every reader
abbrev pub Headline : Settings → Option (List ℕ) → List ℕ → Type 0
Headline (settings.Tables kind) known out = PrintsTable kind out
Headline s known out = IfSome known (λ input. InputHeadline s input out)
