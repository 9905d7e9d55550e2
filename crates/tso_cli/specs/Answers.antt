-- The answer to an input: what is written, and the status. Everything that the program promises is said of this; that each
-- answer meets the headline is a law of it.
use Rattle.std.specs.Prelude.{ℕ, ◌+◌, ◌<◌, ◌≤◌, ◌≡◌, ◌⊎◌, List, length, Option, IfSome}
use Rattle.tso_cli.specs.Vocabulary.{Litmus, longest_input, printed_table, protocol_name, ProtocolKind, Settings, table_of, TextFault}
use Rattle.litmus_reader.specs.Spelling.{SpellsTest, IsRefused as IsRefusedTest}
use Rattle.tso_cli.specs.Why.{IsWhyAnswer}
use Rattle.tso_cli.specs.Witness.{IsWitnessAnswer}
use Rattle.tso_cli.specs.CommandAnswers.{IsCheckAnswer, IsRunAnswer}
use Rattle.tso_cli.specs.Counts.{IsCountsAnswer}
use Rattle.tso_cli.specs.Dividing.{parts_of}
use Rattle.tso_cli.specs.Lines.{input_refusal, test_refusal}
use Rattle.tso_cli.specs.Outcomes.{IsOutcomesAnswer}
use Rattle.tso_cli.specs.Sweep.{IsSweepAnswer}
use Rattle.tso_cli.specs.Trace.{IsTraceAnswer}
use Rattle.tso_cli.specs.declared.answer.Status.{Status}
use Rattle.tso_cli.specs.declared.answer.Status.TheVariants.{Good, NotAsClaimed, Refused}
use Rattle.command_line.specs.Instructions.{instructions_of}
use Rattle.command_line.specs.declared.settings.Settings.TheVariants as settings

-- the answer of `tables`
pub record IsTableAnswer (kind : ProtocolKind) (out : List ℕ) (status : Status) : Type 0 where
  pub text : out ≡ printed_table (protocol_name kind) (table_of kind)
  pub status_is : status ≡ Good

-- the answer of a command to a test and the second part of its input; a sweep, a count over seeds and both searches look at the test
-- alone, and `tables` at neither
abbrev pub IsAnswerTo : Settings → Litmus → List ℕ → List ℕ → Status → Type 0
IsAnswerTo (settings.Run kind config set json) t text out status = IsRunAnswer t kind config json text out status
IsAnswerTo (settings.Trace kind config set json) t text out status = IsTraceAnswer t kind config json text out status
IsAnswerTo (settings.Sweep kind config set plan) t text out status = IsSweepAnswer t kind config plan out status
IsAnswerTo (settings.Counts kind config set plan json) t text out status = IsCountsAnswer t kind config plan json text out status
IsAnswerTo (settings.Outcomes search set json assert) t text out status = IsOutcomesAnswer t search json assert out status
IsAnswerTo (settings.Why plan set json assert) t text out status = IsWhyAnswer t plan json assert out status
IsAnswerTo (settings.Check set) t text out status = IsCheckAnswer t text out status
IsAnswerTo (settings.Witness depth set) t text out status = IsWitnessAnswer t depth text out status
IsAnswerTo (settings.Tables kind) t text out status = IsTableAnswer kind out status

-- the answer to an input that is read: its size is judged first, then its first part, then the second
pub data IsInputAnswer (s : Settings) (input : List ℕ) : List ℕ → Status → Type 0 where
  too_large : longest_input < length input → IsInputAnswer s input input_refusal Refused
  refused : (fault : TextFault) → length input ≤ longest_input → IsRefusedTest (instructions_of s) (parts_of input).test fault
      → IsInputAnswer s input (test_refusal fault) Refused
  answered : (t : Litmus) (out : List ℕ) (status : Status) → length input ≤ longest_input → SpellsTest (instructions_of s) (parts_of input).test t
      → IsAnswerTo s t (parts_of input).rest out status → IsInputAnswer s input out status

-- the answer of a command to the bytes that a reader has, where they are known; `tables` reads none, and answers the same to
-- every reader
abbrev pub IsAnswer : Settings → Option (List ℕ) → List ℕ → Status → Type 0
IsAnswer (settings.Tables kind) known out status = IsTableAnswer kind out status
IsAnswer s known out status = IfSome known (λ input. IsInputAnswer s input out status)

-- what was asked for was printed: the answer is good, or its status tells that the condition isn't as it claims
abbrev pub IsPrinted : Status → Type 0
IsPrinted status = (status ≡ Good) ⊎ (status ≡ NotAsClaimed)

-- maximum number of bytes that are read: one more than an input may have shows that it has too many
abbrev pub most_read : Settings → ℕ
most_read (settings.Tables kind) = 0
most_read _ = longest_input + 1
