-- The answer of `witness`: the choices that reach an order, or the depth that it needs, or its first breach. (Primer,
-- chapter 4.)
use Rattle.std.specs.Prelude.{ℕ, ◌≡◌, ◌<◌, ◌≤◌, Bool, List}
use Rattle.tso_cli.specs.Vocabulary.{Breach, Choice, choices_along, Configuration, Ended, Ending, Entry, HasFault, Instructions, IsEndingOf}
use Rattle.tso_cli.specs.Vocabulary.{IsFirstBreach, IsTsoExecution, Litmus, OrderFault, ProtocolKind, run, ShownRun, SpellsOrder}
use Rattle.tso_cli.specs.Vocabulary.{Unfinished}
use Rattle.tso_laws.specs.Depth.{needed}
use Rattle.scheduler.specs.Printed.{printed_choices}
use Rattle.litmus_reader.specs.Spelling.{SpellsTest}
use Rattle.tso_report.specs.Report.{line}
use Rattle.tso_cli.specs.Dividing.{Parts}
use Rattle.tso_cli.specs.Lines.{depth_line}
use Rattle.tso_cli.specs.RunTexts.{report_in}
use Rattle.tso_cli.specs.CheckLines.{order_refusal, invalid_line}
use Rattle.tso_cli.specs.declared.answer.Status.{Status}
use Rattle.tso_cli.specs.declared.answer.Status.TheVariants.{Good, Refused, Invalid}

-- choices on one line; of no choices the line is empty
abbrev pub witness_line : List Choice → List ℕ
witness_line choices = line (printed_choices choices)

-- the answer of `witness` to a test and an order of it, at this depth
pub data IsWitness (t : Litmus) (depth : ℕ) (order : List Entry) : List ℕ → Status → Type 0 where
  reached : IsTsoExecution t order → needed order ≤ depth → IsWitness t depth order (witness_line (choices_along t order)) Good
  too_small : IsTsoExecution t order → depth < needed order → IsWitness t depth order (depth_line (needed order)) Invalid
  invalid : (breach : Breach) → IsFirstBreach t order breach → IsWitness t depth order (invalid_line t breach) Invalid

-- the answer of `witness` to a test and the text of an order
pub data IsWitnessAnswer (t : Litmus) (depth : ℕ) (text : List ℕ) : List ℕ → Status → Type 0 where
  refused : (fault : OrderFault) → HasFault t text fault → IsWitnessAnswer t depth text (order_refusal fault) Refused
  judged : (order : List Entry) (out : List ℕ) (status : Status) → SpellsOrder t text order → IsWitness t depth order out status
      → IsWitnessAnswer t depth text out status

-- the answer of a simulation is that of the run under the choices along an order
abbrev pub IsEndingAlong : Litmus → ℕ → List Entry → Ending → Type 0
IsEndingAlong t depth order ending = IsEndingOf t (run t depth (choices_along t order)) ending

-- a simulation has ended with this very order; none of its choices stalled, and none was left over
abbrev pub HasEndedWith : List Entry → Ending → Type 0
HasEndedWith order (Ended run) = (run.left.execution.order.items ≡ order) × (run.stalled ≡ 0) × (run.unused ≡ 0)
HasEndedWith order (Unfinished used stalled) = ⊥

-- what is written is the report of a run that ended with the very order that the second part spells; none of its choices
-- stalled, and none was left over
pub record ReportsOrder (kind : ProtocolKind) (c : Configuration) (set : Instructions) (json : Bool) (parts : Parts) (out : List ℕ) : Type 0 where
  pub t : Litmus
  pub order : List Entry
  pub test_spelled : SpellsTest set parts.test t
  pub order_spelled : SpellsOrder t parts.rest order
  pub shown : ShownRun
  pub printed : out ≡ report_in json t kind c shown
  pub reached : shown.order ≡ order
  pub stalled : shown.stalled ≡ 0
  pub unused : shown.unused ≡ 0
