-- What the numbers of the page ask for, and what answers them: the same settings and answers as those of the program, so
-- that its promises hold of the page.
use Rattle.std.specs.Prelude.{ℕ, ◌≡◌, ◌<◌, ◌≤◌, ◌⊎◌, true, List, Some, None, length, take}
use Rattle.tso_terms.specs.declared.choice.Bus.{Bus}
use Rattle.cache_set.specs.Geometry.{geometry, IsShapeWithinLimits}
use Rattle.protocol_tables.specs.declared.kind.ProtocolKind.{ProtocolKind}
use Rattle.refutation_laws.specs.declared.model.Model.{Model}
use Rattle.tso_terms.specs.Limits.{most_depth}
use Rattle.multiprocessor.specs.Configuration.{Configuration}
use Rattle.litmus_tokens.specs.declared.instructions.Instructions.{Instructions}
use Rattle.litmus_tokens.specs.declared.instructions.Instructions.TheVariants as sets
use Rattle.command_line.specs.Limits.{IsDepth}
use Rattle.scheduler.specs.Plan.{IsPlanWithinLimits}
use Rattle.command_line.specs.Search.{most_states}
use Rattle.command_line.specs.Explanation.{most_told_apart}
use Rattle.command_line.specs.declared.settings.Settings.{Settings}
use Rattle.tso_cli.specs.Headline.{Headline}
use Rattle.tso_cli.specs.Answers.{IsAnswer}
use Rattle.tso_cli.specs.Step.{IsStepAnswer}
use Rattle.tso_cli.specs.Hints.{IsTold}
use Rattle.tso_cli.specs.declared.answer.Status.{Status}
use Rattle.page_exports.specs.declared.question.Numbers.{Numbers}
use Rattle.page_exports.specs.declared.question.Question.{Question}
use Rattle.page_exports.specs.declared.AnswerLengths.{AnswerLengths}
use Rattle.tso_terms.specs.declared.choice.Bus.TheVariants as buses
use Rattle.protocol_tables.specs.declared.kind.ProtocolKind.TheVariants as kinds
use Rattle.refutation_laws.specs.declared.model.Model.TheVariants as models
use Rattle.tso_report.specs.declared.show.Show.{Show}
use Rattle.tso_report.specs.declared.show.Show.TheVariants as shows
use Rattle.command_line.specs.declared.settings.Settings.TheVariants as settings
use Rattle.tso_cli.specs.declared.answer.Status.TheVariants as statuses
use Rattle.page_exports.specs.declared.question.Question.TheVariants as questions

abbrev pub kind_number : ProtocolKind → ℕ
kind_number kinds.Msi = 0
kind_number kinds.Mesi = 1
kind_number kinds.Moesi = 2
kind_number kinds.Mosi = 3

abbrev pub bus_number : Bus → ℕ
bus_number buses.Atomic = 0
bus_number buses.Split = 1

abbrev pub model_number : Model → ℕ
model_number models.Tso = 0
model_number models.Sequential = 1

abbrev pub set_number : Instructions → ℕ
set_number sets.Basic = 0
set_number sets.All = 1

abbrev pub show_number : Show → ℕ
show_number shows.Condition = 0
show_number shows.Registers = 1
show_number shows.All = 2

-- the number of a status is the command's exit status
abbrev pub number_of_status : Status → ℕ
number_of_status statuses.Good = 0
number_of_status statuses.Refused = 1
number_of_status statuses.Unended = 3
number_of_status statuses.Invalid = 4
number_of_status statuses.NotAsClaimed = 4

-- a machine is the one that the numbers ask for
abbrev pub IsMachineOf : Numbers → ProtocolKind → Configuration → Type 0
IsMachineOf a kind config =
    (kind_number kind ≡ a.protocol) × (config.depth ≡ a.depth) × (bus_number config.bus ≡ a.bus)
    × (config.shape ≡ geometry a.sets a.ways a.words)

-- the settings of the command that the numbers ask for: these are one at most
abbrev pub Asks : Numbers → Settings → Type 0
Asks a (settings.Run kind config set json) = (a.command ≡ 0) × IsMachineOf a kind config × (set_number set ≡ a.instructions) × (json ≡ a.json)
Asks a (settings.Sweep kind config set plan) =
    (a.command ≡ 1) × IsMachineOf a kind config × (set_number set ≡ a.instructions) × (plan ≡ record { from = a.from; seeds = a.seeds; length = a.length })
Asks a (settings.Counts kind config set (Some plan) json) =
    (a.command ≡ 9) × IsMachineOf a kind config × (set_number set ≡ a.instructions)
    × (plan ≡ record { from = a.from; seeds = a.seeds; length = a.length }) × (json ≡ a.json)
Asks a (settings.Counts kind config set None json) =
    (a.command ≡ 10) × IsMachineOf a kind config × (set_number set ≡ a.instructions) × (json ≡ a.json)
Asks a (settings.Check set) = (a.command ≡ 2) × (set_number set ≡ a.instructions)
Asks a (settings.Witness depth set) = (a.command ≡ 3) × (depth ≡ a.depth) × (set_number set ≡ a.instructions)
Asks a (settings.Tables kind) = (a.command ≡ 4) × (kind_number kind ≡ a.protocol)
Asks a (settings.Outcomes search set json assert) =
    (a.command ≡ 5) × (search.depth ≡ a.depth) × (search.states ≡ a.states) × (show_number search.show ≡ a.show)
    × (set_number set ≡ a.instructions) × (json ≡ a.json) × (assert ≡ a.assert)
Asks a (settings.Trace kind config set json) = (a.command ≡ 6) × IsMachineOf a kind config × (set_number set ≡ a.instructions) × (json ≡ a.json)
Asks a (settings.Why plan set json assert) =
    (a.command ≡ 8) × (model_number plan.model ≡ a.model) × (plan.cases ≡ a.cases) × (set_number set ≡ a.instructions) × (json ≡ a.json)
    × (assert ≡ a.assert)

-- the question that the numbers ask: a command's, or for the last step of a trace
abbrev pub AsksQuestion : Numbers → Question → Type 0
AsksQuestion a (questions.Command settings) = Asks a settings
AsksQuestion a (questions.Step kind config set) = (a.command ≡ 7) × IsMachineOf a kind config × (set_number set ≡ a.instructions)

-- a machine that there is
abbrev pub IsMachineAsked : Numbers → Type 0
IsMachineAsked a = (a.protocol < 4) × (a.bus < 2) × (a.depth ≤ most_depth) × IsShapeWithinLimits (geometry a.sets a.ways a.words)

-- a set of instructions that there is
abbrev pub IsSetAsked : Numbers → Type 0
IsSetAsked a = a.instructions < 2

-- a command that there is, with all that it looks at within its limits
abbrev pub IsCommandAskable : Numbers → Type 0
IsCommandAskable a =
    ((a.command ≡ 0) × IsMachineAsked a × IsSetAsked a)
    ⊎ ((a.command ≡ 1) × IsMachineAsked a × IsPlanWithinLimits (record { from = a.from; seeds = a.seeds; length = a.length }) × IsSetAsked a)
    ⊎ ((a.command ≡ 2) × IsSetAsked a)
    ⊎ ((a.command ≡ 3) × IsDepth a.depth × IsSetAsked a)
    ⊎ ((a.command ≡ 4) × (a.protocol < 4))
    ⊎ ((a.command ≡ 5) × (a.show < 3) × (a.depth ≤ most_depth) × (1 ≤ a.states) × (a.states ≤ most_states) × IsSetAsked a)
    ⊎ ((a.command ≡ 6) × IsMachineAsked a × IsSetAsked a)
    ⊎ ((a.command ≡ 8) × (a.model < 2) × (1 ≤ a.cases) × (a.cases ≤ most_told_apart) × IsSetAsked a)
    ⊎ ((a.command ≡ 9) × IsMachineAsked a × IsPlanWithinLimits (record { from = a.from; seeds = a.seeds; length = a.length }) × IsSetAsked a)
    ⊎ ((a.command ≡ 10) × IsMachineAsked a × IsSetAsked a)

-- the same of a question
abbrev pub IsAskable : Numbers → Type 0
IsAskable a = IsCommandAskable a ⊎ ((a.command ≡ 7) × IsMachineAsked a × IsSetAsked a)

-- the settings of the command whose hints are beside the answer: of a step, those of the trace that it is of
abbrev pub settings_of : Question → Settings
settings_of (questions.Command command) = command
settings_of (questions.Step kind config set) = settings.Trace kind config set true

-- the answer of a command under settings, of which the headline is true
pub record IsCommandAnswer (settings : Settings) (input out : List ℕ) (status : Status) : Type 0 where
  pub exact : IsAnswer settings (Some input) out status
  pub headline : Headline settings (Some input) out

-- the answer to a question about an input
abbrev pub IsAnswerToQuestion : Question → List ℕ → List ℕ → Status → Type 0
IsAnswerToQuestion (questions.Command settings) input out status = IsCommandAnswer settings input out status
IsAnswerToQuestion (questions.Step kind config set) input out status = IsStepAnswer kind config set input out status

-- these bytes are the answer to the question, with its exit status, and the others are the hint beside such an answer
pub record Answers (question : Question) (input out hint : List ℕ) (number : ℕ) : Type 0 where
  pub status : Status
  pub numbered : number_of_status status ≡ number
  pub answer : IsAnswerToQuestion question input out status
  pub told : IsTold (settings_of question) status hint

-- the numbers ask a question, and these bytes answer it
pub record AnswersAsked (a : Numbers) (input out hint : List ℕ) (number : ℕ) : Type 0 where
  pub question : Question
  pub asked : AsksQuestion a question
  pub answers : Answers question input out hint number

-- what is told of an answer to the question and of the hint beside it is how long they are, and that they are at the start of
-- these rooms, where it says so
pub record TellsOf (question : Question) (input room hint_room : List ℕ) (told : AnswerLengths) : Type 0 where
  pub out : List ℕ
  pub hint : List ℕ
  pub answers : Answers question input out hint told.status
  pub length_is : length out ≡ told.length
  pub hint_length_is : length hint ≡ told.hint_length
  pub stands : told.is_whole ≡ true → take told.length room ≡ out
  pub hint_stands : told.is_whole ≡ true → take told.hint_length hint_room ≡ hint

-- the numbers ask a question, and this is told of an answer to it
pub record TellsOfAsked (a : Numbers) (input room hint_room : List ℕ) (told : AnswerLengths) : Type 0 where
  pub question : Question
  pub asked : AsksQuestion a question
  pub tells : TellsOf question input room hint_room told
