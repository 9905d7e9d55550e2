-- What the page's numbers ask for, by plain numbers, and what is beside an answer to them.
use Rattle.std.specs.Prelude.{ℕ, ◌≡◌, List, [], length}
use Rattle.page_exports.specs.declared.AnswerLengths.{AnswerLengths}
use Rattle.page_exports.specs.declared.question.Numbers.{Numbers}
use Rattle.page_exports.specs.declared.question.Question.{Question}
use Rattle.page_exports.specs.declared.question.Question.TheVariants.{Command, Step}
use Rattle.page_exports.specs.Questions.{AsksQuestion, IsAskable, IsMachineAsked, IsSetAsked, AnswersAsked}

abbrev pub IsStepQuestion : Question → Type 0
IsStepQuestion (Command settings) = ⊥
IsStepQuestion (Step kind config set) = Unit {0}

-- 7 asks for the last step of a trace: wherever there are a machine and a set of instructions that the numbers ask for, and for nothing else
pub record SevenAsksForAStep : Type 0 where
  pub askable : (a : Numbers) → a.command ≡ 7 → IsMachineAsked a → IsSetAsked a → IsAskable a
  pub step : (a : Numbers) (question : Question) → a.command ≡ 7 → AsksQuestion a question → IsStepQuestion question

-- beside the last step of a trace of a run that ended, which has status 0, no hint stands: it is JSON
abbrev pub NoHintStandsBesideAStep : Type 0
NoHintStandsBesideAStep =
    (a : Numbers) (input out hint : List ℕ) → a.command ≡ 7 → AnswersAsked a input out hint 0 → hint ≡ []

-- what is told is how long an answer to what the numbers ask is, and the hint beside it, whether they fitted or not
pub record TellsLengths (a : Numbers) (input : List ℕ) (told : AnswerLengths) : Type 0 where
  pub out : List ℕ
  pub hint : List ℕ
  pub answers : AnswersAsked a input out hint told.status
  pub length_is : length out ≡ told.length
  pub hint_length_is : length hint ≡ told.hint_length
