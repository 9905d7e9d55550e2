-- A witness is asked for at a depth within its limits: all that the answers ask of the page's numbers beforehand.
use Rattle.command_line.specs.Limits.{HasDepth}
use Rattle.page_exports.specs.declared.question.Question.{Question}
use Rattle.page_exports.specs.Questions.{settings_of}

-- a witness is asked for at a depth within its limits
abbrev pub HasDepthFor : Question → Type 0
HasDepthFor question = HasDepth (settings_of question)
