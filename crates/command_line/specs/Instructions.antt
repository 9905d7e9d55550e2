-- Which instructions a command's test may have.
use Rattle.litmus_tokens.specs.declared.instructions.Instructions.{Instructions}
use Rattle.litmus_tokens.specs.declared.instructions.Instructions.TheVariants.{Basic}
use Rattle.command_line.specs.declared.settings.Settings.{Settings}
use Rattle.command_line.specs.declared.settings.Settings.TheVariants.{Run, Trace, Sweep, Counts, Outcomes, Why, Check, Witness, Tables}

-- of `tables`, which reads no test, those of the grammar
abbrev pub instructions_of : Settings → Instructions
instructions_of (Run protocol config instructions json) = instructions
instructions_of (Trace protocol config instructions json) = instructions
instructions_of (Sweep protocol config instructions plan) = instructions
instructions_of (Counts protocol config instructions plan json) = instructions
instructions_of (Outcomes search instructions json assert) = instructions
instructions_of (Why plan instructions json assert) = instructions
instructions_of (Check instructions) = instructions
instructions_of (Witness depth instructions) = instructions
instructions_of (Tables kind) = Basic
