-- Which status the program ends with.
use Rattle.std.specs.Prelude.{ℕ}
use Rattle.tso_cli.specs.declared.answer.Status.{Status}
use Rattle.tso_cli.specs.declared.answer.Status.TheVariants.{Good, Refused, Unended, Invalid, NotAsClaimed}

-- the exit status of an answer
abbrev pub exit_code : Status → ℕ
exit_code Good = 0
exit_code Refused = 1
exit_code Unended = 3
exit_code Invalid = 4
exit_code NotAsClaimed = 4
