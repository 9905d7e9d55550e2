-- What is told of an answer beside it, on standard error: a line of one form, or nothing; of a search that didn't end perhaps a
-- second line. It is no part of the answer, and promises no more than its form.
use Rattle.std.specs.Prelude.{◌≡◌, ◌⊎◌, ◌++◌, Bool, true, false, not, ℕ, List, []}
use Rattle.hints.specs.Hint.{IsHint, IsRunsLine}
use Rattle.tso_cli.specs.Vocabulary.{Settings}
use Rattle.tso_cli.specs.declared.answer.Status.{Status}
use Rattle.tso_cli.specs.declared.answer.Status.TheVariants.{Good, Invalid, NotAsClaimed, Refused, Unended}
use Rattle.command_line.specs.declared.settings.Settings.TheVariants as settings

-- whether an answer that was printed may mislead: final states in lines that people read may; JSON, a verdict and choices don't.
-- They may where the condition names a location that nothing uses, a register that no instruction of its core writes, or a location
-- that no instruction writes and that is asked for another value than it begins with; where a list of the test is left out; or where a
-- sweep never met what is asked
abbrev pub may_mislead : Settings → Bool
may_mislead (settings.Run kind config set json) = not json
may_mislead (settings.Trace kind config set json) = not json
may_mislead (settings.Sweep kind config set plan) = true
may_mislead (settings.Counts kind config set plan json) = false
may_mislead (settings.Outcomes search set json assert) = not json
may_mislead (settings.Why plan set json assert) = not json
may_mislead (settings.Check set) = false
may_mislead (settings.Witness depth set) = false
may_mislead (settings.Tables kind) = false

-- a hint or nothing
abbrev pub IsHintOrNothing : List ℕ → Type 0
IsHintOrNothing text = (text ≡ []) ⊎ IsHint text

-- beside an answer that was printed and that may mislead, or that may not
abbrev pub IsToldOfGood : Bool → List ℕ → Type 0
IsToldOfGood true text = IsHintOrNothing text
IsToldOfGood false text = text ≡ []

-- whether the command searches for final states
abbrev pub is_searched : Settings → Bool
is_searched (settings.Outcomes search set json assert) = true
is_searched _ = false

-- a hint, and after it nothing or a line that says choices
abbrev pub IsHintWithRuns : List ℕ → Type 0
IsHintWithRuns text =
    (hint : List ℕ) × (runs : List ℕ) × IsHint hint × ((runs ≡ []) ⊎ IsRunsLine runs) × (text ≡ hint ++ runs)

-- beside an answer of status 3, of a search for final states or not
abbrev pub IsToldOfUnended : Bool → List ℕ → Type 0
IsToldOfUnended true text = IsHintWithRuns text
IsToldOfUnended false text = IsHint text

-- a hint where a text was refused, or a run or a search didn't end, of final states perhaps with choices; of an answer that may
-- mislead a hint or nothing; else nothing
abbrev pub IsTold : Settings → Status → List ℕ → Type 0
IsTold s Good text = IsToldOfGood (may_mislead s) text
IsTold s NotAsClaimed text = IsToldOfGood (may_mislead s) text
IsTold s Invalid text = text ≡ []
IsTold s Refused text = IsHint text
IsTold s Unended text = IsToldOfUnended (is_searched s) text
