-- A fault that says that there are too many choices, with its word: the one fault that also depends on how many choices
-- came before.
use Rattle.std.specs.Prelude.{ℕ, Option, Some, None}
use Rattle.scheduler.specs.declared.fault.ChoiceFault.{ChoiceFault}
use Rattle.scheduler.specs.declared.fault.ChoiceFault.TheVariants as fault

-- the word at which the item begins that passes the limit
abbrev pub too_many_at : ChoiceFault → Option ℕ
too_many_at (fault.BadWord word) = None
too_many_at (fault.NoSuchCore word) = None
too_many_at (fault.TooMany word) = Some word
too_many_at fault.NoMemory = None
