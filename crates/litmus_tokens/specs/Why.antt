-- The names of refusals, as they are printed. Scripts go by them, so each kind of fault has one that stays.
use Rattle.std.specs.Prelude.{ℕ, List, codes}
use Rattle.litmus_tokens.specs.declared.fault.Why.{Why}
use Rattle.litmus_tokens.specs.declared.fault.Why.TheVariants as whys

abbrev pub name_of : Why → List ℕ
name_of whys.NoHeader = codes "NoHeader"
name_of whys.Unclosed = codes "Unclosed"
name_of whys.BadToken = codes "BadToken"
name_of whys.BadInit = codes "BadInit"
name_of whys.BadHeaderRow = codes "BadHeaderRow"
name_of whys.WrongCells = codes "WrongCells"
name_of whys.BadInstruction = codes "BadInstruction"
name_of whys.BadNumber = codes "BadNumber"
name_of whys.TwiceInit = codes "TwiceInit"
name_of whys.NoSuchCore = codes "NoSuchCore"
name_of whys.TooLarge = codes "TooLarge"
name_of whys.BadCondition = codes "BadCondition"
name_of whys.Trailing = codes "Trailing"
name_of whys.NoMemory = codes "NoMemory"
