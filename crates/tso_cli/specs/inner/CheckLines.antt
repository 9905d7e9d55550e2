-- What a breach needs to be printed: its locations are among the test's, so that each has a name.
use Rattle.tso_cli.specs.Vocabulary.{Breach, Extra, HasLocation, IsLocationFor, Litmus, Missing, NoMemory, NotAdjacent, ProgramOrder}
use Rattle.tso_cli.specs.Vocabulary.{ReadValue, Twice, WrongValue}

-- the locations of what the breach names are the test's
abbrev pub CanBeNamed : Litmus → Breach → Type 0
CanBeNamed t (Extra x) = HasLocation t x
CanBeNamed t (Twice x) = HasLocation t x
CanBeNamed t (Missing core place kind loc) = IsLocationFor t kind loc.0
CanBeNamed t (WrongValue x due) = HasLocation t x
CanBeNamed t (ProgramOrder x y) = HasLocation t x × HasLocation t y
CanBeNamed t (NotAdjacent x) = HasLocation t x
CanBeNamed t (ReadValue x due) = HasLocation t x
CanBeNamed t NoMemory = Unit {0}
