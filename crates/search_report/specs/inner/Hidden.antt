-- What is shown isn't hidden.
use Rattle.std.specs.Prelude.{◌≡◌, Bool, false, List, slice_index_or}
use Rattle.tso_terms.specs.Registers.{index_of}
use Rattle.tso_laws.specs.Dead.{hidden_of}
use Rattle.tso_report.specs.declared.named.Named.{Named}
use Rattle.tso_report.specs.declared.named.Named.TheVariants.{Register, Location}

abbrev pub IsNotHidden : List (List Bool) → Named → Type 0
IsNotHidden hidden (Register core reg) = slice_index_or (hidden_of hidden core.0) (index_of reg) false ≡ false
IsNotHidden hidden (Location loc) = Unit {0}
