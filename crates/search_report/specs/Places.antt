-- Registers and locations with what can stand there at the end.
use Rattle.std.specs.Prelude.{ℕ, ◌==◌, ◌&&◌, Bool, false, List}
use Rattle.search_report.specs.Vocabulary.{Named}
use Rattle.tso_terms.specs.Registers.{index_of}
use Rattle.tso_report.specs.declared.named.Named.TheVariants.{Register, Location}

-- a place, and the values that it can have
pub record Place : Type 0 where
  pub named : Named
  pub values : List ℕ

-- both are one register, or one location
abbrev pub is_same_place : Named → Named → Bool
is_same_place (Register core reg) (Register other named) = (core.0 == other.0) && (index_of reg == index_of named)
is_same_place (Location loc) (Location other) = loc.0 == other.0
is_same_place _ _ = false
