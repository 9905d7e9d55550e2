-- Names of locations and registers, at the front of some tokens.
use Rattle.std.specs.Prelude.{ℕ, List, Option, Some, None, if◌then◌else◌}
use Rattle.tso_terms.specs.Names.{is_location_name}
use Rattle.tso_terms.specs.Registers.{register_named}
use Rattle.tso_terms.specs.declared.register.Reg.{Reg}
use Rattle.litmus_tokens.specs.Pieces.{Piece}
use Rattle.litmus_tokens.specs.Front.{name_at}
use Rattle.litmus_tokens.specs.Faults.{there}

-- a name that a location may have, at the front
unfoldable pub location_at : List Piece → Option (List ℕ × List Piece)
location_at ps = there (name_at ps) (λ x. if is_location_name x.0 then Some x else None) None

-- a register's name at the front
unfoldable pub register_at : List Piece → Option (Reg × List Piece)
register_at ps = there (name_at ps) (λ x. there (register_named x.0) (λ reg. Some (reg, x.1)) None) None
