-- Where an entry is among those of its program, as one number. (This project's.)
use Rattle.std.specs.Prelude.{ℕ, ◌+◌, ◌≡◌, ◌==◌, ◌&&◌, nat_lt}
use Rattle.tso_terms.specs.ProgramOrder.{is_before}
use Rattle.basic_laws.specs.Types.{Entry, Kind, LW}

-- of the two parts of a locked instruction the store is the later
abbrev pub part_of : Kind → ℕ
part_of LW = 1
part_of _ = 0

-- entries of one core are in their program as these numbers do
abbrev pub rank : Entry → ℕ
rank e = e.place + e.place + part_of e.kind

-- program order goes by rank
abbrev pub ProgramOrderGoesByRank : Type 0
ProgramOrderGoesByRank = (x y : Entry) → is_before x y ≡ ((x.core.0 == y.core.0) && nat_lt (rank x) (rank y))
