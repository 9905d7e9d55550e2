-- A number that digits say, where it is within a limit: however many digits there are, it never wraps.
use Rattle.std.specs.Prelude.{ℕ, nat_le, List, Option, Some, None, if◌then◌else◌}
use Rattle.tso_terms.specs.Decimals.{decimal_value}

-- the same, if it is at most `most`
unfoldable pub number_up_to : ℕ → List ℕ → Option ℕ
number_up_to most digits = if nat_le (decimal_value digits) most then Some (decimal_value digits) else None
