-- Numbers as an order is written with them: decimal, without leading zeros. So each number has one text, and each order
-- too.
use Rattle.std.specs.Prelude.{ℕ, ◌==◌, ◌&&◌, ◌||◌, nat_lt, Bool, not, List, length, slice_index}
use Rattle.std.specs.List.{list_all}
use Rattle.std.specs.Char.{is_ascii_digit}

-- some digits, the first of them no `0` unless it is the only one
abbrev pub is_number : List ℕ → Bool
is_number text = nat_lt 0 (length text) && list_all is_ascii_digit text && (not (slice_index text 0 == 48) || (length text == 1))
