-- A number of an order as it is read, where it is within a limit: a digit more must not make it wrap.
use Rattle.std.specs.Prelude.{ℕ, List, Option, None, if◌then◌else◌}
use Rattle.tso_terms.specs.inner.Decimals.{number_up_to}
use Rattle.order_builder.specs.Numbers.{is_number}

-- the number that a text is, if it is one and no greater than the most that there may be
unfoldable pub number_within : ℕ → List ℕ → Option ℕ
number_within most text = if is_number text then number_up_to most text else None
