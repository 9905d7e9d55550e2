-- What a contract sees of an order whose looks are counted: the order, and the count, by which a bound on a check's time is
-- said.
use Rattle.std.specs.Prelude.{ℕ, List}
use Rattle.tso_terms.specs.declared.execution.Entry.{Entry}

-- the order, and how often an entry of it was looked at
pub record WatchedOrder : Type 0 where
  pub order : List Entry
  pub looks : ℕ

abbrev pub watched : List Entry → ℕ → WatchedOrder
watched order looks = record { order = order; looks = looks }
