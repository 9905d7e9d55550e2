-- What the code of a store buffer holds, a ring, as a list: where in the ring it begins has no part in what is said of it.
use Rattle.std.specs.Prelude.{ℕ, List}
use Rattle.store_buffer.specs.declared.Pending.{Pending}
use Rattle.store_buffer.specs.Stores.{Stores}

abbrev pub stores : List Pending → ℕ → Stores
stores items depth = record { items = items; depth = depth }
