-- What a contract sees of a store buffer: a list, first in, first out, and its depth. Without the depth no clause could say
-- when the buffer is full. (x86-TSO, section 3.)
use Rattle.std.specs.Prelude.{ℕ, List}
use Rattle.store_buffer.specs.declared.Pending.{Pending}

-- the pending stores, the oldest first, and how many there may be
pub record Stores : Type 0 where
  pub items : List Pending
  pub depth : ℕ
