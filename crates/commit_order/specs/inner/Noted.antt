-- What a contract sees of noted commits: the entries in their order, and how much room is left, within which no memory is
-- taken.
use Rattle.std.specs.Prelude.{ℕ, ◌-◌, List}
use Rattle.std.specs.Vec.{vec_len, vec_capacity}
use Rattle.std.specs.declared.vec.Vec.{Vec}
use Rattle.std.specs.declared.alloc.Global.{Global}
use Rattle.tso_terms.specs.declared.execution.Entry.{Entry}

-- the entries in the order of their commits, and for how many further entries there is room
pub record Noted : Type 0 where
  pub entries : List Entry
  pub room : ℕ

-- a vector of entries with its spare room
abbrev pub noted : Vec Entry Global → Noted
noted entries = record { entries = entries.items; room = vec_capacity entries - vec_len entries }
