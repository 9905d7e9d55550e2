-- Kinds of entries, and their order in a program: by place, and of a locked instruction the load part first. (Primer,
-- chapter 4: memory actions and program order.)
use Rattle.std.specs.Prelude.{ℕ, ◌==◌, ◌&&◌, ◌||◌, nat_lt, not, Bool, true, false, ◌≡◌}
use Rattle.tso_terms.specs.declared.execution.Entry.{Entry}
use Rattle.tso_terms.specs.declared.execution.Kind.{Kind}
use Rattle.tso_terms.specs.declared.execution.Kind.TheVariants.{R, W, F, LR, LW}

abbrev pub same_kind : Kind → Kind → Bool
same_kind R R = true
same_kind W W = true
same_kind F F = true
same_kind LR LR = true
same_kind LW LW = true
same_kind _ _ = false

-- a plain load
abbrev pub is_load : Entry → Bool
is_load e = same_kind e.kind R

-- a plain store
abbrev pub is_store : Entry → Bool
is_store e = same_kind e.kind W

-- a load, or the load part of a locked instruction
abbrev pub is_read : Entry → Bool
is_read e = same_kind e.kind R || same_kind e.kind LR

-- a store, or the store part of a locked instruction
abbrev pub is_write : Entry → Bool
is_write e = same_kind e.kind W || same_kind e.kind LW

-- a write to this location
abbrev pub writes_to : ℕ → Entry → Bool
writes_to loc e = is_write e && (e.loc.0 == loc)

-- of one place, y is the store part of a locked instruction and x is not
abbrev pub is_earlier_part : Entry → Entry → Bool
is_earlier_part x y = (x.place == y.place) && (same_kind y.kind LW && not (same_kind x.kind LW))

-- program order: x comes before y in the program of their core
abbrev pub is_before : Entry → Entry → Bool
is_before x y = (x.core.0 == y.core.0) && (nat_lt x.place y.place || is_earlier_part x y)

-- the one exception of TSO: a plain store may be passed by a later plain load
abbrev pub may_be_passed : Entry → Entry → Bool
may_be_passed x y = same_kind x.kind W && same_kind y.kind R

-- y is the store part of the locked instruction whose load part is x
pub record IsStorePart (x y : Entry) : Type 0 where
  pub core : y.core.0 ≡ x.core.0
  pub place : y.place ≡ x.place
  pub kind : y.kind ≡ LW
