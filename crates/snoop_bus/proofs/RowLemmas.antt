-- A table is that of its rows.
use mathlib.Core.Path.{fun_ext}
use Rattle.snoop_bus.proofs.Vocabulary.{◌≡◌, Bool, true, false, None, refl, State, I, M, Table, snoop, table_column, column_entry, rows_of}
use Rattle.snoop_bus.proofs.Vocabulary.{filled_in, table_of_rows}

column-entry : {A : Type 0} (none : A) (f : State → A) → column_entry none (table_column f) ≡ f
column-entry none f = fun_ext each
  where
    each : (s : State) → column_entry none (table_column f) s ≡ f s
    each M = refl
    each _ = refl

filled-in : (t : Table) → filled_in (rows_of t) ≡ t.filled
filled-in t = fun_ext each
  where
    each : (shared : Bool) → filled_in (rows_of t) shared ≡ t.filled shared
    each true = refl
    each false = refl

pub table_of-rows : (t : Table) → table_of_rows (rows_of t) ≡ t
table_of-rows t =
    rw (
      filled-in t,
      column-entry (snoop I false false) t.on_get_s,
      column-entry (snoop I false false) t.on_get_m,
      column-entry None t.written,
      column-entry false t.evicts_dirty,
    )
    refl
