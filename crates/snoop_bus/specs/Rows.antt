-- A protocol's table written out, row by row: as what a contract sees of a bus, which holds no function. Two buses are then
-- compared by lists.
use Rattle.std.specs.Prelude.{Bool, true, false, List, [], ◌∷◌, Option, None, slice_index_or}
use Rattle.snoop_bus.specs.Vocabulary.{E, I, M, O, S, Snoop, snoop, State, Table}

-- a column of a table: what it has for M, O, E, S and I
abbrev pub table_column : {A : Type 0} → (State → A) → List A
table_column f = f M ∷ f O ∷ f E ∷ f S ∷ f I ∷ []

-- what a column has for a state
abbrev pub column_entry : {A : Type 0} → A → List A → State → A
column_entry none column M = slice_index_or column 0 none
column_entry none column O = slice_index_or column 1 none
column_entry none column E = slice_index_or column 2 none
column_entry none column S = slice_index_or column 3 none
column_entry none column I = slice_index_or column 4 none

-- a table by its columns, and beside them the states that a load fills in: where another cache holds the line, and
-- where none does
pub record TableColumns : Type 0 where
  pub filled_shared : State
  pub filled_alone : State
  pub on_get_s : List Snoop
  pub on_get_m : List Snoop
  pub written : List (Option State)
  pub evicts_dirty : List Bool

abbrev pub rows_of : Table → TableColumns
rows_of t = record {
  filled_shared = t.filled true;
  filled_alone = t.filled false;
  on_get_s = table_column t.on_get_s;
  on_get_m = table_column t.on_get_m;
  written = table_column t.written;
  evicts_dirty = table_column t.evicts_dirty;
}

abbrev pub filled_in : TableColumns → Bool → State
filled_in r true = r.filled_shared
filled_in r false = r.filled_alone

-- the table of these rows
abbrev pub table_of_rows : TableColumns → Table
table_of_rows r = record {
  filled = filled_in r;
  on_get_s = column_entry (snoop I false false) r.on_get_s;
  on_get_m = column_entry (snoop I false false) r.on_get_m;
  written = column_entry None r.written;
  evicts_dirty = column_entry false r.evicts_dirty;
}
