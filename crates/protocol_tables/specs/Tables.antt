-- MSI, MESI, MOESI and MOSI as tables. Each column is written out for all five states, also for those that a
-- protocol never reaches; nothing is taken from the laws, which are proved of it. (Primer, chapters 6
-- and 7, for the states; which copies supply, and which are sent to memory, is this project's profile.)
use Rattle.std.specs.Prelude.{Bool, true, false, Option, Some, None}
use Rattle.protocol_tables.specs.declared.state.State.{State}
use Rattle.protocol_tables.specs.declared.state.State.TheVariants.{I, S, E, O, M}
use Rattle.protocol_tables.specs.declared.state.Snoop.{Snoop}
use Rattle.protocol_tables.specs.declared.kind.ProtocolKind.{ProtocolKind}
use Rattle.protocol_tables.specs.declared.kind.ProtocolKind.TheVariants.{Msi, Mesi, Moesi, Mosi}

-- a protocol's table by columns: the state that a load fills in, where another cache holds the line and
-- where none does; what another's GetS and GetM do to a copy; what a write in place makes of it; and
-- whether it is written to memory when it is replaced
pub record Table : Type 0 where
  pub filled : Bool → State
  pub on_get_s : State → Snoop
  pub on_get_m : State → Snoop
  pub written : State → Option State
  pub evicts_dirty : State → Bool

-- the next state, whether the copy supplies, and whether it is sent to memory
abbrev pub snoop : State → Bool → Bool → Snoop
snoop next supplies to_memory = record { next = next; supplies = supplies; to_memory = to_memory }

-- always S
abbrev pub filled_shared : Bool → State
filled_shared shared = S

-- S where another cache holds the line, else E
abbrev pub filled_by_sharing : Bool → State
filled_by_sharing true = S
filled_by_sharing false = E

-- GetS where a modified copy is sent to memory and becomes shared
abbrev pub get_s_flushing : State → Snoop
get_s_flushing M = snoop S true true
get_s_flushing O = snoop O true false
get_s_flushing E = snoop S true false
get_s_flushing S = snoop S false false
get_s_flushing I = snoop I false false

-- GetS where a modified copy becomes owned, and memory stays stale
abbrev pub get_s_owning : State → Snoop
get_s_owning M = snoop O true false
get_s_owning O = snoop O true false
get_s_owning E = snoop S true false
get_s_owning S = snoop S false false
get_s_owning I = snoop I false false

abbrev pub get_m : State → Snoop
get_m M = snoop I true false
get_m O = snoop I true false
get_m E = snoop I true false
get_m S = snoop I false false
get_m I = snoop I false false

abbrev pub written_in_place : State → Option State
written_in_place M = Some M
written_in_place O = None
written_in_place E = Some M
written_in_place S = None
written_in_place I = None

abbrev pub is_written_back : State → Bool
is_written_back M = true
is_written_back O = true
is_written_back E = false
is_written_back S = false
is_written_back I = false

abbrev pub msi : Table
msi = record {
  filled = filled_shared;
  on_get_s = get_s_flushing;
  on_get_m = get_m;
  written = written_in_place;
  evicts_dirty = is_written_back;
}

abbrev pub mesi : Table
mesi = record {
  filled = filled_by_sharing;
  on_get_s = get_s_flushing;
  on_get_m = get_m;
  written = written_in_place;
  evicts_dirty = is_written_back;
}

abbrev pub moesi : Table
moesi = record {
  filled = filled_by_sharing;
  on_get_s = get_s_owning;
  on_get_m = get_m;
  written = written_in_place;
  evicts_dirty = is_written_back;
}

abbrev pub mosi : Table
mosi = record {
  filled = filled_shared;
  on_get_s = get_s_owning;
  on_get_m = get_m;
  written = written_in_place;
  evicts_dirty = is_written_back;
}

-- one of four, by the protocol
abbrev pub by_kind : {A : Type 0} → ProtocolKind → A → A → A → A → A
by_kind Msi w x y z = w
by_kind Mesi w x y z = x
by_kind Moesi w x y z = y
by_kind Mosi w x y z = z

abbrev pub table_of : ProtocolKind → Table
table_of kind = by_kind kind msi mesi moesi mosi
