-- The text of a protocol's table. It is made of the table's own columns, so that the printed rows are the ones that the
-- caches go by.
use Rattle.std.specs.Prelude.{ℕ, Bool, true, false, List, [], ◌∷◌, ◌++◌, Option, Some, None, codes, if◌then◌else◌}
use Rattle.protocol_tables.specs.declared.state.State.{State}
use Rattle.protocol_tables.specs.declared.state.State.TheVariants.{I, S, E, O, M}
use Rattle.protocol_tables.specs.declared.state.Snoop.{Snoop}
use Rattle.protocol_tables.specs.Tables.{Table}

abbrev pub line : List ℕ → List ℕ
line text = text ++ 10 ∷ []

abbrev pub letter : State → List ℕ
letter M = codes "M"
letter O = codes "O"
letter E = codes "E"
letter S = codes "S"
letter I = codes "I"

abbrev pub yes_or_no : Bool → List ℕ
yes_or_no true = codes "yes"
yes_or_no false = codes "no"

-- the state that a write in place ends in, or that the bus has to be asked
abbrev pub printed_write : Option State → List ℕ
printed_write (Some next) = letter next
printed_write None = codes "bus"

abbrev pub printed_evict : Bool → List ℕ
printed_evict true = codes "dirty"
printed_evict false = codes "clean"

-- `S supplies=yes memory=no`
abbrev pub printed_snoop : Snoop → List ℕ
printed_snoop s = letter s.next ++ (codes " supplies=" ++ (yes_or_no s.supplies ++ (codes " memory=" ++ yes_or_no s.to_memory)))

-- `M GetS=.. GetM=.. write=M evict=dirty`
abbrev pub row : Table → State → List ℕ
row t s =
    letter s ++ (codes " GetS=" ++ (printed_snoop (t.on_get_s s) ++ (codes " GetM=" ++ (printed_snoop (t.on_get_m s)
    ++ (codes " write=" ++ (printed_write (t.written s) ++ (codes " evict=" ++ line (printed_evict (t.evicts_dirty s)))))))))

abbrev pub is_owned : State → Bool
is_owned M = false
is_owned O = true
is_owned E = false
is_owned S = false
is_owned I = false

abbrev pub is_exclusive : State → Bool
is_exclusive M = false
is_exclusive O = false
is_exclusive E = true
is_exclusive S = false
is_exclusive I = false

-- whether a copy is ever in this state: a write ends in M, and a load of a line that another cache holds in S;
-- E comes of a load that fills alone, and O of a modified copy on another's GetS
abbrev pub reaches : Table → State → Bool
reaches t M = true
reaches t O = is_owned (t.on_get_s M).next
reaches t E = is_exclusive (t.filled false)
reaches t S = true
reaches t I = false

abbrev pub row_if_reached : Table → State → List ℕ
row_if_reached t s = if reaches t s then row t s else []

abbrev pub rows : Table → List State → List ℕ
rows t [] = []
rows t (s ∷ rest) = row_if_reached t s ++ rows t rest

unfoldable pub strongest_first : List State
strongest_first = M ∷ (O ∷ (E ∷ (S ∷ [])))

-- `Protocol NAME`
abbrev pub name_line : List ℕ → List ℕ
name_line name = codes "Protocol " ++ line name

-- `Fill alone=E shared=S`
unfoldable pub fill_line : State → State → List ℕ
fill_line alone shared = codes "Fill alone=" ++ (letter alone ++ (codes " shared=" ++ line (letter shared)))

-- the name, what a load fills in, and a row for each state that the protocol reaches
unfoldable pub printed_table : List ℕ → Table → List ℕ
printed_table name t = name_line name ++ (fill_line (t.filled false) (t.filled true) ++ rows t strongest_first)
