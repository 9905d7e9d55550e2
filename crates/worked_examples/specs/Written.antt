-- What worked examples come to, written out by constructors and numerals alone: nothing here is of the definitions that are worked.
use Rattle.std.specs.Prelude.{ℕ, List, [], ◌∷◌}
use Rattle.worked_examples.specs.Vocabulary.{CoreState, Effect}
use Rattle.basic_laws.specs.Types.{Loc, Entry, Kind, Choice, Step, Drain, Outcome}

-- three locations, in the order of their numbers
abbrev pub loc_x : Loc
loc_x = record { 0 = 0 }

abbrev pub loc_y : Loc
loc_y = record { 0 = 1 }

abbrev pub loc_z : Loc
loc_z = record { 0 = 2 }

-- the choices `0s`, `1s`, and `0d`, `1d`
abbrev pub step : ℕ → Choice
step core = Step (record { 0 = core })

abbrev pub drain : ℕ → Choice
drain core = Drain (record { 0 = core })

-- EAX, EBX, ECX, EDX, ESI and EDI
abbrev pub six : ℕ → ℕ → ℕ → ℕ → ℕ → ℕ → List ℕ
six eax ebx ecx edx esi edi = eax ∷ ebx ∷ ecx ∷ edx ∷ esi ∷ edi ∷ []

-- `P1:2 R z=31` is `memory_action 1 2 R loc_z 31`
abbrev pub memory_action : ℕ → ℕ → Kind → Loc → ℕ → Entry
memory_action core place kind loc value =
    record { core = record { 0 = core }; place = place; kind = kind; loc = loc; value = value }

-- a core at this place of its program, with these registers and these pending stores, oldest first
abbrev pub core_at : ℕ → List ℕ → List Entry → CoreState
core_at place registers pending = record { place = place; registers = registers; pending = pending }

-- what a choice does: its outcome, its core afterwards, and what it commits
abbrev pub comes : Outcome → CoreState → List Entry → Effect
comes outcome after commits = record { outcome = outcome; after = after; commits = commits }
