-- Those laws of a protocol's table that the calls of a bus ask for one by one: coherence is proved from them alone,
-- whatever the table. (Primer, chapters 6 and 7.)
use Rattle.std.specs.Prelude.{◌≡◌, ◌⊎◌, Bool, true, false, IsTrue}
use Rattle.protocol_tables.specs.declared.state.State.{State}
use Rattle.protocol_tables.specs.declared.state.State.TheVariants.{I, S, E, O, M}
use Rattle.protocol_tables.specs.declared.state.Snoop.{Snoop}
use Rattle.protocol_tables.specs.Laws.{is_dirty}

-- a line that another cache holds is filled in S, one that no other cache holds in S or E
abbrev pub FillsExclusiveOnlyAlone : (Bool → State) → Type 0
FillsExclusiveOnlyAlone filled = (filled true ≡ S) × ((filled false ≡ S) ⊎ (filled false ≡ E))

-- another's GetM leaves no copy, and nothing is sent to memory
abbrev pub GivesUp : (State → Snoop) → Type 0
GivesUp on_get_m = (s : State) → ((on_get_m s).next ≡ I) × ((on_get_m s).to_memory ≡ false)

-- what another's GetS may make of a state: never M or E, and O at most of M and O; S and I stay, and
-- a valid copy stays valid
abbrev pub MayBecome : State → State → Type 0
MayBecome M next = (next ≡ S) ⊎ (next ≡ O)
MayBecome O next = (next ≡ S) ⊎ (next ≡ O)
MayBecome E next = next ≡ S
MayBecome S next = next ≡ S
MayBecome I next = next ≡ I

abbrev pub Shares : (State → Snoop) → Type 0
Shares on_get_s = (s : State) → MayBecome s (on_get_s s).next

-- on another's GetS a dirty copy that ends in S is sent to memory, and only a dirty copy is sent
abbrev pub CleansByMemory : (State → Snoop) → Type 0
CleansByMemory on_get_s =
    ((s : State) → IsTrue (is_dirty s) → (on_get_s s).next ≡ S → IsTrue (on_get_s s).to_memory)
    × ((s : State) → IsTrue (on_get_s s).to_memory → IsTrue (is_dirty s))

-- a dirty copy supplies its words to another's request, and where there is no copy none are supplied
abbrev pub Supplies : (State → Snoop) → Type 0
Supplies on_request =
    ((s : State) → IsTrue (is_dirty s) → IsTrue (on_request s).supplies) × ((on_request I).supplies ≡ false)

-- M and O alone are written to memory when they are replaced
abbrev pub WritesBackDirty : (State → Bool) → Type 0
WritesBackDirty evicts_dirty = (s : State) → evicts_dirty s ≡ is_dirty s
