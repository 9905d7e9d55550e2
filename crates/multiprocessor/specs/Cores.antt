-- A core of the machine as the flat machine has it: what its store buffer holds are its pending stores. So each choice of
-- the code is held against one of the flat machine, and no promise has to speak of a buffer. (x86-TSO, section 3.)
use Rattle.std.specs.Prelude.{ℕ, ◌+◌, ◌<◌, List, [], ◌∷◌, map, All}
use Rattle.multiprocessor.specs.Vocabulary.{CoreState, entry, Pending, State, Stores}
use Rattle.basic_laws.specs.Types.{Entry, W}
use Rattle.multiprocessor.specs.declared.processor.Processor.{Processor}

-- the entry that a pending store of this core commits when it goes to memory
abbrev pub store_of : ℕ → Pending → Entry
store_of core p = entry core p.place W p.loc p.value

abbrev pub core_state : ℕ → Processor → CoreState
core_state core p = record { place = p.place; registers = p.registers; pending = map (store_of core) p.stores.items }

-- these pending stores are to one of so many locations
abbrev pub AreKnown : ℕ → Stores → Type 0
AreKnown locations s = All (λ p. p.loc.0 < locations) s.items

-- the cores from this number on
abbrev pub core_states : ℕ → List Processor → List CoreState
core_states core [] = []
core_states core (p ∷ ps) = core_state core p ∷ core_states (core + 1) ps

abbrev pub state_of_cores : List Processor → List ℕ → State
state_of_cores processors memory = record { memory = memory; cores = core_states 0 processors }
