-- A core of the code as the flat machine has it, and what each of its calls does: an action of the flat machine, at the
-- depth of the core's own buffer, with memory as the words that the bus shows.
use Rattle.std.specs.Prelude.{ℕ, Option, ◌+◌, List, [], ◌∷◌, map, filter, slice_index}
use Rattle.tso_terms.specs.Actions.{action_of}
use Rattle.multiprocessor.specs.Vocabulary.{access_by, BusModel, drain_of, Effect, effect_by, entry, fenced, MemoryAccess, stored, Stores}
use Rattle.multiprocessor.specs.Vocabulary.{stores, words_of, writes_to}
use Rattle.tso_terms.specs.Axioms.{last_value}
use Rattle.basic_laws.specs.Types.{Loc, Instr, Reg, Update, Action, Entry, W, LR, LW}
use Rattle.tso_terms.specs.declared.action.Action.TheVariants.{Load, Lock}
use Rattle.multiprocessor.specs.declared.processor.Processor.{Processor}
use Rattle.multiprocessor.specs.Cores.{core_state, store_of}

-- the entries of the stores in a core's buffer, and so its pending stores
abbrev pub buffered_entries : ℕ → Stores → List Entry
buffered_entries core s = map (store_of core) s.items

abbrev pub pending_in : ℕ → Processor → List Entry
pending_in core p = buffered_entries core p.stores

-- what the core of this number does with this memory: an action, at the depth of its own buffer
abbrev pub action_by : Action → ℕ → Processor → List ℕ → Effect
action_by action core p memory = effect_by p.stores.depth memory core action (core_state core p)

-- a step at this instruction
abbrev pub step_by : Instr → ℕ → Processor → List ℕ → Effect
step_by instr = action_by (action_of instr)

-- a load, and a locked instruction
abbrev pub effect_of_load : Reg → Loc → ℕ → Processor → List ℕ → Effect
effect_of_load reg loc = action_by (Load reg loc)

abbrev pub effect_of_lock : Loc → Option Reg → Update → ℕ → Processor → List ℕ → Effect
effect_of_lock loc reg update = action_by (Lock loc reg update)

-- a plain store of this value
abbrev pub effect_of_store : Loc → ℕ → ℕ → Processor → List ℕ → Effect
effect_of_store loc value core p memory = stored p.stores.depth (core_state core p) (entry core p.place W loc value)

-- a fence
abbrev pub effect_of_fence : ℕ → Processor → List ℕ → Effect
effect_of_fence core p memory = fenced core (core_state core p)

-- a drain
abbrev pub effect_of_drain : ℕ → Processor → List ℕ → Effect
effect_of_drain core p memory = drain_of (core_state core p)

-- the access that an action of the core makes
abbrev pub own_access : Action → ℕ → Processor → MemoryAccess
own_access action core p = access_by p.stores.depth action (pending_in core p)

-- what a core with these pending stores sees at a location of this memory
abbrev pub seen_by : ℕ → Stores → List ℕ → Loc → ℕ
seen_by core s memory loc = last_value (filter (writes_to loc.0) (buffered_entries core s)) (slice_index memory loc.0)

-- the word at a location of the bus
abbrev pub word_on_bus : BusModel → Loc → ℕ
word_on_bus b loc = slice_index (words_of b) loc.0

-- the load part of a locked instruction, which reads that word
abbrev pub first_read : ℕ → ℕ → Loc → BusModel → Entry
first_read core place loc b = entry core place LR loc (word_on_bus b loc)

-- both parts of a locked instruction that read this word and wrote this value
abbrev pub both_parts : ℕ → ℕ → Loc → ℕ → ℕ → List Entry
both_parts core place loc word value = entry core place LR loc word ∷ (entry core place LW loc value ∷ [])

-- the core at its next instruction, with these registers
abbrev pub at_next : Processor → List ℕ → Processor
at_next p registers = record { place = p.place + 1; registers = registers; stores = p.stores }

-- the core before its first instruction, with these registers, and nothing pending in its buffer
abbrev pub at_start : List ℕ → Processor → Processor
at_start registers p = record { place = 0; registers = registers; stores = stores [] p.stores.depth }
