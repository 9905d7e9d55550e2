-- States and choices of the examples on a split bus.
use Rattle.std.specs.Prelude.{ℕ, List, [], ◌∷◌}
use Rattle.worked_examples.specs.Vocabulary.{Attempt, BusEffect, BusRun, BusState, effect_on, Litmus, run_on}
use Rattle.basic_laws.specs.Types.{Split, Eax, Instr, StoreImm, Load, Xchg, Entry, W, LR}
use Rattle.worked_examples.specs.Written.{loc_x, loc_y, step, drain, six, memory_action}
use Rattle.worked_examples.specs.SharedBus.{missing, shared}

-- the registers at the beginning
abbrev pub first_of_p0 : List ℕ
first_of_p0 = six 11 12 13 14 15 16

abbrev pub first_of_p1 : List ℕ
first_of_p1 = six 21 22 23 24 25 26

-- what comes of a choice that is made after these, with buffers of this depth
abbrev pub after_run : BusRun → BusState
after_run r = record { flat = r.run.state; holder = r.holder }

abbrev pub comes_on : Litmus → ℕ → List Attempt → Attempt → BusEffect
comes_on t depth before a = effect_on Split t depth (after_run (run_on Split t depth before)) a

-- MOV EAX,[x] | MOV EAX,[y], and 0s misses: P0 holds the bus
abbrev pub two_loads : Litmus
two_loads = shared (Load Eax loc_x ∷ []) (Load Eax loc_y ∷ [])

abbrev pub load_holds : List Attempt
load_holds = missing (step 0) ∷ []

-- MOV [x],$7 | MOV EAX,[y], and 0s, and then 0d misses: P0 holds the bus
abbrev pub store_and_load : Litmus
store_and_load = shared (StoreImm loc_x 7 ∷ []) (Load Eax loc_y ∷ [])

abbrev pub is_pending : List Attempt
is_pending = missing (step 0) ∷ []

abbrev pub drain_holds : List Attempt
drain_holds = missing (step 0) ∷ missing (drain 0) ∷ []

-- XCHG [x],EAX | MOV EAX,[y], and 0s, and then 0s again: P0 holds the bus, and has read x
abbrev pub exchange_and_load : Litmus
exchange_and_load = shared (Xchg loc_x Eax ∷ []) (Load Eax loc_y ∷ [])

abbrev pub exchange_holds : List Attempt
exchange_holds = missing (step 0) ∷ []

abbrev pub exchange_has_read : List Attempt
exchange_has_read = missing (step 0) ∷ missing (step 0) ∷ []

abbrev pub load_part : Entry
load_part = memory_action 0 0 LR loc_x 3

-- MOV EAX,[x] | MOV [y],$8 and then a store, MFENCE or XCHG, and 0s misses, 1s: P0 holds the bus, and P1's store is pending
abbrev pub load_beside : Instr → Litmus
load_beside last = shared (Load Eax loc_x ∷ []) (StoreImm loc_y 8 ∷ last ∷ [])

abbrev pub held_and_pending : List Attempt
held_and_pending = missing (step 0) ∷ missing (step 1) ∷ []

abbrev pub pending_of_p1 : List Entry
pending_of_p1 = memory_action 1 0 W loc_y 8 ∷ []

-- MOV EAX,[x] | nothing
abbrev pub load_beside_none : Litmus
load_beside_none = shared (Load Eax loc_x ∷ []) []

-- MOV [x],$7 ; MOV EAX,[y] | nothing, and 0s, 0s misses: P0's load holds the bus, and its store is pending
abbrev pub store_before_load : Litmus
store_before_load = shared (StoreImm loc_x 7 ∷ Load Eax loc_y ∷ []) []

abbrev pub load_holds_over_store : List Attempt
load_holds_over_store = missing (step 0) ∷ missing (step 0) ∷ []
