-- Worked runs on the split bus: asks, waits and hits beside a held bus, each to be followed by eye. (Primer, chapter 7.)
use Rattle.std.specs.Prelude.{ℕ, true, false, List, [], ◌∷◌, None, codes}
use Rattle.tso_terms.specs.FlatMachine.{step, drain}
use Rattle.tso_terms.specs.Litmus.{Litmus}
use Rattle.tso_terms.specs.Thread.{entry}
use Rattle.tso_terms.specs.Examples.{loc_x, loc_y, zeros, n6}
use Rattle.tso_terms.specs.SplitMachine.{Attempt}
use Rattle.tso_terms.specs.EitherBus.{BusState, BusRun, run_on}
use Rattle.basic_laws.specs.Types.{Split, Eax, Ebx, Instr, StoreImm, Load, Xchg, Xadd, Entry, R, W, LR, LW, Choice}
use Rattle.tso_laws.specs.BusRuns.{left_by}

-- a choice whose access misses, and one whose access hits
abbrev pub missing : Choice → Attempt
missing c = record { choice = c; hits = false }

abbrev pub hitting : Choice → Attempt
hitting c = record { choice = c; hits = true }

-- store buffering, 0s 1s 0s 1s 0d 1d: while the first load holds the bus, what else needs it stalls
abbrev pub sb_waits : List Attempt
sb_waits =
    missing (step 0) ∷ (missing (step 1) ∷ (missing (step 0) ∷ (missing (step 1) ∷ (missing (drain 0) ∷ (missing (drain 1) ∷ [])))))

-- store buffering, 0s 1s 0s 0s 1s 1s 0d 0d 1d 1d: each access asks, and is completed
abbrev pub sb_asks : List Attempt
sb_asks =
    missing (step 0) ∷ (missing (step 1) ∷ (missing (step 0) ∷ (missing (step 0) ∷ (missing (step 1) ∷ (missing (step 1)
    ∷ (missing (drain 0) ∷ (missing (drain 0) ∷ (missing (drain 1) ∷ (missing (drain 1) ∷ [])))))))))

-- EAX is 1, and all else 0
abbrev pub one : List ℕ
one = 1 ∷ (0 ∷ (0 ∷ (0 ∷ (0 ∷ (0 ∷ [])))))

-- a locked addition of 1 to x, beside this program of another core
abbrev pub added_beside : List Instr → Litmus
added_beside program = record {
  name = codes "t";
  locations = codes "x" ∷ (codes "y" ∷ []);
  words = 0 ∷ (0 ∷ []);
  registers = one ∷ (zeros ∷ []);
  programs = (Xadd loc_x Eax ∷ []) ∷ (program ∷ []);
  condition = None;
}

-- beside a load of x, 0s 0s 1s 0s 1s 1s: the load waits until the addition is whole
abbrev pub added_and_loaded : Litmus
added_and_loaded = added_beside (Load Eax loc_x ∷ [])

abbrev pub load_waits : List Attempt
load_waits =
    missing (step 0) ∷ (missing (step 0) ∷ (missing (step 1) ∷ (missing (step 0) ∷ (missing (step 1) ∷ (missing (step 1) ∷ [])))))

abbrev pub load_waits_order : List Entry
load_waits_order = entry 0 0 LR loc_x 0 ∷ (entry 0 0 LW loc_x 1 ∷ (entry 1 0 R loc_x 1 ∷ []))

-- beside two loads of y, 1s 1s 0s 0s 1s 0s: the second hits, and is committed between the two parts of the addition
abbrev pub added_and_loaded_elsewhere : Litmus
added_and_loaded_elsewhere = added_beside (Load Eax loc_y ∷ (Load Ebx loc_y ∷ []))

abbrev pub load_between : List Attempt
load_between =
    missing (step 1) ∷ (missing (step 1) ∷ (missing (step 0) ∷ (missing (step 0) ∷ (hitting (step 1) ∷ (missing (step 0) ∷ [])))))

abbrev pub load_between_run : BusRun
load_between_run = run_on Split added_and_loaded_elsewhere 4 load_between

abbrev pub load_between_commits : List Entry
load_between_commits =
    entry 1 0 R loc_y 0 ∷ (entry 0 0 LR loc_x 0 ∷ (entry 1 1 R loc_y 0 ∷ (entry 0 0 LW loc_x 1 ∷ [])))

abbrev pub load_between_order : List Entry
load_between_order =
    entry 1 0 R loc_y 0 ∷ (entry 1 1 R loc_y 0 ∷ (entry 0 0 LR loc_x 0 ∷ (entry 0 0 LW loc_x 1 ∷ [])))

-- in n6, 1s 1d 0s 0s: while the second core's drain holds the bus, the first core's load is answered by its own store
abbrev pub load_forwards : List Attempt
load_forwards = missing (step 1) ∷ (missing (drain 1) ∷ (missing (step 0) ∷ (missing (step 0) ∷ [])))

-- in n6, 1s 1d: the second core's drain holds the bus
abbrev pub drain_holds : List Attempt
drain_holds = missing (step 1) ∷ (missing (drain 1) ∷ [])

abbrev pub drain_holding : BusState
drain_holding = left_by (run_on Split n6 4 drain_holds)

-- one core with these registers and this program
abbrev pub alone : List ℕ → List Instr → Litmus
alone registers program = record {
  name = codes "t";
  locations = codes "x" ∷ [];
  words = 0 ∷ [];
  registers = registers ∷ [];
  programs = program ∷ [];
  condition = None;
}

-- a locked exchange of a word that the core has just written, 0s 0d 0d 0s 0s 0s: it asks though it hits
abbrev pub exchanged : Litmus
exchanged = alone zeros (StoreImm loc_x 1 ∷ (Xchg loc_x Eax ∷ []))

abbrev pub exchange_asks : List Attempt
exchange_asks =
    missing (step 0) ∷ (missing (drain 0) ∷ (missing (drain 0) ∷ (hitting (step 0) ∷ (hitting (step 0) ∷ (hitting (step 0) ∷ [])))))

abbrev pub exchange_order : List Entry
exchange_order = entry 0 0 W loc_x 1 ∷ (entry 0 1 LR loc_x 1 ∷ (entry 0 1 LW loc_x 0 ∷ []))

-- without a buffer, 0s 0s: the store asks at its step, and is committed at the next
abbrev pub stored : Litmus
stored = alone zeros (StoreImm loc_x 1 ∷ [])

abbrev pub store_asks : List Attempt
store_asks = missing (step 0) ∷ (missing (step 0) ∷ [])

-- without a buffer, 0s 0s 0s: the second store hits, and is committed at its step
abbrev pub stored_twice : Litmus
stored_twice = alone zeros (StoreImm loc_x 1 ∷ (StoreImm loc_x 2 ∷ []))

abbrev pub store_hits : List Attempt
store_hits = missing (step 0) ∷ (missing (step 0) ∷ (hitting (step 0) ∷ []))
