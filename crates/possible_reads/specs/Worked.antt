-- Worked tests: a lock that two cores take by an exchange or by a compare and exchange, a counter to which three cores add by locked
-- additions, one from which two subtract, store buffering, a load before its own core's store, a sum that is stored, and a location to
-- which one core stores 1 and two add 2.
use Rattle.std.specs.Prelude.{ℕ, true, List, [], ◌∷◌, None, codes}
use Rattle.tso_terms.specs.Litmus.{Litmus}
use Rattle.tso_terms.specs.Thread.{entry}
use Rattle.tso_terms.specs.Condition.{Claim, RegClaim, LocClaim, AndClaim}
use Rattle.tso_terms.specs.Examples.{loc_x, loc_y, zeros}
use Rattle.basic_laws.specs.Types.{Eax, Ebx, StoreImm, StoreReg, Load, Xadd, Add, Subtract, Number, Instr, Entry, R, LR, LW}
use Rattle.tso_terms.specs.declared.instruction.Instr.TheVariants.{CompareExchange, LockedCombine, Combine}
use Rattle.relational_model.specs.WorkedCandidates.{one_in_eax}
use Rattle.possible_reads.specs.Facts.{Fact, From, Last, Returns, given_by}

-- both cores read 0
abbrev pub both_zero : Claim
both_zero = AndClaim (RegClaim 0 Eax 0) (RegClaim 1 Eax 0)

-- ---- locked instructions on x, one of each core

abbrev pub load_part : ℕ → Entry
load_part core = entry core 0 LR loc_x 0

abbrev pub store_part : ℕ → Entry
store_part core = entry core 0 LW loc_x 0

-- the first core takes the lock: its exchange reads the initial word
abbrev pub taken : List Fact
taken = From (load_part 0) None true ∷ []

-- three cores with 1 in EAX add it to x, which begins as 0
abbrev pub counter_of_three : Litmus
counter_of_three = record {
  name = codes "counter";
  locations = codes "x" ∷ [];
  words = 0 ∷ [];
  registers = one_in_eax ∷ (one_in_eax ∷ (one_in_eax ∷ []));
  programs = (Xadd loc_x Eax ∷ []) ∷ ((Xadd loc_x Eax ∷ []) ∷ ((Xadd loc_x Eax ∷ []) ∷ []));
  condition = None;
}

-- two cores with these registers, and this instruction each, on x, which begins as `word`
abbrev pub both_do : List ℕ → ℕ → Instr → Litmus
both_do registers word instruction = record {
  name = codes "both";
  locations = codes "x" ∷ [];
  words = word ∷ [];
  registers = registers ∷ (registers ∷ []);
  programs = (instruction ∷ []) ∷ ((instruction ∷ []) ∷ []);
  condition = None;
}

-- a core has the lock if its compare and exchange found 0, and put 1 there
abbrev pub compared_lock : Litmus
compared_lock = both_do (0 ∷ (1 ∷ (0 ∷ (0 ∷ (0 ∷ (0 ∷ [])))))) 0 (CompareExchange loc_x Ebx)

-- two references are dropped
abbrev pub references : Litmus
references = both_do zeros 2 (LockedCombine loc_x Subtract (Number 1))

-- the first core adds last
abbrev pub adds_last : List Fact
adds_last = Last (store_part 0) true ∷ []

-- two additions of 1 are left of the three
abbrev pub one_lost : List Fact
one_lost = given_by counter_of_three (LocClaim 0 2) true

-- ---- loads and stores

-- the load of y, and that of x
abbrev pub load_of_y : Entry
load_of_y = entry 0 1 R loc_y 0

abbrev pub load_of_x : Entry
load_of_x = entry 1 1 R loc_x 0

-- a core loads x, adds 1, and stores the sum to y
abbrev pub sum_stored : Litmus
sum_stored = record {
  name = codes "sum";
  locations = codes "x" ∷ (codes "y" ∷ []);
  words = 4294967295 ∷ (7 ∷ []);
  registers = zeros ∷ [];
  programs = (Load Eax loc_x ∷ (Combine Eax Add (Number 1) ∷ (StoreReg loc_y Eax ∷ []))) ∷ [];
  condition = None;
}

-- a core loads x and then stores 1 there
abbrev pub load_then_store : Litmus
load_then_store = record {
  name = codes "own";
  locations = codes "x" ∷ [];
  words = 0 ∷ [];
  registers = zeros ∷ [];
  programs = (Load Eax loc_x ∷ (StoreImm loc_x 1 ∷ [])) ∷ [];
  condition = None;
}

-- a core stores 1 to x, adds 2 there, and loads it; another core adds 2; x begins as `word`
abbrev pub both_add : ℕ → Litmus
both_add word = record {
  name = codes "least";
  locations = codes "x" ∷ [];
  words = word ∷ [];
  registers = zeros ∷ (zeros ∷ []);
  programs =
      (StoreImm loc_x 1 ∷ (LockedCombine loc_x Add (Number 2) ∷ (Load Eax loc_x ∷ [])))
      ∷ ((LockedCombine loc_x Add (Number 2) ∷ []) ∷ []);
  condition = None;
}

-- its load, and that this returns 1
abbrev pub load_after : Entry
load_after = entry 0 2 R loc_x 0

abbrev pub one_loaded : List Fact
one_loaded = Returns load_after 1 true ∷ []

-- 1 is left at the end
abbrev pub one_left : List Fact
one_left = given_by (both_add 0) (LocClaim 0 1) true
