-- Worked runs, for what their accesses come to: each shows one rule of the statistics at work, on counts that one can make
-- by hand. (Primer, chapter 7, for the tables that they go by.)
use Rattle.std.specs.Prelude.{ℕ, List, [], ◌∷◌, None, codes}
use Rattle.tso_terms.specs.FlatMachine.{drain, step}
use Rattle.cache_set.specs.Geometry.{Geometry, geometry}
use Rattle.tso_terms.specs.Litmus.{Litmus}
use Rattle.tso_terms.specs.Examples.{loc_x, loc_y, zeros}
use Rattle.basic_laws.specs.Types.{Eax, Ebx, Loc, Instr, StoreImm, Load, Xchg, Xadd, Choice}
use Rattle.multiprocessor.specs.declared.counts.Counts.{Counts}
use Rattle.multiprocessor.specs.Statistics.{counts}

-- one set for two lines of a word, and one for a single line
abbrev pub two_lines : Geometry
two_lines = geometry 1 2 1

abbrev pub one_line : Geometry
one_line = geometry 1 1 1

-- misses and nothing else
abbrev pub missed : ℕ → Counts
missed n = counts 0 n 0 0 0 0

-- store buffering, where each core's store goes to memory before its load
abbrev pub in_turn : List Choice
in_turn = step 0 ∷ (drain 0 ∷ (step 0 ∷ (step 1 ∷ (drain 1 ∷ (step 1 ∷ [])))))

-- and without buffers, where each core's step is its store's way to memory
abbrev pub sb_steps : List Choice
sb_steps = step 0 ∷ (step 1 ∷ (step 0 ∷ (step 1 ∷ [])))

-- of the test in which a core reads its own store before memory has it
abbrev pub own_store_first : List Choice
own_store_first = step 0 ∷ (step 0 ∷ (step 0 ∷ (step 1 ∷ (step 1 ∷ (drain 1 ∷ (drain 1 ∷ (drain 0 ∷ [])))))))

-- a core loads a word and then stores to it
abbrev pub load_store : Litmus
load_store = record {
  name = codes "load-store";
  locations = codes "x" ∷ [];
  words = 0 ∷ [];
  registers = zeros ∷ [];
  programs = (Load Eax loc_x ∷ (StoreImm loc_x 1 ∷ [])) ∷ [];
  condition = None;
}

abbrev pub load_store_choices : List Choice
load_store_choices = step 0 ∷ (step 0 ∷ (drain 0 ∷ []))

-- without a buffer on a split bus: the load and the store ask, one after the other
abbrev pub load_store_steps : List Choice
load_store_steps = step 0 ∷ (step 0 ∷ (step 0 ∷ (step 0 ∷ [])))

-- a core stores to two words, and another loads the first of them
abbrev pub two_stores : Litmus
two_stores = record {
  name = codes "two-stores";
  locations = codes "x" ∷ (codes "y" ∷ []);
  words = 0 ∷ (0 ∷ []);
  registers = zeros ∷ (zeros ∷ []);
  programs = (StoreImm loc_x 1 ∷ (StoreImm loc_y 1 ∷ [])) ∷ ((Load Eax loc_x ∷ []) ∷ []);
  condition = None;
}

-- the load comes between the two stores
abbrev pub between : List Choice
between = step 0 ∷ (drain 0 ∷ (step 1 ∷ (step 0 ∷ (drain 0 ∷ []))))

abbrev pub loc_z : Loc
loc_z = record { 0 = 2 }

-- a core loads three words, the first of them again and again
abbrev pub five_loads : Litmus
five_loads = record {
  name = codes "five-loads";
  locations = codes "x" ∷ (codes "y" ∷ (codes "z" ∷ []));
  words = 0 ∷ (0 ∷ (0 ∷ []));
  registers = zeros ∷ [];
  programs = (Load Eax loc_x ∷ (Load Ebx loc_y ∷ (Load Eax loc_x ∷ (Load Ebx loc_z ∷ (Load Eax loc_x ∷ []))))) ∷ [];
  condition = None;
}

abbrev pub five_loads_choices : List Choice
five_loads_choices = step 0 ∷ (step 0 ∷ (step 0 ∷ (step 0 ∷ (step 0 ∷ []))))

-- on a split bus: store buffering, where each access asks and is completed
abbrev pub sb_asks : List Choice
sb_asks = step 0 ∷ (step 1 ∷ (step 0 ∷ (step 0 ∷ (step 1 ∷ (step 1 ∷ (drain 0 ∷ (drain 0 ∷ (drain 1 ∷ (drain 1 ∷ [])))))))))

-- and where it doesn't end: the first load has asked, and is counted only once it is completed
abbrev pub sb_waits : List Choice
sb_waits = step 0 ∷ (step 1 ∷ (step 0 ∷ (step 1 ∷ (drain 0 ∷ (drain 1 ∷ [])))))

-- EAX is 1, and all else 0
abbrev pub one : List ℕ
one = 1 ∷ (0 ∷ (0 ∷ (0 ∷ (0 ∷ (0 ∷ [])))))

-- a locked addition of 1 to x, beside this program of another core
abbrev pub added_beside : List Instr → Litmus
added_beside program = record {
  name = codes "added";
  locations = codes "x" ∷ (codes "y" ∷ []);
  words = 0 ∷ (0 ∷ []);
  registers = one ∷ (zeros ∷ []);
  programs = (Xadd loc_x Eax ∷ []) ∷ (program ∷ []);
  condition = None;
}

-- beside a load of x, which waits until the addition is whole
abbrev pub beside_load : Litmus
beside_load = added_beside (Load Eax loc_x ∷ [])

abbrev pub load_waits : List Choice
load_waits = step 0 ∷ (step 0 ∷ (step 1 ∷ (step 0 ∷ (step 1 ∷ (step 1 ∷ [])))))

-- beside two loads of y, the second of which hits between the two parts of the addition
abbrev pub beside_two_loads : Litmus
beside_two_loads = added_beside (Load Eax loc_y ∷ (Load Ebx loc_y ∷ []))

abbrev pub load_between : List Choice
load_between = step 1 ∷ (step 1 ∷ (step 0 ∷ (step 0 ∷ (step 1 ∷ (step 0 ∷ [])))))

-- a locked exchange of a word that the core has just written: it asks though it hits
abbrev pub store_exchange : Litmus
store_exchange = record {
  name = codes "store-exchange";
  locations = codes "x" ∷ [];
  words = 0 ∷ [];
  registers = zeros ∷ [];
  programs = (StoreImm loc_x 1 ∷ (Xchg loc_x Eax ∷ [])) ∷ [];
  condition = None;
}

abbrev pub store_exchange_choices : List Choice
store_exchange_choices = step 0 ∷ (drain 0 ∷ (drain 0 ∷ (step 0 ∷ (step 0 ∷ (step 0 ∷ [])))))
