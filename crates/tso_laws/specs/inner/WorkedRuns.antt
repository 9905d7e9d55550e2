-- Choices along worked orders, and small tests with theirs, some of which break a premise on purpose.
use Rattle.std.specs.Prelude.{List, [], ◌∷◌, ◌++◌, None, codes}
use Rattle.tso_terms.specs.FlatMachine.{step, drain}
use Rattle.tso_terms.specs.Litmus.{Litmus}
use Rattle.tso_terms.specs.Thread.{entry}
use Rattle.tso_terms.specs.Examples.{loc_x, loc_y, zeros}
use Rattle.basic_laws.specs.Types.{Eax, Loc, StoreImm, Load, SetImm, Entry, R, W, Choice}

-- along the order of n6: 0s 0s 0s 1s 1d 1s 1d 0d
abbrev pub n6_along : List Choice
n6_along = step 0 ∷ (step 0 ∷ (step 0 ∷ (step 1 ∷ (drain 1 ∷ (step 1 ∷ (drain 1 ∷ (drain 0 ∷ [])))))))

-- along the order of store buffering in which both loads pass their own store: 0s 0s 1s 1s 0d 1d
abbrev pub sb_along : List Choice
sb_along = step 0 ∷ (step 0 ∷ (step 1 ∷ (step 1 ∷ (drain 0 ∷ (drain 1 ∷ [])))))

-- four rounds of store buffering: 0s 1s 0d 1d, and that again
abbrev pub sb_round : List Choice
sb_round = step 0 ∷ (step 1 ∷ (drain 0 ∷ (drain 1 ∷ [])))

abbrev pub sb_rounds : List Choice
sb_rounds = sb_round ++ (sb_round ++ (sb_round ++ (sb_round ++ [])))

abbrev pub loc_z : Loc
loc_z = record { 0 = 2 }

-- one core, over three locations
abbrev pub two_stores : Litmus
two_stores = record {
  name = codes "two";
  locations = codes "x" ∷ (codes "y" ∷ (codes "z" ∷ []));
  words = 0 ∷ (0 ∷ (0 ∷ []));
  registers = zeros ∷ [];
  programs = (StoreImm loc_x 1 ∷ (StoreImm loc_y 1 ∷ (Load Eax loc_z ∷ []))) ∷ [];
  condition = None;
}

-- its load passes both stores
abbrev pub two_passed : List Entry
two_passed = entry 0 2 R loc_z 0 ∷ (entry 0 0 W loc_x 1 ∷ (entry 0 1 W loc_y 1 ∷ []))

-- at depth 1 the second store stalls until the first is drained: 0s 0s 0d 0s 0d 0s
abbrev pub two_stalled : List Choice
two_stalled = step 0 ∷ (step 0 ∷ (drain 0 ∷ (step 0 ∷ (drain 0 ∷ (step 0 ∷ [])))))

-- a store, and a register move after it
abbrev pub moved_last : Litmus
moved_last = record {
  name = codes "moved";
  locations = codes "x" ∷ [];
  words = 0 ∷ [];
  registers = zeros ∷ [];
  programs = (StoreImm loc_x 1 ∷ (SetImm Eax 5 ∷ [])) ∷ [];
  condition = None;
}

abbrev pub moved_order : List Entry
moved_order = entry 0 0 W loc_x 1 ∷ []

-- the move comes at the end: 0s 0d 0s
abbrev pub moved_along : List Choice
moved_along = step 0 ∷ (drain 0 ∷ (step 0 ∷ []))

-- one store, and nothing else
abbrev pub one_store : Litmus
one_store = record {
  name = codes "one";
  locations = codes "x" ∷ [];
  words = 0 ∷ [];
  registers = zeros ∷ [];
  programs = (StoreImm loc_x 1 ∷ []) ∷ [];
  condition = None;
}

-- one round of it, with the drain first
abbrev pub one_round : List Choice
one_round = drain 0 ∷ (step 0 ∷ [])

-- outside the limits: its location has no word
abbrev pub wordless : Litmus
wordless = record {
  name = codes "none";
  locations = [];
  words = [];
  registers = zeros ∷ [];
  programs = (StoreImm loc_x 1 ∷ (Load Eax loc_x ∷ [])) ∷ [];
  condition = None;
}

-- 0s 0d 0s
abbrev pub wordless_choices : List Choice
wordless_choices = step 0 ∷ (drain 0 ∷ (step 0 ∷ []))
