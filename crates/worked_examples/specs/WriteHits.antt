-- Writes on the split bus to a line that their core has: where it may be written in place, they are committed at once.
-- (Primer, chapters 6 and 7: a silent write in M or E.)
use Rattle.std.specs.Prelude.{ℕ, List, [], ◌∷◌, None, codes}
use Rattle.worked_examples.specs.Vocabulary.{after_on, Attempt, BusState, effect_on, Geometry, Litmus, start, unheld}
use Rattle.basic_laws.specs.Types.{Bus, Eax, StoreImm, Load, Entry, R, W, Choice, Outcome, Committed, Buffered, Asked}
use Rattle.multiprocessor.specs.declared.counts.Counts.{Counts}
use Rattle.worked_examples.specs.Written.{loc_x, loc_y, step, drain, six, memory_action}
use Rattle.worked_examples.specs.SharedBus.{missing, hitting}

-- the outcome of each of these choices, one after the other
abbrev pub outcomes_from : Bus → Litmus → ℕ → BusState → List Attempt → List Outcome
outcomes_from bus t depth state [] = []
outcomes_from bus t depth state (a ∷ rest) =
    (effect_on bus t depth state a).effect.outcome ∷ outcomes_from bus t depth (after_on bus t depth state a) rest

abbrev pub outcomes : Bus → Litmus → ℕ → List Attempt → List Outcome
outcomes bus t depth attempts = outcomes_from bus t depth (unheld (start t)) attempts

-- caches of one set for two lines of a word
abbrev pub two_lines : Geometry
two_lines = record { sets = 1; ways = 2; words = 1 }

-- what the accesses of a core's cache were
abbrev pub these : ℕ → ℕ → ℕ → ℕ → ℕ → ℕ → Counts
these hits misses upgrades forwards write_backs flushes =
    record { hits = hits; misses = misses; upgrades = upgrades; forwards = forwards; write_backs = write_backs; flushes = flushes }

--   X86 twice
--   { x=3; y=4; }
--    P0          | P1          ;
--    MOV EAX,[x] | MOV EAX,[y] ;
--    MOV [x],$7  |             ;
--    MOV [x],$8  |             ;
abbrev pub twice : Litmus
twice = record {
  name = codes "twice";
  locations = codes "x" ∷ codes "y" ∷ [];
  words = 3 ∷ 4 ∷ [];
  registers = six 0 0 0 0 0 0 ∷ six 0 0 0 0 0 0 ∷ [];
  programs = (Load Eax loc_x ∷ StoreImm loc_x 7 ∷ StoreImm loc_x 8 ∷ []) ∷ (Load Eax loc_y ∷ []) ∷ [];
  condition = None;
}

-- with buffers 0s 0s 0s 1s 0d 0s 0d 1s: P1's load holds the bus from its first step to its second; P0's drains come between
abbrev pub drains : List Choice
drains = step 0 ∷ step 0 ∷ step 0 ∷ step 1 ∷ drain 0 ∷ step 0 ∷ drain 0 ∷ step 1 ∷ []

-- in MESI the load has filled in E: both drains hit, on E and on M
abbrev pub drains_hit : List Attempt
drains_hit =
    missing (step 0) ∷ missing (step 0) ∷ missing (step 0) ∷ missing (step 1)
    ∷ hitting (drain 0) ∷ missing (step 0) ∷ hitting (drain 0) ∷ missing (step 1) ∷ []

abbrev pub drains_come_to : List Outcome
drains_come_to = Asked ∷ Committed ∷ Buffered ∷ Asked ∷ Committed ∷ Buffered ∷ Committed ∷ Committed ∷ []

abbrev pub drains_order : List Entry
drains_order =
    memory_action 0 0 R loc_x 3 ∷ memory_action 0 1 W loc_x 7 ∷ memory_action 0 2 W loc_x 8 ∷ memory_action 1 0 R loc_y 4 ∷ []

-- without buffers 0s 0s 0s 0s: in MESI both stores hit at their steps, on E and on M
abbrev pub steps : List Choice
steps = step 0 ∷ step 0 ∷ step 0 ∷ step 0 ∷ []

abbrev pub steps_hit : List Attempt
steps_hit = missing (step 0) ∷ missing (step 0) ∷ hitting (step 0) ∷ hitting (step 0) ∷ []

abbrev pub steps_come_to : List Outcome
steps_come_to = Asked ∷ Committed ∷ Committed ∷ Committed ∷ []

-- in MSI the load has filled in S: the first store asks, and is committed at the next step
abbrev pub first_asks : List Attempt
first_asks = missing (step 0) ∷ missing (step 0) ∷ missing (step 0) ∷ missing (step 0) ∷ []

abbrev pub first_comes_to : List Outcome
first_comes_to = Asked ∷ Committed ∷ Asked ∷ Committed ∷ []
