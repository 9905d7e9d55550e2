-- One choice of one core, after others.
--   X86 alone
--   { x=3; y=4; 0:EAX=11; 0:EBX=12; 0:ECX=13; 0:EDX=14; 0:ESI=15; 0:EDI=16; }
--    P0  ;
--    ..  ;
use Rattle.std.specs.Prelude.{ℕ, List, [], ◌∷◌, None, codes}
use Rattle.worked_examples.specs.Vocabulary.{CoreState, Effect, effect_of, Litmus, run}
use Rattle.basic_laws.specs.Types.{Eax, Ebx, Ecx, Edx, Instr, StoreImm, StoreReg, SetImm, SetReg, Fence, Xchg, Xadd, Entry, W, Choice}
use Rattle.worked_examples.specs.Written.{loc_x, loc_y, step, drain, six, memory_action, core_at}

abbrev pub alone : List Instr → Litmus
alone program = record {
  name = codes "alone";
  locations = codes "x" ∷ codes "y" ∷ [];
  words = 3 ∷ 4 ∷ [];
  registers = six 11 12 13 14 15 16 ∷ [];
  programs = program ∷ [];
  condition = None;
}

-- what comes of a choice of this program's core that is made after these, with buffers of this depth
abbrev pub comes_of : List Instr → ℕ → List Choice → Choice → Effect
comes_of program depth before choice = effect_of (alone program) depth (run (alone program) depth before).state choice

-- the registers at the beginning
abbrev pub first : List ℕ
first = six 11 12 13 14 15 16

-- MOV [x],$7 ; MOV [x],$8 ; MOV [y],$9
abbrev pub three_stores : List Instr
three_stores = StoreImm loc_x 7 ∷ StoreImm loc_x 8 ∷ StoreImm loc_y 9 ∷ []

-- what is pending after the first two of them, 0s 0s
abbrev pub two_pending : List Entry
two_pending = memory_action 0 0 W loc_x 7 ∷ memory_action 0 1 W loc_x 8 ∷ []

-- MOV ECX,$7, and MOV ECX,EDX
abbrev pub moves : List Instr
moves = SetImm Ecx 7 ∷ SetReg Ecx Edx ∷ []

-- MOV [x],EDX and then MFENCE, XCHG [x],EBX or LOCK XADD [x],EBX
abbrev pub store_and : Instr → List Instr
store_and last = StoreReg loc_x Edx ∷ last ∷ []

-- the store is pending, and the core is at the last instruction
abbrev pub store_waits : CoreState
store_waits = core_at 1 first (memory_action 0 0 W loc_x 14 ∷ [])

-- 0s, and 0s 0d
abbrev pub stored : List Choice
stored = step 0 ∷ []

-- at depth 1 MOV [x],$7 ; MOV [y],$8 ; MFENCE ; XCHG [x],EAX ; MOV [x],EBX ; LOCK XADD [y],EBX, and
-- 0d 0s 0s 0d 0s 0s 0d 0s 0s 0s 0s 0d 0s: four of these stall
abbrev pub stalling : List Instr
stalling = StoreImm loc_x 7 ∷ StoreImm loc_y 8 ∷ Fence ∷ Xchg loc_x Eax ∷ StoreReg loc_x Ebx ∷ Xadd loc_y Ebx ∷ []

abbrev pub stalling_choices : List Choice
stalling_choices =
    drain 0 ∷ step 0 ∷ step 0 ∷ drain 0 ∷ step 0 ∷ step 0 ∷ drain 0 ∷ step 0 ∷ step 0 ∷ step 0 ∷ step 0 ∷ drain 0 ∷ step 0 ∷ []
