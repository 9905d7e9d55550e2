-- A thread of all eight instructions, each with a register, a location and values of its own.
--   X86 eight
--   { x=3; y=4; z=5;
--     0:EAX=1;  0:EBX=2;  0:ECX=7;  0:EDX=8;  0:ESI=9;  0:EDI=10;
--     1:EAX=11; 1:EBX=12; 1:ECX=13; 1:EDX=14; 1:ESI=15; 1:EDI=16; }
--    P0         | P1                ;
--    MOV [z],$6 | MOV [x],$21       ;
--               | MOV [y],EBX       ;
--               | MOV ECX,[z]       ;
--               | MOV EDX,$22       ;
--               | MOV ESI,EDI       ;
--               | MFENCE            ;
--               | XCHG [x],EAX      ;
--               | LOCK XADD [y],EDI ;
use Rattle.std.specs.Prelude.{ℕ, List, [], ◌∷◌, None, codes}
use Rattle.worked_examples.specs.Vocabulary.{Litmus}
use Rattle.basic_laws.specs.Types.{Eax, Ebx, Ecx, Edx, Esi, Edi, Instr, StoreImm, StoreReg, Load, SetImm, SetReg, Fence, Xchg, Xadd, Entry, R, W, F, LR, LW}
use Rattle.worked_examples.specs.Written.{loc_x, loc_y, loc_z, six, memory_action}

abbrev pub eight_program : List Instr
eight_program =
    StoreImm loc_x 21
    ∷ StoreReg loc_y Ebx
    ∷ Load Ecx loc_z
    ∷ SetImm Edx 22
    ∷ SetReg Esi Edi
    ∷ Fence
    ∷ Xchg loc_x Eax
    ∷ Xadd loc_y Edi
    ∷ []

abbrev pub eight : Litmus
eight = record {
  name = codes "eight";
  locations = codes "x" ∷ codes "y" ∷ codes "z" ∷ [];
  words = 3 ∷ 4 ∷ 5 ∷ [];
  registers = six 1 2 7 8 9 10 ∷ six 11 12 13 14 15 16 ∷ [];
  programs = (StoreImm loc_z 6 ∷ []) ∷ eight_program ∷ [];
  condition = None;
}

-- where the three reads of P1 return 31, 32 and 2^32 - 6, the thread's entries in program order: the addition's sum is
-- 4294967306, and modulo 2^32 it is 10
abbrev pub eight_read : List ℕ
eight_read = 31 ∷ 32 ∷ 4294967290 ∷ []

abbrev pub eight_entries : List Entry
eight_entries =
    memory_action 1 0 W loc_x 21
    ∷ memory_action 1 1 W loc_y 12
    ∷ memory_action 1 2 R loc_z 31
    ∷ memory_action 1 5 F loc_x 0
    ∷ memory_action 1 6 LR loc_x 32
    ∷ memory_action 1 6 LW loc_x 11
    ∷ memory_action 1 7 LR loc_y 4294967290
    ∷ memory_action 1 7 LW loc_y 10
    ∷ []

abbrev pub eight_order : List Entry
eight_order =
    memory_action 0 0 W loc_z 6
    ∷ memory_action 1 2 R loc_z 6
    ∷ memory_action 1 0 W loc_x 21
    ∷ memory_action 1 1 W loc_y 12
    ∷ memory_action 1 5 F loc_x 0
    ∷ memory_action 1 6 LR loc_x 21
    ∷ memory_action 1 6 LW loc_x 11
    ∷ memory_action 1 7 LR loc_y 12
    ∷ memory_action 1 7 LW loc_y 28
    ∷ []

-- what it leaves in the registers of both cores, and in memory
abbrev pub eight_registers : List (List ℕ)
eight_registers = six 1 2 7 8 9 10 ∷ six 21 12 6 22 16 12 ∷ []

abbrev pub eight_memory : List ℕ
eight_memory = 11 ∷ 28 ∷ 6 ∷ []
