-- Texts and the tests that they spell.
use Rattle.std.specs.Prelude.{ℕ, true, List, [], ◌∷◌, ◌++◌, codes, Some, None}
use Rattle.worked_examples.specs.Vocabulary.{AndClaim, Litmus, LocClaim, NotClaim, OrClaim, RegClaim, TruthClaim}
use Rattle.basic_laws.specs.Types.{Exists, StoreImm, Load, Fence, Xadd, Eax, Ebx, Ecx, Edx, Esi, Edi, Number, Held, Add, Subtract, And, Or, Xor}
use Rattle.tso_terms.specs.declared.instruction.Instr.TheVariants.{CompareExchange, LockedCombine, LockedNegate, Combine, Negate, Swap, Nop}
use Rattle.worked_examples.specs.Written.{loc_x, loc_y, loc_z, six}

-- each section of a test, with comments, an empty item and empty cells
abbrev pub whole_text : List ℕ
whole_text =
    codes "(* first *) X86 two cores\r\n\"PodWR Fre\"\nCom=Fr (* Rf\n"
    ++ (codes "{ x=1; ; 1:ebx=007; [y]=3 }\n"
    ++ (codes " P0         | P1                ;\n"
    ++ (codes " MOV [z],$5 | mov eax,[y]       ;\n"
    ++ (codes " MFENCE     | (* none *)        ;\n"
    ++ (codes "            | lock xadd [x],ebx ;\n"
    ++ (codes "locations [ x; 1:eax; ]\n"
    ++ codes "exists (1:EAX=3 /\\ ~z=0 \\/ true)\n"))))))

abbrev pub whole_test : Litmus
whole_test = record {
  name = codes "two cores";
  locations = codes "x" ∷ codes "y" ∷ codes "z" ∷ [];
  words = 1 ∷ 3 ∷ 0 ∷ [];
  registers = six 0 0 0 0 0 0 ∷ six 0 7 0 0 0 0 ∷ [];
  programs = (StoreImm loc_z 5 ∷ Fence ∷ []) ∷ (Load Eax loc_y ∷ Xadd loc_x Ebx ∷ []) ∷ [];
  condition = Some (record {
    quantifier = Exists;
    claim = OrClaim (AndClaim (RegClaim 1 Eax 3) (NotClaim (LocClaim 2 0))) (TruthClaim true);
  });
}

-- the shortest text with a core
abbrev pub least_text : List ℕ
least_text = codes "X86 T\n{}P0;"

abbrev pub least_test : Litmus
least_test = record { name = codes "T"; locations = []; words = []; registers = six 0 0 0 0 0 0 ∷ []; programs = [] ∷ []; condition = None }

-- the thread of all eight instructions
abbrev pub eight_text : List ℕ
eight_text =
    codes "X86 eight\n"
    ++ (codes "{ x=3; y=4; z=5;\n"
    ++ (codes "  0:EAX=1;  0:EBX=2;  0:ECX=7;  0:EDX=8;  0:ESI=9;  0:EDI=10;\n"
    ++ (codes "  1:EAX=11; 1:EBX=12; 1:ECX=13; 1:EDX=14; 1:ESI=15; 1:EDI=16; }\n"
    ++ (codes " P0         | P1                ;\n"
    ++ (codes " MOV [z],$6 | MOV [x],$21       ;\n"
    ++ (codes "            | MOV [y],EBX       ;\n"
    ++ (codes "            | MOV ECX,[z]       ;\n"
    ++ (codes "            | MOV EDX,$22       ;\n"
    ++ (codes "            | MOV ESI,EDI       ;\n"
    ++ (codes "            | MFENCE            ;\n"
    ++ (codes "            | XCHG [x],EAX      ;\n"
    ++ codes "            | LOCK XADD [y],EDI ;\n")))))))))))

-- The larger set: numbers below zero and in hexadecimal, a locked instruction and one on registers for each operator, and for each
-- mnemonic with one operand.
abbrev pub larger_text : List ℕ
larger_text =
    codes "X86 larger\n"
    ++ (codes "{ x=0x1F; y=-1; 0:EAX=0XfF; }\n"
    ++ (codes "P0                   | P1           ;\n"
    ++ (codes "LOCK CMPXCHG [x],EBX | XCHG EAX,EBX ;\n"
    ++ (codes "LOCK ADD [y],$-2     | SUB ECX,$0x7 ;\n"
    ++ (codes "LOCK XOR [z],EDX     | OR EDX,ESI   ;\n"
    ++ (codes "lock and [x],9       | NEG ESI      ;\n"
    ++ (codes "LOCK NEG [x]         | DEC EDI      ;\n"
    ++ (codes "LOCK INC [y]         | not eax      ;\n"
    ++ (codes "MOV [z],-3           | PAUSE        ;\n"
    ++ codes "exists 1:EAX=-1\n")))))))))

abbrev pub larger_test : Litmus
larger_test = record {
  name = codes "larger";
  locations = codes "x" ∷ codes "y" ∷ codes "z" ∷ [];
  words = 31 ∷ 4294967295 ∷ 0 ∷ [];
  registers = six 255 0 0 0 0 0 ∷ six 0 0 0 0 0 0 ∷ [];
  programs =
      (CompareExchange loc_x Ebx
      ∷ LockedCombine loc_y Add (Number 4294967294)
      ∷ LockedCombine loc_z Xor (Held Edx)
      ∷ LockedCombine loc_x And (Number 9)
      ∷ LockedNegate loc_x
      ∷ LockedCombine loc_y Add (Number 1)
      ∷ StoreImm loc_z 4294967293
      ∷ [])
      ∷ (Swap Eax Ebx
      ∷ Combine Ecx Subtract (Number 7)
      ∷ Combine Edx Or (Held Esi)
      ∷ Negate Esi
      ∷ Combine Edi Subtract (Number 1)
      ∷ Combine Eax Xor (Number 4294967295)
      ∷ Nop
      ∷ [])
      ∷ [];
  condition = Some (record { quantifier = Exists; claim = RegClaim 1 Eax 4294967295 });
}
