-- What `trace` prints of two runs, written out line by line. (docs/TRACE.md.)
use Rattle.std.specs.Prelude.{ℕ, List, [], ◌∷◌, ◌++◌, codes}
use Rattle.worked_examples.specs.Vocabulary.{geometry, Litmus}
use Rattle.basic_laws.specs.Types.{Eax, Ebx, Ecx, StoreImm, Load, SetImm, Fence, Xchg, Atomic, Split, Choice}
use Rattle.multiprocessor.specs.Configuration.{Configuration}
use Rattle.worked_examples.specs.Written.{loc_x, loc_y, step, drain}
use Rattle.worked_examples.specs.SharedBus.{shared}

-- lines with a line feed after each
abbrev pub printed : List (List ℕ) → List ℕ
printed [] = []
printed (line ∷ lines) = line ++ 10 ∷ printed lines

-- ---- on the atomic bus, with room for one line of one word in each cache

--    P0          | P1           ;
--    MOV [x],$7  | MOV EAX,[x]  ;
--    MOV EAX,[x] | XCHG [x],EBX ;
--    MFENCE      | MOV ECX,[y]  ;
--    MOV EBX,$5  | MOV ECX,[y]  ;
abbrev pub handed_on : Litmus
handed_on =
    shared (StoreImm loc_x 7 ∷ Load Eax loc_x ∷ Fence ∷ SetImm Ebx 5 ∷ [])
    (Load Eax loc_x ∷ Xchg loc_x Ebx ∷ Load Ecx loc_y ∷ Load Ecx loc_y ∷ [])

abbrev pub one_line : Configuration
one_line = record { depth = 4; shape = geometry 1 1 1; bus = Atomic }

-- 0s 0s 0s 0d 0s 0s 1s 1s 1s 1s
abbrev pub handed_on_choices : List Choice
handed_on_choices =
    step 0 ∷ step 0 ∷ step 0 ∷ drain 0 ∷ step 0 ∷ step 0 ∷ step 1 ∷ step 1 ∷ step 1 ∷ step 1 ∷ []

abbrev pub handed_on_trace : List (List ℕ)
handed_on_trace =
    codes "Trace"
    ∷ codes "1 0s buffered P0:0 W x=7 P0[x=7]"
    ∷ codes "2 0s committed P0:1 R x=7 forwarded"
    ∷ codes "3 0s stalled Fence"
    ∷ codes "4 0d committed P0:0 W x=7 miss GetM x P0.x I>M P0[]"
    ∷ codes "5 0s committed P0:2 F"
    ∷ codes "6 0s moved EBX=5"
    ∷ codes "7 1s committed P1:0 R x=7 miss GetS x flush P0 P0.x M>S P1.x I>S"
    ∷ codes "8 1s committed P1:1 LR x=7 P1:1 LW x=22 upgrade GetM x P0.x S>I P1.x S>M"
    ∷ codes "9 1s committed P1:2 R y=4 miss GetS y write-back x P1.x M>I P1.y I>S"
    ∷ codes "10 1s committed P1:3 R y=4 hit"
    ∷ codes "Endtrace 10"
    ∷ []

-- ---- on a split bus, with lines of two words

--    P0         | P1          ;
--    MOV [x],$7 | MOV EAX,[y] ;
abbrev pub awaited : Litmus
awaited = shared (StoreImm loc_x 7 ∷ []) (Load Eax loc_y ∷ [])

abbrev pub two_words : Configuration
two_words = record { depth = 4; shape = geometry 1 2 2; bus = Split }

-- 0s 0d 1s 0d 1s 1s
abbrev pub awaited_choices : List Choice
awaited_choices = step 0 ∷ drain 0 ∷ step 1 ∷ drain 0 ∷ step 1 ∷ step 1 ∷ []

abbrev pub awaited_trace : List (List ℕ)
awaited_trace =
    codes "Trace"
    ∷ codes "1 0s buffered P0:0 W x=7 P0[x=7]"
    ∷ codes "2 0d asked GetM x+y P0.x+y I>IM_D"
    ∷ codes "3 1s stalled Bus"
    ∷ codes "4 0d committed P0:0 W x=7 miss P0.x+y IM_D>M P0[]"
    ∷ codes "5 1s asked GetS x+y flush P0 P0.x+y M>S P1.x+y I>IS_D"
    ∷ codes "6 1s committed P1:0 R y=4 miss P1.x+y IS_D>S"
    ∷ codes "Endtrace 6"
    ∷ []
