-- The programs of a test as texts: each instruction as a cell of a test's table spells it. (This project's profile.)
use Rattle.std.specs.Prelude.{ℕ, List, [], ◌++◌, map, slice_index_or, codes}
use Rattle.std.specs.Fmt.{decimal}
use Rattle.basic_laws.specs.Types.{Operand, Number, Held, Operator, Add, Subtract, And, Or, Xor}
use Rattle.tso_terms.specs.declared.instruction.Instr.TheVariants.{CompareExchange, LockedCombine, LockedNegate, Combine, Negate, Swap, Nop}
use Rattle.trace_report.specs.Vocabulary.{array, Data, Fence, Instr, items_of, Litmus, Load, Loc, name_of, SetImm, SetReg, StoreImm, StoreReg, Xadd, Xchg}
use Rattle.trace_report.specs.JsonValues.{array_of_texts}

abbrev pub location_name : Litmus → Loc → List ℕ
location_name t loc = slice_index_or t.locations loc.0 []

abbrev pub operator_name : Operator → List ℕ
operator_name Add = codes "ADD"
operator_name Subtract = codes "SUB"
operator_name And = codes "AND"
operator_name Or = codes "OR"
operator_name Xor = codes "XOR"

abbrev pub operand_text : Operand → List ℕ
operand_text (Number value) = codes "$" ++ decimal value
operand_text (Held reg) = name_of reg

-- an instruction: `MOV [x],$1`, `MOV [x],EAX`, `MOV EAX,[x]`, `MOV EAX,$1`, `MOV EAX,EBX`, `MFENCE`, `XCHG [x],EAX` or
-- `LOCK XADD [x],EAX`; and of the larger set `LOCK CMPXCHG [x],EBX`, `LOCK ADD [x],$1`, `LOCK NEG [x]`, `ADD EAX,$1`, `NEG EAX`,
-- `XCHG EAX,EBX` or `NOP`: INC, DEC and NOT as ADD, SUB and XOR, fences that do nothing as NOP
abbrev pub instruction_text : Litmus → Instr → List ℕ
instruction_text t (StoreImm loc value) = codes "MOV [" ++ (location_name t loc ++ (codes "],$" ++ decimal value))
instruction_text t (StoreReg loc reg) = codes "MOV [" ++ (location_name t loc ++ (codes "]," ++ name_of reg))
instruction_text t (Load reg loc) = codes "MOV " ++ (name_of reg ++ (codes ",[" ++ (location_name t loc ++ codes "]")))
instruction_text t (SetImm reg value) = codes "MOV " ++ (name_of reg ++ (codes ",$" ++ decimal value))
instruction_text t (SetReg reg from) = codes "MOV " ++ (name_of reg ++ (codes "," ++ name_of from))
instruction_text t Fence = codes "MFENCE"
instruction_text t (Xchg loc reg) = codes "XCHG [" ++ (location_name t loc ++ (codes "]," ++ name_of reg))
instruction_text t (Xadd loc reg) = codes "LOCK XADD [" ++ (location_name t loc ++ (codes "]," ++ name_of reg))
instruction_text t (CompareExchange loc reg) = codes "LOCK CMPXCHG [" ++ (location_name t loc ++ (codes "]," ++ name_of reg))
instruction_text t (LockedCombine loc operator operand) =
    codes "LOCK " ++ (operator_name operator ++ (codes " [" ++ (location_name t loc ++ (codes "]," ++ operand_text operand))))
instruction_text t (LockedNegate loc) = codes "LOCK NEG [" ++ (location_name t loc ++ codes "]")
instruction_text t (Combine reg operator operand) =
    operator_name operator ++ (codes " " ++ (name_of reg ++ (codes "," ++ operand_text operand)))
instruction_text t (Negate reg) = codes "NEG " ++ name_of reg
instruction_text t (Swap reg other) = codes "XCHG " ++ (name_of reg ++ (codes "," ++ name_of other))
instruction_text t Nop = codes "NOP"

-- the instructions of a program, in program order
abbrev pub program_value : Litmus → List Instr → Data
program_value t program = array_of_texts (map (instruction_text t) program)

-- those of each core
abbrev pub programs_value : Litmus → Data
programs_value t = array (items_of (map (program_value t) t.programs))
