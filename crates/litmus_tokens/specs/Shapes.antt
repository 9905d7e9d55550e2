-- Instructions as they are written.
use Rattle.std.specs.Prelude.{ℕ, List}
use Rattle.tso_terms.specs.declared.register.Reg.{Reg}
use Rattle.tso_terms.specs.declared.action.Operator.{Operator}

-- an instruction with the name of its location; a number of any size
pub data Shape : Type 0 where
  store_imm : (name : List ℕ) → (value : ℕ) → Shape
  store_reg xchg xadd : (name : List ℕ) → (reg : Reg) → Shape
  load : (reg : Reg) → (name : List ℕ) → Shape
  set_imm : (reg : Reg) → (value : ℕ) → Shape
  set_reg : (reg other : Reg) → Shape
  fence : Shape
  compare_exchange : (name : List ℕ) → (reg : Reg) → Shape
  locked_constant : (operator : Operator) → (name : List ℕ) → (value : ℕ) → Shape
  locked_register : (operator : Operator) → (name : List ℕ) → (reg : Reg) → Shape
  locked_negate : (name : List ℕ) → Shape
  combine_constant : (operator : Operator) → (reg : Reg) → (value : ℕ) → Shape
  combine_register : (operator : Operator) → (reg other : Reg) → Shape
  negate : (reg : Reg) → Shape
  swap : (reg other : Reg) → Shape
  nothing : Shape
