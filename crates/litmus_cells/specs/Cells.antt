-- A cell of a row: its instruction, its location's number, and the first fault in it.
use Rattle.std.specs.Prelude.{ℕ, List, [], ◌∷◌, ◌++◌, count_by, Result, Ok, Err, nat_lt, ◌==◌, if◌then◌else◌}
use Rattle.basic_laws.specs.Types.{Instr, Loc, StoreImm, StoreReg, Load, SetImm, SetReg, Fence, Xchg, Xadd}
use Rattle.tso_terms.specs.Limits.{most_instructions}
use Rattle.litmus_tokens.specs.Pieces.{Piece}
use Rattle.litmus_tokens.specs.declared.fault.Why.TheVariants.{BadInstruction, TooLarge}
use Rattle.litmus_tokens.specs.declared.fault.Fault.{Fault}
use Rattle.litmus_cells.specs.declared.cell.CoreInstr.{CoreInstr}
use Rattle.litmus_tokens.specs.Faults.{◌>>=◌, or_fault}
use Rattle.litmus_tokens.specs.Locations.{located}
use Rattle.litmus_tokens.specs.Numbers.{word_at}
use Rattle.litmus_tokens.specs.Forms.{spelled_in}
use Rattle.litmus_tokens.specs.Places.{fault}
use Rattle.litmus_tokens.specs.Shapes.{Shape, store_imm, store_reg, load, set_imm, set_reg, fence, xchg, xadd, compare_exchange}
use Rattle.litmus_tokens.specs.Shapes.{locked_constant, locked_register, locked_negate, combine_constant, combine_register, negate, swap}
use Rattle.litmus_tokens.specs.Shapes.{nothing}
use Rattle.tso_terms.specs.declared.instruction.Instr.TheVariants.{CompareExchange, LockedCombine, LockedNegate, Combine, Negate, Swap, Nop}
use Rattle.basic_laws.specs.Types.{Number, Held}
use Rattle.litmus_tokens.specs.declared.instructions.Instructions.{Instructions}

-- the instruction of a location, and the names with the location's
abbrev pub at_location : ℕ → List (List ℕ) → List ℕ → (Loc → Instr) → Result (Instr × List (List ℕ)) Fault
at_location remaining names x instr = located remaining names x >>= λ loc. Ok (instr loc.0, loc.1)

-- the instruction of a shape, judged for its number and then for its location, and the names with its location's
unfoldable pub instr_of : ℕ → List (List ℕ) → Shape → Result (Instr × List (List ℕ)) Fault
instr_of remaining names (store_imm x v) = word_at remaining v >>= λ value. at_location remaining names x (λ loc. StoreImm loc value)
instr_of remaining names (store_reg x reg) = at_location remaining names x (λ loc. StoreReg loc reg)
instr_of remaining names (load reg x) = at_location remaining names x (λ loc. Load reg loc)
instr_of remaining names (set_imm reg v) = word_at remaining v >>= λ value. Ok (SetImm reg value, names)
instr_of remaining names (set_reg reg other) = Ok (SetReg reg other, names)
instr_of remaining names fence = Ok (Fence, names)
instr_of remaining names (xchg x reg) = at_location remaining names x (λ loc. Xchg loc reg)
instr_of remaining names (xadd x reg) = at_location remaining names x (λ loc. Xadd loc reg)
instr_of remaining names (compare_exchange x reg) = at_location remaining names x (λ loc. CompareExchange loc reg)
instr_of remaining names (locked_constant operator x v) =
    word_at remaining v >>= λ value. at_location remaining names x (λ loc. LockedCombine loc operator (Number value))
instr_of remaining names (locked_register operator x reg) = at_location remaining names x (λ loc. LockedCombine loc operator (Held reg))
instr_of remaining names (locked_negate x) = at_location remaining names x (λ loc. LockedNegate loc)
instr_of remaining names (combine_constant operator reg v) = word_at remaining v >>= λ value. Ok (Combine reg operator (Number value), names)
instr_of remaining names (combine_register operator reg other) = Ok (Combine reg operator (Held other), names)
instr_of remaining names (negate reg) = Ok (Negate reg, names)
instr_of remaining names (swap reg other) = Ok (Swap reg other, names)
instr_of remaining names nothing = Ok (Nop, names)

abbrev pub of_core : ℕ → Instr → CoreInstr
of_core core instr = record { core = core; instr = instr }

-- how many instructions this core has
abbrev pub count_of : ℕ → List CoreInstr → ℕ
count_of core instrs = count_by (λ i. i.core == core) instrs

-- What has been read of the rows: all instructions in their order, and the names of the locations so far. An empty
-- cell adds nothing. Any other is judged for its form, its number, its location, and last for the room of its core.
unfoldable pub cell_in : Instructions → ℕ → List CoreInstr → List (List ℕ) → List Piece → Result (List CoreInstr × List (List ℕ)) Fault
cell_in set core instrs names [] = Ok (instrs, names)
cell_in set core instrs names (p ∷ ps) = do
  shape ← or_fault (spelled_in set (p ∷ ps)) (fault BadInstruction p.remaining)
  instr ← instr_of p.remaining names shape
  if nat_lt (count_of core instrs) most_instructions then Ok (instrs ++ of_core core instr.0 ∷ [], instr.1) else Err (fault TooLarge p.remaining)
