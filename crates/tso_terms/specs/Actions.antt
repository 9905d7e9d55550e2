-- What an instruction does: five cases, by which threads, machines and laws go.
-- (Intel's manual: MOV, MFENCE, XCHG and LOCK XADD.)
use Rattle.std.specs.Prelude.{Option, Some, None}
use Rattle.tso_terms.specs.declared.instruction.Loc.{Loc}
use Rattle.tso_terms.specs.declared.instruction.Instr.{Instr}
use Rattle.tso_terms.specs.declared.instruction.Instr.TheVariants as instr
use Rattle.tso_terms.specs.declared.action.Operand.TheVariants.{Number, Held}
use Rattle.tso_terms.specs.declared.register.Reg.TheVariants.{Eax}
use Rattle.tso_terms.specs.declared.action.Operator.TheVariants.{Add}
use Rattle.tso_terms.specs.declared.action.Update.TheVariants.{Replace, Combine, Negate, CompareExchange}
use Rattle.tso_terms.specs.declared.action.Change.TheVariants.{Keep, Set, Swap}
use Rattle.tso_terms.specs.declared.action.Action.{Action}
use Rattle.tso_terms.specs.declared.action.Action.TheVariants.{Store, Load, Move, Fence, Lock}

-- what each instruction does
abbrev pub action_of : Instr → Action
action_of (instr.StoreImm loc value) = Store loc (Number value)
action_of (instr.StoreReg loc reg) = Store loc (Held reg)
action_of (instr.Load reg loc) = Load reg loc
action_of (instr.SetImm reg value) = Move (Set reg (Replace (Number value)))
action_of (instr.SetReg reg other) = Move (Set reg (Replace (Held other)))
action_of instr.Fence = Fence
action_of (instr.Xchg loc reg) = Lock loc (Some reg) (Replace (Held reg))
action_of (instr.Xadd loc reg) = Lock loc (Some reg) (Combine Add (Held reg))
action_of (instr.CompareExchange loc reg) = Lock loc (Some Eax) (CompareExchange reg)
action_of (instr.LockedCombine loc operator operand) = Lock loc None (Combine operator operand)
action_of (instr.LockedNegate loc) = Lock loc None Negate
action_of (instr.Combine reg operator operand) = Move (Set reg (Combine operator operand))
action_of (instr.Negate reg) = Move (Set reg Negate)
action_of (instr.Swap reg other) = Move (Swap reg other)
action_of instr.Nop = Move Keep

-- the location that an action reads or writes, if it does
abbrev pub location_of : Action → Option Loc
location_of (Store loc operand) = Some loc
location_of (Load reg loc) = Some loc
location_of (Move change) = None
location_of Fence = None
location_of (Lock loc target update) = Some loc
