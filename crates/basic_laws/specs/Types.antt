-- The types of the code and their variants, by one name each: those of `Action` and `Stall` share names with others, and stand apart.
pub use Rattle.tso_terms.specs.declared.action.Action.{Action}
pub use Rattle.tso_terms.specs.declared.action.Operand.{Operand}
pub use Rattle.tso_terms.specs.declared.action.Operand.TheVariants.{Held, Number}
pub use Rattle.tso_terms.specs.declared.action.Update.{Update}
pub use Rattle.tso_terms.specs.declared.action.Update.TheVariants.{CompareExchange, Negate, Replace}
pub use Rattle.tso_terms.specs.declared.action.Change.{Change}
pub use Rattle.tso_terms.specs.declared.action.Change.TheVariants.{Keep, Set, Swap}
pub use Rattle.tso_terms.specs.declared.action.Operator.{Operator}
pub use Rattle.tso_terms.specs.declared.action.Operator.TheVariants.{Add, And, Or, Subtract, Xor}
pub use Rattle.tso_terms.specs.declared.choice.Bus.{Bus}
pub use Rattle.tso_terms.specs.declared.choice.Bus.TheVariants.{Atomic, Split}
pub use Rattle.tso_terms.specs.declared.choice.Choice.{Choice}
pub use Rattle.tso_terms.specs.declared.choice.Choice.TheVariants.{Drain, Step}
pub use Rattle.tso_terms.specs.declared.choice.Outcome.{Outcome}
pub use Rattle.tso_terms.specs.declared.choice.Outcome.TheVariants.{Asked, Buffered, Committed, Moved, Stalled}
pub use Rattle.tso_terms.specs.declared.choice.Stall.{Stall}
pub use Rattle.tso_terms.specs.declared.condition.Cond.{Cond}
pub use Rattle.tso_terms.specs.declared.condition.Prop.{And', LocIs, Not', Or', Prop, RegIs, Truth}
pub use Rattle.tso_terms.specs.declared.condition.Quantifier.{Quantifier}
pub use Rattle.tso_terms.specs.declared.condition.Quantifier.TheVariants.{Exists, Forall, NotExists}
pub use Rattle.tso_terms.specs.declared.execution.Entry.{Entry}
pub use Rattle.tso_terms.specs.declared.execution.Execution.{Execution}
pub use Rattle.tso_terms.specs.declared.execution.Kind.{Kind}
pub use Rattle.tso_terms.specs.declared.execution.Kind.TheVariants.{F, LR, LW, R, W}
pub use Rattle.tso_terms.specs.declared.instruction.Core.{Core}
pub use Rattle.tso_terms.specs.declared.instruction.Instr.{Instr}
pub use Rattle.tso_terms.specs.declared.instruction.Instr.TheVariants.{Fence, Load, SetImm, SetReg, StoreImm, StoreReg, Xadd, Xchg}
pub use Rattle.tso_terms.specs.declared.instruction.Loc.{Loc}
pub use Rattle.tso_terms.specs.declared.litmus.TestParts.{TestParts}
pub use Rattle.tso_terms.specs.declared.out_of_memory.NoMemory.{NoMemory}
pub use Rattle.tso_terms.specs.declared.register.Reg.{Reg}
pub use Rattle.tso_terms.specs.declared.register.Reg.TheVariants.{Eax, Ebx, Ecx, Edi, Edx, Esi}
