-- The instructions as they are spelled in cells: one form for each, by the operands that it takes.
use Rattle.std.specs.Prelude.{ℕ}
use Rattle.litmus_tokens.specs.declared.form.Form.{Form}
use Rattle.litmus_tokens.specs.declared.form.Constant.{Constant}
use Rattle.litmus_tokens.specs.inner.Numerals.{numeral_of}
use Rattle.litmus_tokens.specs.Shapes.{Shape, store_imm, store_reg, load, set_imm, set_reg, fence, xchg, xadd, compare_exchange}
use Rattle.litmus_tokens.specs.Shapes.{locked_constant, locked_register, locked_negate, combine_constant, combine_register, negate, swap}
use Rattle.litmus_tokens.specs.Shapes.{nothing}
use Rattle.litmus_tokens.specs.declared.form.Constant.TheVariants as number
use Rattle.litmus_tokens.specs.declared.form.Form.TheVariants as code
use Rattle.litmus_tokens.specs.declared.form.Use.TheVariants as uses

abbrev pub constant_of : Constant → ℕ
constant_of (number.Spelled numeral) = numeral_of numeral
constant_of (number.Meant value) = value

abbrev pub shape_of : Form → Shape
shape_of (code.StoreImm name value) = store_imm name.now (constant_of value)
shape_of (code.At uses.Store name reg) = store_reg name.now reg
shape_of (code.At uses.Load name reg) = load reg name.now
shape_of (code.SetImm reg value) = set_imm reg (constant_of value)
shape_of (code.SetReg reg other) = set_reg reg other
shape_of code.Fence = fence
shape_of (code.At uses.Xchg name reg) = xchg name.now reg
shape_of (code.At uses.Xadd name reg) = xadd name.now reg
shape_of (code.At uses.CompareExchange name reg) = compare_exchange name.now reg
shape_of (code.LockedImm operator name value) = locked_constant operator name.now (constant_of value)
shape_of (code.LockedReg operator name reg) = locked_register operator name.now reg
shape_of (code.LockedNegate name) = locked_negate name.now
shape_of (code.CombineImm operator reg value) = combine_constant operator reg (constant_of value)
shape_of (code.CombineReg operator reg other) = combine_register operator reg other
shape_of (code.Negate reg) = negate reg
shape_of (code.Swap reg other) = swap reg other
shape_of code.Nothing = nothing
