-- Operands of instructions: a register, a number after `$`, or a location in brackets.
use Rattle.litmus_tokens.specs.inner.Numerals.{numeral_of}
use Rattle.litmus_tokens.specs.declared.argument.Argument.{Argument}
use Rattle.litmus_tokens.specs.Arguments.{ArgumentTerm, constant, in_memory, in_register}
use Rattle.litmus_tokens.specs.declared.argument.Argument.TheVariants as code

abbrev pub argument_of : Argument → ArgumentTerm
argument_of (code.Location name) = in_memory name.now
argument_of (code.Register reg) = in_register reg
argument_of (code.Number numeral) = constant (numeral_of numeral)
