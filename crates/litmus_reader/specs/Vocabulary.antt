-- The words of the crates below that the definitions of this crate use, in one place: each file takes its own from here.
pub use Rattle.tso_terms.specs.Condition.{AndClaim, Claim, claim_of, Condition, LocClaim, NotClaim, OrClaim, RegClaim, TruthClaim}
pub use Rattle.tso_terms.specs.Limits.{longest_test_name, most_atoms, most_cores, most_instructions, most_locations, most_open}
pub use Rattle.tso_terms.specs.Litmus.{Litmus}
pub use Rattle.tso_terms.specs.Names.{is_location_name, is_printable, is_test_name}
pub use Rattle.tso_terms.specs.Registers.{index_of, register_named, same_letters}
pub use Rattle.tso_terms.specs.Thread.{with_value}
pub use Rattle.basic_laws.specs.Types.{Cond, Quantifier, Exists, Forall, NotExists, Instr, Reg}
pub use Rattle.tso_terms.specs.Decimals.{decimal_value}
pub use Rattle.litmus_tokens.specs.declared.instructions.Instructions.{Instructions}
pub use Rattle.litmus_tokens.specs.declared.instructions.Instructions.TheVariants.{All, Basic}
pub use Rattle.litmus_tokens.specs.Front.{is_symbol, is_symbol_term, name_at, number_at, numeral_at, symbol_at}
pub use Rattle.litmus_tokens.specs.Gap.{gap_end}
pub use Rattle.litmus_tokens.specs.Line.{line_of}
pub use Rattle.litmus_tokens.specs.Pieces.{Piece, pieces_of}
pub use Rattle.litmus_tokens.specs.Terms.{symbol, Term}
pub use Rattle.litmus_tokens.specs.declared.token.Stop.{Stop}
pub use Rattle.litmus_tokens.specs.declared.token.Stop.TheVariants.{End}
pub use Rattle.litmus_tokens.specs.declared.token.Symbol.{Symbol}
pub use Rattle.litmus_tokens.specs.declared.token.Symbol.TheVariants.{And, Bar, CloseCurly, CloseRound, CloseSquare, Colon, Comma, Dollar}
pub use Rattle.litmus_tokens.specs.declared.token.Symbol.TheVariants.{Equals, Minus, OpenCurly, OpenRound, OpenSquare, Or, Semicolon, Tilde}
pub use Rattle.litmus_tokens.specs.declared.token.Token.{Token}
pub use Rattle.litmus_tokens.specs.inner.Pieces.{pieces}
pub use Rattle.litmus_tokens.specs.Faults.{or_fault, there, ◌>>=◌}
pub use Rattle.litmus_tokens.specs.GrammarNames.{location, number_of, numbered}
pub use Rattle.litmus_tokens.specs.Numbers.{hexadecimal_value, negative, word_at}
pub use Rattle.litmus_tokens.specs.Places.{fault}
pub use Rattle.litmus_tokens.specs.Shapes.{combine_constant, combine_register, compare_exchange, fence, load, locked_constant}
pub use Rattle.litmus_tokens.specs.Shapes.{locked_negate, locked_register, negate, nothing, set_imm, set_reg, Shape, store_imm, store_reg}
pub use Rattle.litmus_tokens.specs.Shapes.{swap, xadd, xchg}
pub use Rattle.litmus_cells.specs.declared.cell.CoreInstr.{CoreInstr}
pub use Rattle.litmus_tokens.specs.declared.fault.Fault.{Fault}
pub use Rattle.litmus_tokens.specs.declared.fault.Why.{Why}
pub use Rattle.litmus_tokens.specs.declared.fault.Why.TheVariants.{BadCondition, BadHeaderRow, BadInit, BadToken, NoHeader, NoSuchCore}
pub use Rattle.litmus_tokens.specs.declared.fault.Why.TheVariants.{TooLarge, Trailing, TwiceInit, Unclosed, WrongCells}
