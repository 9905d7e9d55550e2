use Rattle.std.proofs.Common.{length, map}
use Rattle.litmus_tokens.specs.Pieces.{pieces_of}
use Rattle.litmus_tokens.specs.inner.Pieces.{piece_of}
use Rattle.litmus_tokens.proofs.Pieces.{goes_on}
use Rattle.litmus_tokens.proofs.lexing.tokens_of.Given as goal

abbrev pub invariant-loop-token : goal.invariant-loop-token
invariant-loop-token l = goes_on l.set (map piece_of l.items.items) l.rest (pieces_of l.set l.bytes)

abbrev pub decreases-loop-token : goal.decreases-loop-token
decreases-loop-token l = length l.rest
