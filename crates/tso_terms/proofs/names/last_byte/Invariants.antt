use Rattle.std.proofs.Common.{◌≡◌, drop}
use Rattle.tso_terms.specs.Names as words
use Rattle.tso_terms.proofs.names.last_byte.Given as goal

-- the last byte of the whole is that of what is left, after the last one so far
abbrev pub invariant-loop-byte : goal.invariant-loop-byte
invariant-loop-byte l = words.last_byte l.first l.rest ≡ words.last_byte l.last (drop l.byte-index l.rest)
