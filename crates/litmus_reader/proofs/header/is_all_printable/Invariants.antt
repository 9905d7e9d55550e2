use Rattle.litmus_reader.proofs.Vocabulary.{◌≡◌, drop}
use Rattle.std.specs.List.{list_all}
use Rattle.tso_terms.specs.Names.{is_printable}
use Rattle.litmus_reader.proofs.header.is_all_printable.Given as goal

abbrev pub invariant-loop-byte : goal.invariant-loop-byte
invariant-loop-byte l = list_all is_printable l.bytes ≡ list_all is_printable (drop l.byte-index l.bytes)
