use Rattle.std.proofs.Common.{◌≡◌, drop}
use Rattle.std.specs.List.{list_all}
use Rattle.tso_terms.specs.Names as words
use Rattle.tso_terms.proofs.names.all_continue.Given as goal

abbrev pub invariant-loop-byte : goal.invariant-loop-byte
invariant-loop-byte l = list_all words.continues_name l.text ≡ list_all words.continues_name (drop l.byte-index l.text)
