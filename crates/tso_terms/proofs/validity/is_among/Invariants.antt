use Rattle.std.proofs.Common.{◌≡◌, drop, map, string_bytes}
use Rattle.tso_terms.specs.Names as names
use Rattle.tso_terms.proofs.validity.is_among.Given as goal

abbrev pub invariant-loop-other : goal.invariant-loop-other
invariant-loop-other l =
    names.is_among l.name (map string_bytes l.locations) ≡ names.is_among l.name (map string_bytes (drop l.other-index l.locations))
