use Rattle.std.proofs.Common.{◌≡◌, drop, map, string_bytes}
use Rattle.tso_terms.specs.Litmus as litmus
use Rattle.tso_terms.proofs.validity.are_distinct.Given as goal

abbrev pub invariant-loop-at : goal.invariant-loop-at
invariant-loop-at l =
    litmus.are_distinct (map string_bytes l.locations) ≡ litmus.are_distinct (map string_bytes (drop l.at l.locations))
