use Rattle.std.proofs.Common.{◌≡◌, drop, map, string_bytes}
use Rattle.std.specs.List.{list_all}
use Rattle.tso_terms.specs.Names as names
use Rattle.tso_terms.proofs.validity.names_fit.Given as goal

abbrev pub invariant-loop-name : goal.invariant-loop-name
invariant-loop-name l =
    list_all names.is_location_name (map string_bytes l.locations) ≡ list_all names.is_location_name (map string_bytes (drop l.name-index l.locations))
