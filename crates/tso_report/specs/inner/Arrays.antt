-- A JSON array in the making.
use Rattle.std.specs.Prelude.{◌≡◌, List, ◌++◌, map, IfOk}
use Rattle.serde_json.specs.Data.{Data}
use Rattle.serde_json.specs.View.{view}
use Rattle.tso_report.specs.declared.arrays.Array.{Array}

-- with these items still to come it is to have all of these, unless memory was refused for one of them
abbrev pub IsBegun : Array → List Data → List Data → Type 0
IsBegun a rest all = IfOk a.items (λ vs. map view vs.items ++ rest ≡ all)
