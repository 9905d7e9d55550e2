-- Whether an order keeps all of program order, entry by entry.
use Rattle.std.specs.Prelude.{◌&&◌, Bool, true, not, List, [], ◌∷◌}
use Rattle.std.specs.List.{list_any}
use Rattle.tso_terms.specs.ProgramOrder.{is_before}
use Rattle.tso_terms.specs.declared.execution.Entry.{Entry}

abbrev pub is_preceded_by : Entry → List Entry → Bool
is_preceded_by x later = list_any (λ y. is_before y x) later

abbrev pub keeps : List Entry → Bool
keeps [] = true
keeps (x ∷ xs) = not (is_preceded_by x xs) && keeps xs
