-- Orders that TSO doesn't allow, each spoiled for one part of what makes an execution: so none of these parts could be left
-- out. (Primer, chapter 4.)
use Rattle.std.specs.Prelude.{List, [], ◌∷◌}
use Rattle.tso_terms.specs.Thread.{entry}
use Rattle.tso_terms.specs.Examples.{loc_x, loc_y}
use Rattle.basic_laws.specs.Types.{Entry, R, W}

-- ---- orders that TSO doesn't allow, one for each part of an execution

-- store buffering, not whole: the last store is missing
abbrev pub short_order : List Entry
short_order = entry 0 1 R loc_y 0 ∷ (entry 1 1 R loc_x 0 ∷ (entry 0 0 W loc_x 1 ∷ []))

-- n6, program order broken: the two stores of one core are turned round
abbrev pub turned_order : List Entry
turned_order = entry 0 1 R loc_x 1 ∷ (entry 0 2 R loc_y 0 ∷ (entry 1 1 W loc_x 2 ∷ (entry 1 0 W loc_y 2 ∷ (entry 0 0 W loc_x 1 ∷ []))))

-- store buffering, a wrong value: the first load returns what nobody has written before it
abbrev pub wrong_order : List Entry
wrong_order = entry 0 1 R loc_y 1 ∷ (entry 1 1 R loc_x 0 ∷ (entry 0 0 W loc_x 1 ∷ (entry 1 0 W loc_y 1 ∷ [])))
