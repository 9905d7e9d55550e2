-- Two cores that store to a location each.
use Rattle.std.specs.Prelude.{[], ◌∷◌}
use Rattle.worked_examples.specs.Vocabulary.{Litmus}
use Rattle.tso_terms.specs.declared.instruction.Instr.TheVariants.{StoreImm}
use Rattle.worked_examples.specs.Written.{loc_x, loc_y}
use Rattle.worked_examples.specs.SharedBus.{shared}

-- MOV [x],$7 | MOV [y],$8
abbrev pub two_stores : Litmus
two_stores = shared (StoreImm loc_x 7 ∷ []) (StoreImm loc_y 8 ∷ [])
