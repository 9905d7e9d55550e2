-- What is there, or else the refusal of a token that doesn't fit.
use Rattle.std.specs.Prelude.{List, Option, Result}
use Rattle.litmus_reader.specs.Vocabulary.{Fault, or_fault, Piece}
use Rattle.litmus_reader.specs.declared.fault.Part.{Part}
use Rattle.litmus_reader.specs.Places.{unfit}

-- what is there, and else the token at the front doesn't fit
abbrev pub or_unfit : {A : Type 0} → Part → List Piece → Option A → Result A Fault
or_unfit part ps found = or_fault found (unfit part ps)
