-- What the functions that read return: what a reading gives, unless memory ran out.
use Rattle.std.specs.Prelude.{ℕ, List, Result}
use denote.Ref.{Bor}
use Rattle.litmus_tokens.specs.declared.fault.Fault.{Fault}
use Rattle.litmus_tokens.specs.declared.fault.ReadError.{ReadError}
use Rattle.litmus_tokens.specs.Faults.{Gives}
use Rattle.litmus_tokens.specs.Locations.{texts}

-- what is found, and the names of locations with it
abbrev pub GivesNamed : {X Y : Type 0} → (X → Y) → Result X ReadError → List (Bor (List ℕ)) → Result (Y × List (List ℕ)) Fault → Type 0
GivesNamed view result names read = Gives (λ x. (view x, texts names)) result read
