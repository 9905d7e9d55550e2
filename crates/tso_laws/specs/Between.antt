-- What is committed between the two parts of a locked instruction: entries of other cores, and no part of another locked
-- instruction; so the two can be put side by side in the order. (Primer, chapter 4, for the axiom; chapter 7, for the bus.)
use Rattle.std.specs.Prelude.{◌≡◌, ◌≢◌, List, [], ◌∷◌, ◌⊎◌}
use Rattle.tso_terms.specs.ProgramOrder.{IsStorePart}
use Rattle.tso_terms.specs.SplitMachine.{Holder, HeldBetween}
use Rattle.basic_laws.specs.Types.{Entry, LR, LW}

-- an entry of another core than x's, and no part of a locked instruction
pub record IsApart (x e : Entry) : Type 0 where
  pub core : e.core.0 ≢ x.core.0
  pub no_load_part : e.kind ≢ LR
  pub no_store_part : e.kind ≢ LW

-- after the load part x such entries come, and then its store part; or it still waits for that, and holds the bus
abbrev pub IsAnswered : Entry → List Entry → Holder → Type 0
IsAnswered x [] holder = holder ≡ HeldBetween x
IsAnswered x (e ∷ es) holder = IsStorePart x e ⊎ (IsApart x e × IsAnswered x es holder)

-- this is so after each load part
abbrev pub ArePaired : List Entry → Holder → Type 0
ArePaired [] holder = Unit {0}
ArePaired (e ∷ es) holder = (e.kind ≡ LR → IsAnswered e es holder) × ArePaired es holder
