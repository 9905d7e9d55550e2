-- Choices that come one after the other: the next one, and those that come after it, be they listed or drawn from a seed.
use Rattle.std.specs.Prelude.{◌≡◌, List, [], ◌∷◌, Option, Some, None}
use Rattle.tso_terms.specs.declared.choice.Choice.{Choice}

-- the first of the choices that were to come, if there was one, and the choices that are to come then
abbrev pub IsNext : List Choice → Option Choice → List Choice → Type 0
IsNext before None after = (before ≡ []) × (after ≡ [])
IsNext before (Some choice) after = before ≡ choice ∷ after
