-- Rounds of choices, in which each core has its turn to step and to drain: a fair schedule, under which no test goes on for
-- ever.
use Rattle.std.specs.Prelude.{ℕ, ◌<◌, ◌≡◌, List, [], ◌∷◌, ◌++◌, ◌⊎◌, zero, suc}
use Rattle.tso_terms.specs.FlatMachine.{step, drain}
use Rattle.tso_terms.specs.declared.choice.Choice.{Choice}

abbrev pub Among : Choice → List Choice → Type 0
Among a [] = ⊥
Among a (c ∷ cs) = (a ≡ c) ⊎ Among a cs

-- each core's step and drain is in the list at least once
abbrev pub IsRound : ℕ → List Choice → Type 0
IsRound cores cs = (k : ℕ) → k < cores → Among (step k) cs × Among (drain k) cs

-- the list can be cut into so many rounds, one after the other, and a rest
abbrev pub CanBeCutIntoRounds : ℕ → ℕ → List Choice → Type 0
CanBeCutIntoRounds cores zero cs = Unit {0}
CanBeCutIntoRounds cores (suc n) cs =
    (round : List Choice) × (rest : List Choice) × (cs ≡ round ++ rest) × IsRound cores round × CanBeCutIntoRounds cores n rest
