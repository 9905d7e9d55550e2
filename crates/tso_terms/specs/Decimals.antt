-- The numbers that digits say. (Base ten, as everyone writes it.)
use Rattle.std.specs.Prelude.{ℕ, ◌+◌, ◌-◌, ◌*◌, List, [], ◌∷◌}

-- the number that digits say in base ten where they follow those of n
unfoldable pub decimal_from : ℕ → List ℕ → ℕ
decimal_from n [] = n
decimal_from n (digit ∷ digits) = decimal_from (n * 10 + (digit - 48)) digits

-- the number that digits say in base ten
abbrev pub decimal_value : List ℕ → ℕ
decimal_value digits = decimal_from 0 digits
