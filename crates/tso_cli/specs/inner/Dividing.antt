-- Where a dividing line is looked for: at its signs, where a line begins.
use Rattle.std.specs.Prelude.{ℕ, ◌==◌, codes, Bool, true, List, [], ◌∷◌}

-- whether a line begins after these bytes, where one begins before them or not
unfoldable pub after_bytes : Bool → List ℕ → Bool
after_bytes begins [] = begins
after_bytes begins (c ∷ cs) = after_bytes (c == 10) cs

-- whether a line begins after these first bytes of an input
abbrev pub begins_line : List ℕ → Bool
begins_line front = after_bytes true front

-- what a dividing line begins with
abbrev pub signs : List ℕ
signs = codes "===="
