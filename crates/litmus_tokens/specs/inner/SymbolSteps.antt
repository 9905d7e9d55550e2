-- A symbol by its first byte and its second, as the lexer looks for it: no symbol of two bytes begins with one of a single
-- byte, so it doesn't matter which is looked for first.
use Rattle.std.specs.Prelude.{ℕ, List, [], ◌∷◌, Option, Some, None, ◌==◌, ◌&&◌, if◌then◌else◌}
use Rattle.litmus_tokens.specs.declared.token.Symbol.{Symbol}
use Rattle.litmus_tokens.specs.declared.token.Symbol.TheVariants.{Equals, Semicolon, Colon, OpenSquare, CloseSquare, OpenCurly, CloseCurly}
use Rattle.litmus_tokens.specs.declared.token.Symbol.TheVariants.{Bar, Comma, Dollar, Tilde, OpenRound, CloseRound, And, Or}

-- a symbol of one byte
unfoldable pub single : ℕ → Option Symbol
single b =
    if b == 61 then Some Equals
    else if b == 59 then Some Semicolon
    else if b == 58 then Some Colon
    else if b == 91 then Some OpenSquare
    else if b == 93 then Some CloseSquare
    else if b == 123 then Some OpenCurly
    else if b == 125 then Some CloseCurly
    else if b == 124 then Some Bar
    else if b == 44 then Some Comma
    else if b == 36 then Some Dollar
    else if b == 126 then Some Tilde
    else if b == 40 then Some OpenRound
    else if b == 41 then Some CloseRound
    else None

-- the two symbols of two bytes, from the first byte on: `/\` and `\/`
unfoldable pub wedge_at : ℕ → List ℕ → Option (Symbol × List ℕ)
wedge_at b [] = None
wedge_at b (c ∷ cs) = if (b == 47) && (c == 92) then Some (And, cs) else if (b == 92) && (c == 47) then Some (Or, cs) else None

abbrev pub single_or : ℕ → List ℕ → Option Symbol → Option (Symbol × List ℕ)
single_or b bs (Some s) = Some (s, bs)
single_or b bs None = wedge_at b bs
