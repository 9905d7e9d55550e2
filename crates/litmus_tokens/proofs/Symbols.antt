-- Symbols by their spellings.
use Rattle.std.proofs.Common.{◌≡◌, ℕ, Bool, true, false, List, [], ◌∷◌, length, ◌&&◌, Option, Some, None, nat_eq, eqb, if◌then◌else◌, refl}
use Rattle.std.proofs.Common.{sym, ap, ◌∙◌, inl, inr, arith}
use Rattle.std.specs.Str.{bytes_eq}
use Rattle.std.proofs.lemmas.Bool.{eqb-true, eq-eqb, ne_eqb}
use Rattle.std.proofs.lemmas.Bool.Decides.{nat_tests, same_from_decides, eqb_tells}
use Rattle.std.proofs.lemmas.Slice.Eq.{bytes_eq-Decides}
use Rattle.litmus_tokens.specs.declared.token.Symbol.{Symbol}
use Rattle.litmus_tokens.specs.declared.token.Symbol.TheVariants.{Equals, Semicolon, Colon, OpenSquare, CloseSquare, OpenCurly, CloseCurly}
use Rattle.litmus_tokens.specs.declared.token.Symbol.TheVariants.{Bar, Comma, Dollar, Tilde, OpenRound, CloseRound, And, Or, Minus}
use Rattle.litmus_tokens.specs.Terms.{spelling_of, symbols, symbol_among, symbol_of}
use Rattle.litmus_tokens.specs.inner.SymbolSteps.{single, wedge_at, single_or}

turned : (a b : ℕ) → nat_eq a b ≡ eqb b a
turned a b = grind (arith, nat_tests)

-- one symbol of one byte more
one_more : (b c : ℕ) (bs : List ℕ) (s : Symbol) (others : Option Symbol) (last : Option (Symbol × List ℕ)) → last ≡ single_or b bs others
    → (if nat_eq c b && true then Some (s, bs) else last) ≡ single_or b bs (if eqb b c then Some s else others)
one_more b c bs s others last e = rw (turned c b) (by_test (eqb b c))
  where
    by_test : (t : Bool) → (if t && true then Some (s, bs) else last) ≡ single_or b bs (if t then Some s else others)
    by_test true = refl
    by_test false = e

-- ---- one symbol and another

-- its place among all
abbrev pub code_of : Symbol → ℕ
code_of Equals = 0
code_of Semicolon = 1
code_of Colon = 2
code_of OpenSquare = 3
code_of CloseSquare = 4
code_of OpenCurly = 5
code_of CloseCurly = 6
code_of Bar = 7
code_of Comma = 8
code_of Dollar = 9
code_of Tilde = 10
code_of OpenRound = 11
code_of CloseRound = 12
code_of And = 13
code_of Or = 14
code_of Minus = 15

-- the symbol of a code
abbrev symbol_with : ℕ → Symbol
symbol_with n =
    if eqb n 0 then Equals
    else if eqb n 1 then Semicolon
    else if eqb n 2 then Colon
    else if eqb n 3 then OpenSquare
    else if eqb n 4 then CloseSquare
    else if eqb n 5 then OpenCurly
    else if eqb n 6 then CloseCurly
    else if eqb n 7 then Bar
    else if eqb n 8 then Comma
    else if eqb n 9 then Dollar
    else if eqb n 10 then Tilde
    else if eqb n 11 then OpenRound
    else if eqb n 12 then CloseRound
    else if eqb n 13 then And
    else if eqb n 14 then Or
    else Minus

with_code : (s : Symbol) → symbol_with (code_of s) ≡ s
with_code Equals = refl
with_code Semicolon = refl
with_code Colon = refl
with_code OpenSquare = refl
with_code CloseSquare = refl
with_code OpenCurly = refl
with_code CloseCurly = refl
with_code Bar = refl
with_code Comma = refl
with_code Dollar = refl
with_code Tilde = refl
with_code OpenRound = refl
with_code CloseRound = refl
with_code And = refl
with_code Or = refl
with_code Minus = refl

code_tells : (s t : Symbol) → eqb (code_of s) (code_of t) ≡ true → s ≡ t
code_tells s t h = sym (with_code s) ∙ ap symbol_with (eqb-true _ _ h) ∙ with_code t

-- among all symbols, of both sets
abbrev found_among : List ℕ → Option (Symbol × List ℕ)
found_among bytes = symbol_among (Minus ∷ symbols) bytes

found_again : (s : Symbol) → found_among (spelling_of s) ≡ Some (s, [])
unfolding symbols
found_again Equals = refl
found_again Semicolon = refl
found_again Colon = refl
found_again OpenSquare = refl
found_again CloseSquare = refl
found_again OpenCurly = refl
found_again CloseCurly = refl
found_again Bar = refl
found_again Comma = refl
found_again Dollar = refl
found_again Tilde = refl
found_again OpenRound = refl
found_again CloseRound = refl
found_again And = refl
found_again Or = refl
found_again Minus = refl

abbrev first_or : Symbol → Option (Symbol × List ℕ) → Symbol
first_or s (Some found) = found.0
first_or s None = s

-- no two symbols have one spelling
pub spelling_tells : (s t : Symbol) → spelling_of s ≡ spelling_of t → s ≡ t
spelling_tells s t e = ap (first_or s) (sym (found_again s) ∙ ap found_among e ∙ found_again t)

pub spelled_so : (s : Symbol) → bytes_eq (spelling_of s) (spelling_of s) ≡ true
spelled_so s = (bytes_eq-Decides (spelling_of s) (spelling_of s)).1 refl

pub same_spelling : (s t : Symbol) → eqb (code_of s) (code_of t) ≡ bytes_eq (spelling_of s) (spelling_of t)
same_spelling s t = same_from_decides _ _
    (code_tells s t, λ e. eq-eqb _ _ (ap code_of e))
    (λ h. spelling_tells s t ((bytes_eq-Decides _ _).0 h), λ e. (bytes_eq-Decides _ _).1 (ap spelling_of e))

-- ---- looked for by bytes

and_true : (t : Bool) → (t && true) ≡ t
and_true true = refl
and_true false = refl

abbrev neither : Option (Symbol × List ℕ)
neither = None

last_two : (b : ℕ) (bs : List ℕ) → symbol_among (And ∷ Or ∷ []) (b ∷ bs) ≡ wedge_at b bs
unfolding wedge_at
last_two b [] = by_tests (eqb 47 b) (eqb 92 b)
  where
    by_tests : (t u : Bool) → (if t && false then Some (And, []) else if u && false then Some (Or, []) else neither) ≡ neither
    by_tests true true = refl
    by_tests true false = refl
    by_tests false true = refl
    by_tests false false = refl
last_two b (c ∷ cs) = rw (turned 47 b, turned 92 b, turned 47 c, turned 92 c, and_true (eqb c 92), and_true (eqb c 47)) refl

pub symbol_by_bytes : (b : ℕ) (bs : List ℕ) → symbol_of (b ∷ bs) ≡ single_or b bs (single b)
unfolding symbol_of symbols single
symbol_by_bytes b bs =
    one_more b 61 bs Equals _ _
    (one_more b 59 bs Semicolon _ _
    (one_more b 58 bs Colon _ _
    (one_more b 91 bs OpenSquare _ _
    (one_more b 93 bs CloseSquare _ _
    (one_more b 123 bs OpenCurly _ _
    (one_more b 125 bs CloseCurly _ _
    (one_more b 124 bs Bar _ _
    (one_more b 44 bs Comma _ _
    (one_more b 36 bs Dollar _ _
    (one_more b 126 bs Tilde _ _ (one_more b 40 bs OpenRound _ _ (one_more b 41 bs CloseRound _ _ (last_two b bs)))))))))))))

-- ---- looked for at the front of some bytes

-- the first byte alone decides, or else the first two
pub symbol_looked : (bytes rest : List ℕ) (b : ℕ) (found : Option Symbol) → bytes ≡ b ∷ rest → found ≡ single b → symbol_of bytes ≡ single_or b rest found
symbol_looked bytes rest b found e is = ap symbol_of e ∙ symbol_by_bytes b rest ∙ ap (single_or b rest) (sym is)

-- where there is no byte
pub no_symbol : (bytes : List ℕ) → length bytes ≡ 0 → symbol_of bytes ≡ None
unfolding symbol_of symbols
no_symbol [] none = refl
no_symbol (b ∷ bs) none = absurd (omega arith)

-- where there is no second byte
pub no_wedge : (b : ℕ) (rest : List ℕ) → length rest ≡ 0 → wedge_at b rest ≡ None
unfolding wedge_at
no_wedge b [] none = refl
no_wedge b (c ∷ cs) none = absurd (omega arith)

-- `/\`, and then `\/`
pub wedge_and : (b c : ℕ) (rest past : List ℕ) → rest ≡ c ∷ past → b ≡ 47 → c ≡ 92 → wedge_at b rest ≡ Some (And, past)
unfolding wedge_at
wedge_and b c rest past e f g = rw (e, f, g) refl

pub wedge_or : (b c : ℕ) (rest past : List ℕ) → rest ≡ c ∷ past → b ≡ 92 → c ≡ 47 → wedge_at b rest ≡ Some (Or, past)
unfolding wedge_at
wedge_or b c rest past e f g = rw (e, f, g) refl

-- neither of the two
pub no_wedges : (b c : ℕ) (rest past : List ℕ) → rest ≡ c ∷ past → (b ≡ 47 → c ≡ 92 → ⊥) → (b ≡ 92 → c ≡ 47 → ⊥) → wedge_at b rest ≡ None
unfolding wedge_at
no_wedges b c rest past e no_and no_or = rw (e, apart b c 47 92 no_and, apart b c 92 47 no_or) refl
  where
    apart : (b c m n : ℕ) → (b ≡ m → c ≡ n → ⊥) → (eqb b m && eqb c n) ≡ false
    apart b c m n other = elim (eqb_tells b m) [
      | inl one ↦ rw (one.0, ne_eqb c n (other one.1)) refl
      | inr one ↦ rw one.0 refl
    ]
