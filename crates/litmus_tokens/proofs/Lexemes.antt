-- The token at the front of some bytes, by its first byte.
use Rattle.std.proofs.Common.{◌≡◌, ℕ, Bool, ◌<◌, ◌≤◌, true, false, List, [], ◌∷◌, length, take, drop, Option, Some, None, Ok, Err}
use Rattle.std.proofs.Common.{if◌then◌else◌, refl, sym, ◌∙◌, arith}
use Rattle.std.specs.List.{prefix_len, slice_get}
use Rattle.std.specs.Char.{is_ascii_digit, is_ascii_hexdigit}
use Rattle.std.proofs.lemmas.Bool.{lt-ltb, le-ltb}
use Rattle.std.proofs.lemmas.List.{length-drop}
use Rattle.tso_terms.specs.Names.{begins_name, continues_name}
use Rattle.litmus_tokens.specs.declared.instructions.Instructions.{Instructions}
use Rattle.litmus_tokens.specs.declared.token.Stop.TheVariants.{End, BadToken}
use Rattle.litmus_tokens.specs.declared.token.Symbol.{Symbol}
use Rattle.litmus_tokens.specs.declared.token.Symbol.TheVariants.{Minus}
use Rattle.litmus_tokens.specs.Terms.{Term, number, hexadecimal, name, symbol, run_of, number_term, hexadecimal_term, numeral_term}
use Rattle.litmus_tokens.specs.Terms.{begins_hexadecimal, is_hexadecimal, is_minus, name_term, symbol_or_bad, symbol_of, without_zeros}
use Rattle.litmus_tokens.specs.Terms.{term_at}

-- ---- numbers

pub decimal : (bytes front back digits : List ℕ) (n : ℕ) → n ≡ prefix_len is_ascii_digit bytes → front ≡ take n bytes → back ≡ drop n bytes
    → digits ≡ without_zeros front → Ok (number digits, back) ≡ number_term (run_of is_ascii_digit bytes)
decimal bytes front back digits n n-is f g h = rw (h, f, g, n-is) refl

pub sixteens : (bytes past front back : List ℕ) (n : ℕ) → past ≡ drop 2 bytes → n ≡ prefix_len is_ascii_hexdigit past → front ≡ take n past
    → back ≡ drop n past → Ok (hexadecimal front, back) ≡ hexadecimal_term (run_of is_ascii_hexdigit (drop 2 bytes))
sixteens bytes past front back n p n-is f g = rw (f, g, n-is, p) refl

pub sixteens_shorter : (bytes past back : List ℕ) (n : ℕ) → begins_hexadecimal bytes ≡ true → past ≡ drop 2 bytes → back ≡ drop n past
    → length back < length bytes
sixteens_shorter [] past back n h p g = let z : ⊥ = cc in absurd z
sixteens_shorter (x ∷ []) past back n h p g = let z : ⊥ = cc in absurd z
sixteens_shorter (x ∷ y ∷ zs) past back n h p g = rw (g, p) (omega (arith, length-drop n zs))

pub by_base : (set : Instructions) (bytes : List ℕ) (found : Term × List ℕ) (b : Bool) → is_hexadecimal set bytes ≡ b
    → Ok found ≡ (if b then hexadecimal_term (run_of is_ascii_hexdigit (drop 2 bytes)) else number_term (run_of is_ascii_digit bytes))
    → Ok found ≡ numeral_term set bytes
by_base set bytes found b q h = rw q h

-- ---- tokens

-- where there is no byte
pub ended : (set : Instructions) (bytes : List ℕ) → None ≡ slice_get bytes 0 → Err End ≡ term_at set bytes
unfolding term_at
ended set [] e = refl
ended set (b ∷ bs) e = absurd cc

-- where it begins with a digit
by_digit : (set : Instructions) (bytes : List ℕ) (b : ℕ) → Some b ≡ slice_get bytes 0 → is_ascii_digit b ≡ true → term_at set bytes ≡ numeral_term set bytes
unfolding term_at
by_digit set [] b e d = absurd cc
by_digit set (x ∷ xs) b e d = let same : b ≡ x = cc in rw (sym same, d) refl

-- a number
pub numbered : (set : Instructions) (bytes : List ℕ) (found : Term × List ℕ) (b : ℕ) → Some b ≡ slice_get bytes 0 → is_ascii_digit b ≡ true
    → Ok found ≡ numeral_term set bytes → Ok found ≡ term_at set bytes
numbered set bytes found b e d h = h ∙ sym (by_digit set bytes b e d)

-- where it begins as a name does
by_name : (set : Instructions) (bytes : List ℕ) (b : ℕ) → Some b ≡ slice_get bytes 0 → is_ascii_digit b ≡ false → begins_name b ≡ true
    → term_at set bytes ≡ name_term (length bytes) (run_of continues_name bytes)
unfolding term_at
by_name set [] b e d m = absurd cc
by_name set (x ∷ xs) b e d m = let same : b ≡ x = cc in rw (sym same, d, m) refl

-- a name
pub named : (set : Instructions) (bytes front back : List ℕ) (b n : ℕ) → Some b ≡ slice_get bytes 0 → is_ascii_digit b ≡ false → begins_name b ≡ true
    → n ≡ prefix_len continues_name bytes → front ≡ take n bytes → back ≡ drop n bytes → length front ≤ 32 → Ok (name front, back) ≡ term_at set bytes
named set bytes front back b n e d m n-is f g few =
    let short = le-ltb 32 (length (take n bytes)) (rw f at few) in
    rw (f, g) (sym (by_name set bytes b e d m ∙ rw (sym n-is, short) refl))

-- a name that is too long
pub too_long : (set : Instructions) (bytes front : List ℕ) (b n : ℕ) → Some b ≡ slice_get bytes 0 → is_ascii_digit b ≡ false → begins_name b ≡ true
    → n ≡ prefix_len continues_name bytes → front ≡ take n bytes → 32 < length front → Err (BadToken (length bytes)) ≡ term_at set bytes
too_long set bytes front b n e d m n-is f many =
    let long = lt-ltb 32 (length (take n bytes)) (rw f at many) in
    sym (by_name set bytes b e d m ∙ rw (sym n-is, long) refl)

-- a sign
pub signed : (set : Instructions) (bytes past : List ℕ) (b : ℕ) → Some b ≡ slice_get bytes 0 → is_ascii_digit b ≡ false → begins_name b ≡ false
    → is_minus set b ≡ true → past ≡ drop 1 bytes → Ok (symbol Minus, past) ≡ term_at set bytes
unfolding term_at
signed set [] past b e d m n p = absurd cc
signed set (x ∷ xs) past b e d m n p = let same : b ≡ x = cc in rw (p, sym same, d, m, n) refl

-- where it begins with none of these
by_symbol : (set : Instructions) (bytes : List ℕ) (b : ℕ) → Some b ≡ slice_get bytes 0 → is_ascii_digit b ≡ false → begins_name b ≡ false
    → is_minus set b ≡ false → term_at set bytes ≡ symbol_or_bad (length bytes) (symbol_of bytes)
unfolding term_at
by_symbol set [] b e d m n = absurd cc
by_symbol set (x ∷ xs) b e d m n = let same : b ≡ x = cc in rw (sym same, d, m, n) refl

-- a symbol, or what is none
pub symboled : (set : Instructions) (bytes : List ℕ) (b : ℕ) (found : Option (Symbol × List ℕ)) → Some b ≡ slice_get bytes 0 → is_ascii_digit b ≡ false
    → begins_name b ≡ false → is_minus set b ≡ false → found ≡ symbol_of bytes → symbol_or_bad (length bytes) found ≡ term_at set bytes
symboled set bytes b found e d m n is = rw is (sym (by_symbol set bytes b e d m n))

-- a token takes a byte or more
pub after_run : (bytes back : List ℕ) (b n : ℕ) → Some b ≡ slice_get bytes 0 → 0 < n → back ≡ drop n bytes → length back < length bytes
after_run [] back b n e some f = absurd cc
after_run (x ∷ xs) back b n e some f = rw f (omega (arith, some, length-drop n (x ∷ xs)))
