-- All information lines, one after the other.
use Rattle.litmus_reader.proofs.Vocabulary.{sym, ap, ◌∙◌, ◌≡◌, ℕ, suc, ◌+◌, ◌<◌, true, false, cond, List, ◌∷◌, length, drop, prefix_len}
use Rattle.litmus_reader.proofs.Vocabulary.{None, Result, Ok, Err, refl, arith, gap_end, Fault, from_gap, information_end, begins_initial}
use Rattle.litmus_reader.proofs.Vocabulary.{braces_within, braces_at, continues_key, key_value, key_line_end, first_line}
use Rattle.litmus_reader.proofs.Loops.{After, ends, goes_on}

abbrev left : List ℕ → ℕ
left bytes = suc (length bytes)

-- the total is what the rest gives
abbrev pub BracesAfter : List ℕ → Result (List ℕ) Fault → Type 0
BracesAfter bytes total = After left braces_within bytes total

pub braces_start : (bytes : List ℕ) → BracesAfter bytes (braces_at bytes)
unfolding braces_at
braces_start bytes = record { count = suc (length bytes); enough = omega arith; same = refl }

shown : (bytes : List ℕ) (r total : Result (List ℕ) Fault) → ((n : ℕ) → braces_within (suc n) bytes ≡ r) → BracesAfter bytes total → r ≡ total
shown bytes r total step b = sym (ends left braces_within bytes r total (λ none. absurd (omega (arith, none))) step b)

pub braces_here : (bytes at : List ℕ) (total : Result (List ℕ) Fault)
    → Ok at ≡ from_gap (gap_end None bytes)
    → begins_initial at ≡ true
    → BracesAfter bytes total
    → Ok at ≡ total
unfolding braces_within
braces_here bytes at total is here b = shown bytes (Ok at) total (λ n. rw (← is, here) refl) b

pub braces_further : (bytes at rest : List ℕ) (total : Result (List ℕ) Fault)
    → Ok at ≡ from_gap (gap_end None bytes)
    → begins_initial at ≡ false
    → Ok rest ≡ information_end at
    → length rest < length bytes
    → BracesAfter bytes total → BracesAfter rest total
unfolding braces_within
braces_further bytes at rest total is more line shorter b =
    goes_on left braces_within bytes rest total (omega (arith, shorter)) (λ n. rw (← is, more, ← line) refl) b

pub braces_gap_fails : (f : Fault) (bytes : List ℕ) (total : Result (List ℕ) Fault)
    → Err f ≡ from_gap (gap_end None bytes)
    → BracesAfter bytes total
    → Err f ≡ total
unfolding braces_within
braces_gap_fails f bytes total is b = shown bytes (Err f) total (λ n. rw (← is) refl) b

pub braces_line_fails : (f : Fault) (bytes at : List ℕ) (total : Result (List ℕ) Fault)
    → Ok at ≡ from_gap (gap_end None bytes)
    → begins_initial at ≡ false
    → Err f ≡ information_end at
    → BracesAfter bytes total → Err f ≡ total
unfolding braces_within
braces_line_fails f bytes at total is more line b = shown bytes (Err f) total (λ n. rw (← is, more, ← line) refl) b

-- ---- a key line, byte by byte

-- what comes after the key comes after the rest of it
pub key_on : (rest after : List ℕ) (first : ℕ)
    → rest ≡ first ∷ after
    → continues_key first ≡ true
    → drop (prefix_len continues_key rest) rest ≡ drop (prefix_len continues_key after) after
key_on rest after first is q =
    let one : 1 + prefix_len continues_key after ≡ suc (prefix_len continues_key after) = omega arith in
    ap (λ z. drop (prefix_len continues_key z) z) is
    ∙ ap (λ b. drop (cond b (1 + prefix_len continues_key after) 0) (first ∷ after)) q
    ∙ ap (λ n. drop n (first ∷ after)) one

-- the `=` ends it
pub key_ends : (bytes rest after : List ℕ) (first : ℕ)
    → rest ≡ first ∷ after
    → first ≡ 61
    → drop (prefix_len continues_key rest) rest ≡ drop (prefix_len continues_key bytes) bytes
    → key_line_end bytes ≡ Ok (first_line after).1
unfolding continues_key
key_ends bytes rest after first is at same =
    ap (key_value (length bytes)) (sym same ∙ ap (λ z. drop (prefix_len continues_key z) z) (is ∙ ap (λ b. b ∷ after) at))
