-- From the bytes that were read and written to what the definitions say of the whole input.
use Rattle.tso_cli.proofs.Vocabulary.{◌≡◌, ◌+◌, ℕ, ◌≤◌, ◌<◌, List, [], ◌∷◌, length, take, Option, Some, None, IfSome, arith, ap, refl}
use Rattle.tso_cli.proofs.Vocabulary.{subst, length-take, zero, suc, SpellsTest, longest_input, parts_of, IsInputAnswer, IsAnswerTo}
use Rattle.tso_cli.proofs.Vocabulary.{IsAnswer, most_read, too_large, refused, answered, InputHeadline, PartsHeadline, Headline, Settings}
use Rattle.tso_cli.proofs.Vocabulary.{instructions_of, Status}
use Rattle.litmus_reader.specs.Spelling.{IsRefused as IsRefusedTest}
use Rattle.command_line.specs.declared.settings.Settings.TheVariants as settings

take-short : (n : ℕ) (xs : List ℕ) → length xs ≤ n → take n xs ≡ xs
take-short zero [] h = refl
take-short zero (x ∷ xs) h = absurd (omega arith)
take-short (suc n) [] h = refl
take-short (suc n) (x ∷ xs) h = ap (λ r. x ∷ r) (take-short n xs (omega arith))

-- the bytes that are read, which show the size of the input
abbrev read : List ℕ → List ℕ
read input = take (longest_input + 1) input

short : (input : List ℕ) → length (read input) ≤ longest_input → length input ≤ longest_input
short input h = omega (arith, length-take (longest_input + 1) input)

long : (input : List ℕ) → longest_input < length input → longest_input < length (read input)
long input h = omega (arith, length-take (longest_input + 1) input)

whole : (input : List ℕ) → length input ≤ longest_input → read input ≡ input
whole input h = take-short (longest_input + 1) input (omega arith)

IsInputAnswer-from_read : (s : Settings) (input out : List ℕ) (status : Status) → IsInputAnswer s (read input) out status → IsInputAnswer s input out status
IsInputAnswer-from_read s input _ _ (too_large large) = too_large (omega (arith, length-take (longest_input + 1) input))
IsInputAnswer-from_read s input _ _ (refused fault small is) =
    let fits = short input small in
    refused fault fits (subst (λ i. IsRefusedTest (instructions_of s) (parts_of i).test fault) (whole input fits) is)
IsInputAnswer-from_read s input _ _ (answered t out status small spelled answer) =
    let fits = short input small in
    answered t out status fits (subst (λ i. SpellsTest (instructions_of s) (parts_of i).test t) (whole input fits) spelled)
    (subst (λ i. IsAnswerTo s t (parts_of i).rest out status) (whole input fits) answer)

InputHeadline-from_read : (s : Settings) (input out : List ℕ) → InputHeadline s (read input) out → InputHeadline s input out
InputHeadline-from_read s input out h = record {
  within = λ fits.
      let first : length (read input) ≤ longest_input = rw (whole input fits) fits in
      subst (λ i. PartsHeadline s (parts_of i) out) (whole input fits) (h.within first);
  above = λ large. h.above (long input large);
}

-- what is said of the first bytes of an input is said of the input
pub answer-read : (s : Settings) (known : Option (List ℕ)) (items out : List ℕ) (status : Status)
    → IfSome known (λ input. items ≡ take (most_read s) input) → IsAnswer s (Some items) out status → IsAnswer s known out status
answer-read (settings.Tables kind) known items out status is-read is = is
answer-read s None items out status is-read is = tt
answer-read s (Some input) items out status is-read is =
    IsInputAnswer-from_read s input out status (subst (λ i. IsInputAnswer s i out status) is-read is)

pub headline-read : (s : Settings) (known : Option (List ℕ)) (items out : List ℕ)
    → IfSome known (λ input. items ≡ take (most_read s) input) → Headline s (Some items) out → Headline s known out
headline-read (settings.Tables kind) known items out is-read h = h
headline-read s None items out is-read h = tt
headline-read s (Some input) items out is-read h =
    InputHeadline-from_read s input out (subst (λ i. InputHeadline s i out) is-read h)
