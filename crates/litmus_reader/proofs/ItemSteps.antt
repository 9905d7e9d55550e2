-- All items of the initial state, one after the other.
use Rattle.litmus_reader.proofs.Vocabulary.{◌≡◌, ℕ, suc, ◌<◌, true, false, List, [], ◌∷◌, length, Result, Ok, Err, refl, arith, Stop}
use Rattle.litmus_reader.proofs.Vocabulary.{OpenCurly, Piece, symbol_at, name_at, number_at, Fault, Part, ReadError, Fails, ◌>>=◌}
use Rattle.litmus_reader.proofs.Vocabulary.{location_at, plain_setting, setting_at, Initial, initial, item_end, item_in, items_within}
use Rattle.litmus_reader.proofs.Vocabulary.{items_at, initial_at, in_initial, or_unfit, before_opening, Unclosed, remaining_of, unfit, Bool}
use Rattle.litmus_reader.proofs.Vocabulary.{cond, Section, section_of, item_ends}
use Rattle.litmus_reader.proofs.Loops.{After, ends, goes_on}
use Rattle.litmus_tokens.specs.declared.fault.ReadError.TheVariants as errors
use Rattle.litmus_reader.proofs.SectionSteps.{section_shorter}

abbrev pub ReadItems : Type 0
ReadItems = Result (Initial × List Piece) Fault

abbrev left : Initial × List Piece → ℕ
left x = suc (length x.1)

abbrev steps : ℕ → Stop → ℕ → Initial × List Piece → ReadItems
steps remaining stop n x = items_within n remaining stop x.0 x.1

-- the total is what the rest gives
abbrev pub ItemsAfter : ℕ → Stop → Initial → List Piece → ReadItems → Type 0
ItemsAfter remaining stop i ps total = After left (steps remaining stop) (i, ps) total

pub items_start : (remaining : ℕ) (stop : Stop) (names : List (List ℕ)) (ps : List Piece)
    → ItemsAfter remaining stop (initial names [] []) ps (items_at remaining stop names ps)
items_start remaining stop names ps = record { count = suc (length ps); enough = omega arith; same = refl }

-- an item that is read has a token, with which it ends
pub item_some : (part : Part) (i : Initial) (ps : List Piece) (x : Initial × Bool) → item_in part i ps ≡ Ok x → 0 < length ps
unfolding item_in item_end setting_at plain_setting location_at name_at number_at symbol_at
item_some part i [] x e = let never : (let q : Result (Initial × Bool) Fault = Err (unfit part []) in q) ≡ Ok x = e in absurd cc
item_some part i (p ∷ ps) x e = omega arith

-- what an item gives, and the items after it
abbrev onward : ℕ → ℕ → Stop → List Piece → Result (Initial × Bool) Fault → ReadItems
onward n remaining stop rest r = r >>= λ read. cond read.1 (Ok (read.0, rest)) (items_within n remaining stop read.0 rest)

step : (n remaining : ℕ) (stop : Stop) (i : Initial) (ps : List Piece) (s : Section) (r : Result (Initial × Bool) Fault)
    → section_of item_ends stop ps ≡ s
    → item_in (in_initial remaining s.stop) i s.tokens ≡ r
    → items_within (suc n) remaining stop i ps ≡ onward n remaining stop s.rest r
unfolding items_within
step n remaining stop i ps s r at is = rw (at, is) refl

pub items_done : (remaining : ℕ) (stop : Stop) (i j : Initial) (ps : List Piece) (s : Section) (total : ReadItems)
    → section_of item_ends stop ps ≡ s
    → item_in (in_initial remaining s.stop) i s.tokens ≡ Ok (j, true)
    → ItemsAfter remaining stop i ps total → total ≡ Ok (j, s.rest)
items_done remaining stop i j ps s total at is b =
    ends left (steps remaining stop) (i, ps) (Ok (j, s.rest)) total (λ none. absurd (omega (arith, none)))
    (λ n. step n remaining stop i ps s (Ok (j, true)) at is) b

pub items_further : (remaining : ℕ) (stop : Stop) (i j : Initial) (ps : List Piece) (s : Section) (total : ReadItems)
    → section_of item_ends stop ps ≡ s
    → item_in (in_initial remaining s.stop) i s.tokens ≡ Ok (j, false)
    → ItemsAfter remaining stop i ps total → ItemsAfter remaining stop j s.rest total
items_further remaining stop i j ps s total at is b =
    let shorter : 0 < length s.tokens → length s.rest < length ps = rw at at (section_shorter item_ends stop ps) in
    let some = item_some (in_initial remaining s.stop) i s.tokens (j, false) is in
    goes_on left (steps remaining stop) (i, ps) (j, s.rest) total (omega (arith, shorter some)) (λ n. step n remaining stop i ps s (Ok (j, false)) at is) b

pub items_fail : (e : ReadError) (remaining : ℕ) (stop : Stop) (i : Initial) (ps : List Piece) (s : Section)
    (total : ReadItems)
    → section_of item_ends stop ps ≡ s
    → Fails e (item_in (in_initial remaining s.stop) i s.tokens)
    → ItemsAfter remaining stop i ps total → Fails e total
items_fail errors.NoMemory remaining stop i ps s total at is b = tt
items_fail (errors.Fault f) remaining stop i ps s total at is b =
    ends left (steps remaining stop) (
      i,
      ps,
    ) (Err f) total (λ none. absurd (omega (arith, none))) (λ n. step n remaining stop i ps s (Err f) at is) b

-- ---- the `{` before them

pub initial_is : (stop : Stop) (remaining : ℕ) (names : List (List ℕ)) (ps rest : List Piece)
    → remaining ≡ remaining_of ps
    → Ok rest ≡ or_unfit (before_opening Unclosed stop) ps (symbol_at OpenCurly ps)
    → initial_at stop names ps ≡ items_at remaining stop names rest
unfolding initial_at
initial_is stop remaining names ps rest place at = rw (← at, ← place) refl

pub never_opened : (f : Fault) (stop : Stop) (names : List (List ℕ)) (ps : List Piece)
    → Err f ≡ or_unfit (before_opening Unclosed stop) ps (symbol_at OpenCurly ps)
    → initial_at stop names ps ≡ Err f
unfolding initial_at
never_opened f stop names ps at = rw (← at) refl
