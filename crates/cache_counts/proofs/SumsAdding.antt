-- What adds up in each run adds up over the runs of a plan.
use Rattle.std.proofs.Common.{◌≡◌, ◌+◌, ◌*◌, ◌<◌, ℕ, zero, suc, Bool, true, false, if◌then◌else◌, List, [], ◌∷◌, ◌++◌, length, slice_get}
use Rattle.std.proofs.Common.{slice_index_or, Option, None, Some, refl, sym, ap, subst, ◌∙◌, arith}
use Rattle.tso_terms.specs.Litmus.{Litmus}
use Rattle.tso_terms.specs.declared.choice.Choice.{Choice}
use Rattle.protocol_tables.specs.Tables.{Table, table_of}
use Rattle.protocol_tables.specs.declared.kind.ProtocolKind.{ProtocolKind}
use Rattle.multiprocessor.specs.Configuration.{Configuration}
use Rattle.multiprocessor.specs.Statistics.{no_counts}
use Rattle.multiprocessor.specs.declared.counts.Counts.{Counts}
use Rattle.machine_runs.specs.Runs.{AnswersFit, counts_under, run_under}
use Rattle.machine_runs.proofs.CountLemmas.{counts-each}
use Rattle.cache_counts.specs.AddingUp.{CountsAddUp, SumsAddUp, SumsOfPlansAddUp, printed_sum, sum_in}
use Rattle.cache_counts.specs.Counted.{Counted, choices_of, core_numbers, counted_of, numbers_from, numbers_under, seeded_numbers}
use Rattle.cache_counts.specs.Counted.{spreads_with, with_counted_run}
use Rattle.cache_counts.specs.Laws.{or_zero}
use Rattle.cache_counts.specs.Traffic.{traffic_of}
use Rattle.cache_counts.specs.Uses.{uses_of}
use Rattle.cache_counts.specs.declared.noting.CoreUse.{CoreUse}
use Rattle.cache_counts.specs.declared.spread.Spread.{Spread}
use Rattle.cache_counts.specs.declared.traffic.Traffic.{Traffic}

-- ---- places of a list

get-left : (xs ys : List ℕ) (i : ℕ) → i < length xs → slice_get (xs ++ ys) i ≡ slice_get xs i
get-left [] ys i l = absurd (omega arith)
get-left (x ∷ xs) ys zero l = refl
get-left (x ∷ xs) ys (suc i) l = get-left xs ys i (omega arith)

get-right : (xs ys : List ℕ) (i : ℕ) → slice_get (xs ++ ys) (length xs + i) ≡ slice_get ys i
get-right [] ys i = let z : 0 + i ≡ i = omega arith in ap (slice_get ys) z
get-right (x ∷ xs) ys i = let z : suc (length xs) + i ≡ suc (length xs + i) = omega arith in ap (slice_get (x ∷ (xs ++ ys))) z ∙ get-right xs ys i

abbrev no-spreads : List Spread
no-spreads = []

no-sum : (place : ℕ) → sum_in (slice_get no-spreads place) ≡ 0
no-sum zero = refl
no-sum (suc place) = refl

-- a number that is laid in raises the sum at its place
sum-with : (ss : List Spread) (ns : List ℕ) (place : ℕ)
    → place < length ns
    → sum_in (slice_get (spreads_with ss ns) place) ≡ sum_in (slice_get ss place) + or_zero (slice_get ns place)
sum-with ss [] place l = absurd (omega arith)
sum-with [] (n ∷ ns) zero l = omega arith
sum-with [] (n ∷ ns) (suc place) l =
    let none = no-sum place in
    let rest = sum-with [] ns place (omega arith) in
    rest ∙ ap (λ (a : ℕ). a + or_zero (slice_get ns place)) none
sum-with (s ∷ ss) (n ∷ ns) zero l = refl
sum-with (s ∷ ss) (n ∷ ns) (suc place) l = sum-with ss ns place (omega arith)

-- ---- the numbers of a core

core-first : (table : Table) (uses : List CoreUse) (start i place : ℕ) (cs : List Counts) → i < length cs → place < 12
    → slice_get (numbers_from table uses start cs) (12 * i + place)
    ≡ slice_get (core_numbers (slice_index_or cs i no_counts) (traffic_of table (start + i) uses)) place
core-first table uses start i place [] l p = absurd (omega arith)
core-first table uses start zero place (c ∷ cs) l p =
    let x : Traffic = traffic_of table start uses in
    let rest : List ℕ = numbers_from table uses (start + 1) cs in
    let here : 12 * 0 + place ≡ place = omega arith in
    let same : start ≡ start + 0 = omega arith in
    ap (slice_get (core_numbers c x ++ rest)) here ∙ get-left (core_numbers c x) rest place p
    ∙ ap (λ (n : ℕ). slice_get (core_numbers c (traffic_of table n uses)) place) same
core-first table uses start (suc i) place (c ∷ cs) l p =
    let x : Traffic = traffic_of table start uses in
    let rest : List ℕ = numbers_from table uses (start + 1) cs in
    let here : 12 * suc i + place ≡ 12 + (12 * i + place) = omega arith in
    let same : start + 1 + i ≡ start + suc i = omega arith in
    ap (slice_get (core_numbers c x ++ rest)) here
    ∙ get-right (core_numbers c x) rest (12 * i + place)
    ∙ core-first table uses (start + 1) i place cs (omega arith) p
    ∙ ap (λ (n : ℕ). slice_get (core_numbers (slice_index_or cs i no_counts) (traffic_of table n uses)) place) same

size-of : (table : Table) (uses : List CoreUse) (start : ℕ) (cs : List Counts) → length (numbers_from table uses start cs) ≡ 12 * length cs
size-of table uses start [] = refl
size-of table uses start (c ∷ cs) = let rest = size-of table uses (start + 1) cs in omega arith

-- ---- over runs

four-sums : (a b d e p q r s : ℕ) → a ≡ p → b ≡ q → d ≡ r → e ≡ s → p + q ≡ r + s → a + b ≡ d + e
four-sums a b d e p q r s u v w x y = omega (arith, u, v, w, x, y)

three-sums : (a d e p r s : ℕ) → a ≡ p → d ≡ r → e ≡ s → p ≡ r + s → a ≡ d + e
three-sums a d e p r s u w x y = omega (arith, u, w, x, y)

-- what a run adds to a printed sum
abbrev number_at : List ℕ → ℕ → ℕ → ℕ
number_at ns core place = or_zero (slice_get ns (12 * core + place))

-- the numbers of a run add up, for this core
record NumbersAdd (cores core : ℕ) (ns : List ℕ) : Type 0 where
  size : length ns ≡ 12 * cores
  requests : number_at ns core 1 + number_at ns core 2 ≡ number_at ns core 6 + number_at ns core 7
  supplies : number_at ns core 1 ≡ number_at ns core 9 + number_at ns core 10

AllAdd : ℕ → ℕ → Option (List ℕ) → Type 0
AllAdd cores core None = Unit {0}
AllAdd cores core (Some ns) = NumbersAdd cores core ns

more : (a b c d e f g i : ℕ) → a + b ≡ c + d → e + f ≡ g + i → a + e + (b + f) ≡ c + g + (d + i)
more a b c d e f g i h k = omega (arith, h, k)

one-more : (a c d e g i : ℕ) → a ≡ c + d → e ≡ g + i → a + e ≡ c + g + (d + i)
one-more a c d e g i h k = omega (arith, h, k)

with-one : (cores core : ℕ)
    → core < cores
    → (o : Option (List ℕ)) (k : Counted)
    → AllAdd cores core o
    → SumsAddUp k.spreads core
    → SumsAddUp (with_counted_run o k).spreads core
unfolding AllAdd
with-one cores core l None k add sums = sums
with-one cores core l (Some ns) k add sums =
    let size = add.size in
    let raised : (place : ℕ) → place < 12 → printed_sum (spreads_with k.spreads ns) core place ≡ printed_sum k.spreads core place + number_at ns core place =
    λ place p. sum-with k.spreads ns (12 * core + place) (omega (arith, l, p, size)) in
    record {
      requests = four-sums _ _ _ _ _ _ _ _ (raised 1 (omega arith)) (raised 2 (omega arith)) (raised 6 (omega arith)) (raised 7 (omega arith))
          (more _ _ _ _ _ _ _ _ sums.requests add.requests);
      supplies =
          three-sums _ _ _ _ _ _ (raised 1 (omega arith)) (raised 9 (omega arith)) (raised 10 (omega arith))
          (one-more _ _ _ _ _ _ sums.supplies add.supplies);
    }

none-yet : (core : ℕ) → SumsAddUp no-spreads core
none-yet core =
    let at : (place : ℕ) → printed_sum no-spreads core place ≡ 0 = λ place. no-sum (12 * core + place) in
    record {
      requests = four-sums _ _ _ _ 0 0 0 0 (at 1) (at 2) (at 6) (at 7) refl;
      supplies = three-sums _ _ _ 0 0 0 (at 1) (at 9) (at 10) refl;
    }

all-runs : (runs : ℕ → Option (List ℕ)) (cores core n : ℕ)
    → core < cores
    → ((i : ℕ) → i < n → AllAdd cores core (runs i))
    → SumsAddUp (counted_of runs n).spreads core
all-runs runs cores core zero l add = none-yet core
all-runs runs cores core (suc n) l add =
    with-one cores core l (runs n) (counted_of runs n) (add n (omega arith)) (all-runs runs cores core n l (λ i less. add i (omega (arith, less))))

-- the numbers of the run under choices
run-adds : CountsAddUp
    → (t : Litmus) (kind : ProtocolKind) (c : Configuration) (choices : List Choice) (core : ℕ)
    → core < length t.programs
    → AnswersFit t kind c choices
    → AllAdd (length t.programs) core (numbers_under t kind c choices)
unfolding AllAdd
run-adds law t kind c choices core l fit = by_end (run_under t kind c choices).ended refl
  where
    by_end : (b : Bool) → (run_under t kind c choices).ended ≡ b
        → AllAdd (length t.programs) core
        (if b
        then Some (numbers_from (table_of kind) (uses_of (table_of kind) c t choices) 0 (counts_under t kind c choices))
        else None)
    by_end false ended = tt
    by_end true ended =
        let table : Table = table_of kind in
        let uses : List CoreUse = uses_of table c t choices in
        let cs : List Counts = counts_under t kind c choices in
        let cores : length cs ≡ length t.programs = counts-each c.bus table c.shape t c.depth choices in
        let at : (place : ℕ)
        → place < 12
        → number_at (numbers_from table uses 0 cs) core place
        ≡ or_zero (slice_get (core_numbers (slice_index_or cs core no_counts) (traffic_of table (0 + core) uses)) place) =
        λ place p. ap or_zero (core-first table uses 0 core place cs (subst (λ (n : ℕ). core < n) (sym cores) l) p) in
        let same : 0 + core ≡ core = omega arith in
        let here : (place : ℕ)
        → place < 12
        → number_at (numbers_from table uses 0 cs) core place
        ≡ or_zero (slice_get (core_numbers (slice_index_or cs core no_counts) (traffic_of table core uses)) place) =
        λ place p. at place p ∙ ap (λ (n : ℕ). or_zero (slice_get (core_numbers (slice_index_or cs core no_counts) (traffic_of table n uses)) place)) same in
        let adds = law t kind c choices core fit ended l in
        let h1 = here 1 (omega arith) in
        let h2 = here 2 (omega arith) in
        let h6 = here 6 (omega arith) in
        let h7 = here 7 (omega arith) in
        let h9 = here 9 (omega arith) in
        let h10 = here 10 (omega arith) in
        record {
          size = size-of table uses 0 cs ∙ ap (λ (n : ℕ). 12 * n) cores;
          requests = four-sums _ _ _ _ _ _ _ _ h1 h2 h6 h7 adds.requested;
          supplies = three-sums _ _ _ _ _ _ h1 h9 h10 adds.supplied;
        }

pub sums-add-up : CountsAddUp → SumsOfPlansAddUp
sums-add-up law t kind c plan core fit l =
    all-runs (seeded_numbers t kind c plan.length plan.from) (length t.programs) core plan.seeds l
    (λ i less. run-adds law t kind c (choices_of t plan.length (plan.from + i)) core l (fit i less))
