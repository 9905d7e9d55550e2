-- What is counted of several runs tells each of them.
use Rattle.std.proofs.Common.{◌≡◌, ◌<◌, ◌≤◌, ◌+◌, ◌*◌, ◌⊎◌, inl, inr, ℕ, zero, suc, min, max, Bool, true, false, if◌then◌else◌, List, []}
use Rattle.std.proofs.Common.{◌∷◌, length, slice_get, Option, Some, None, IfSome, refl, sym, ap, subst, ◌∙◌, arith}
use Rattle.basic_laws.proofs.Basics.{lt-or}
use Rattle.std.proofs.lemmas.List.{length-append}
use Rattle.tso_terms.specs.Litmus.{Litmus}
use Rattle.tso_terms.specs.declared.choice.Choice.{Choice}
use Rattle.protocol_tables.specs.Tables.{Table, table_of}
use Rattle.protocol_tables.specs.declared.kind.ProtocolKind.{ProtocolKind}
use Rattle.multiprocessor.specs.Configuration.{Configuration}
use Rattle.multiprocessor.specs.declared.counts.Counts.{Counts}
use Rattle.machine_runs.specs.Runs.{run_under, counts_under}
use Rattle.machine_runs.proofs.CountLemmas.{counts-each}
use Rattle.cache_counts.specs.Counted.{Counted, counted_of, core_numbers, numbers_from, numbers_under, seeded_numbers, spread_with}
use Rattle.cache_counts.specs.Counted.{spreads_with, with_counted_run}
use Rattle.cache_counts.specs.Laws.{number_of_run, or_zero, sum_over, ends, ended_among, TellsNumbers, TellsRuns, CountsTellTheirRuns}
use Rattle.cache_counts.specs.Traffic.{traffic_of}
use Rattle.cache_counts.specs.Uses.{uses_of}
use Rattle.cache_counts.specs.declared.noting.CoreUse.{CoreUse}
use Rattle.cache_counts.specs.declared.spread.Spread.{Spread}

-- ---- one number

min-is : (a b : ℕ) → (min a b ≡ a) ⊎ (min a b ≡ b)
min-is a b = elim (lt-or a b) [ inl l ↦ inr (omega (arith, l)) | inr l ↦ inl (omega (arith, l)) ]

max-is : (a b : ℕ) → (max a b ≡ a) ⊎ (max a b ≡ b)
max-is a b = elim (lt-or a b) [ inl l ↦ inl (omega (arith, l)) | inr l ↦ inr (omega (arith, l)) ]

-- the same of one run more
last-or : (P : ℕ → Type 0) (n : ℕ) → P n → ((i : ℕ) → i < n → P i) → (i : ℕ) → i < suc n → P i
last-or P n last before i l = elim (lt-or n i) [ inl less ↦ before i less | inr more ↦ subst P (let z : n ≡ i = omega (arith, l, more) in z) last ]

skip-number : (number : ℕ → Option ℕ) (n : ℕ) (s : Spread) → number n ≡ None → TellsNumbers number n s → TellsNumbers number (suc n) s
skip-number number n s none tells =
    let less : n < suc n = omega arith in
    record {
      sum = tells.sum ∙ (let z : sum_over number n ≡ sum_over number n + 0 = omega arith in z) ∙ ap (λ o. sum_over number n + or_zero o) (sym none);
      within =
          last-or (λ i. IfSome (number i) (λ x. (s.least ≤ x) × (x ≤ s.greatest))) n
          (subst (λ o. IfSome o (λ x. (s.least ≤ x) × (x ≤ s.greatest))) (sym none) tt) tells.within;
      least = (let m = tells.least in (m.0, (let z : m.0 < suc n = omega (arith, m.1) in z), m.2));
      greatest = (let m = tells.greatest in (m.0, (let z : m.0 < suc n = omega (arith, m.1) in z), m.2));
    }

first-number : (number : ℕ → Option ℕ) (n x : ℕ) → number n ≡ Some x → ((i : ℕ) → i < n → number i ≡ None) → TellsNumbers number (suc n) (spread_with None x)
first-number number n x is none =
    let here : n < suc n = omega arith in
    let empty : sum_over number n ≡ 0 = no_sum n none in
    record {
      sum = (let z : x ≡ 0 + x = omega arith in z) ∙ ap (λ m. m + x) (sym empty) ∙ ap (λ o. sum_over number n + or_zero o) (sym is);
      within = last-or (λ i. IfSome (number i) (λ y. (x ≤ y) × (y ≤ x))) n (subst (λ o. IfSome o (λ y. (x ≤ y) × (y ≤ x))) (sym is) (omega arith, omega arith))
          (λ i l. subst (λ o. IfSome o (λ y. (x ≤ y) × (y ≤ x))) (sym (none i l)) tt);
      least = (n, here, is);
      greatest = (n, here, is);
    }
  where
    no_sum : (m : ℕ) → ((i : ℕ) → i < m → number i ≡ None) → sum_over number m ≡ 0
    no_sum zero h = refl
    no_sum (suc m) h =
        ap (λ o. sum_over number m + or_zero o) (h m (omega arith)) ∙ ap (λ s. s + 0) (no_sum m (λ i l. h i (omega (arith, l))))

add-number : (number : ℕ → Option ℕ) (n x : ℕ) (s : Spread) → number n ≡ Some x → TellsNumbers number n s → TellsNumbers number (suc n) (spread_with (Some s) x)
add-number number n x s is tells =
    let next = spread_with (Some s) x in
    let low : min s.least x ≤ s.least = omega arith in
    let low_too : min s.least x ≤ x = omega arith in
    let high : s.greatest ≤ max s.greatest x = omega arith in
    let high_too : x ≤ max s.greatest x = omega arith in
    record {
      sum = ap (λ m. m + x) tells.sum ∙ ap (λ o. sum_over number n + or_zero o) (sym is);
      within = last-or (λ i. IfSome (number i) (λ y. (next.least ≤ y) × (y ≤ next.greatest))) n
          (subst (λ o. IfSome o (λ y. (next.least ≤ y) × (y ≤ next.greatest))) (sym is) (low_too, high_too))
          (λ i l. wider (number i) low high (tells.within i l));
      least = elim (min-is s.least x) [
        | inl old ↦ (let m = tells.least in (m.0, (let z : m.0 < suc n = omega (arith, m.1) in z), m.2 ∙ ap Some (sym old)))
        | inr new ↦ (n, (let z : n < suc n = omega arith in z), is ∙ ap Some (sym new))
      ];
      greatest = elim (max-is s.greatest x) [
        | inl old ↦ (let m = tells.greatest in (m.0, (let z : m.0 < suc n = omega (arith, m.1) in z), m.2 ∙ ap Some (sym old)))
        | inr new ↦ (n, (let z : n < suc n = omega arith in z), is ∙ ap Some (sym new))
      ];
    }
  where
    wider : (o : Option ℕ) → min s.least x ≤ s.least → s.greatest ≤ max s.greatest x → IfSome o (λ y. (s.least ≤ y) × (y ≤ s.greatest))
        → IfSome o (λ y. (min s.least x ≤ y) × (y ≤ max s.greatest x))
    wider None low high h = tt
    wider (Some y) low high h = ((let z : min s.least x ≤ y = omega (arith, low, h.0) in z), (let z : y ≤ max s.greatest x = omega (arith, high, h.1) in z))

-- ---- all numbers

abbrev no-spreads : List Spread
no-spreads = []

get-none : (place : ℕ) → slice_get no-spreads place ≡ None
get-none zero = refl
get-none (suc place) = refl

-- a number that is laid in, and what stood at its place
get-with : (ss : List Spread) (ns : List ℕ) (place : ℕ) (s : Spread) → slice_get (spreads_with ss ns) place ≡ Some s
    → (x : ℕ) × (slice_get ns place ≡ Some x) × (s ≡ spread_with (slice_get ss place) x)
get-with ss [] zero s h = absurd (let z : ⊥ = cc in z)
get-with ss [] (suc place) s h = absurd (let z : ⊥ = cc in z)
get-with [] (n ∷ ns) zero s h = (n, refl, (let z : s ≡ spread_with None n = cc in z))
get-with (t ∷ ss) (n ∷ ns) zero s h = (n, refl, (let z : s ≡ spread_with (Some t) n = cc in z))
get-with [] (n ∷ ns) (suc place) s h =
    let rest = get-with [] ns place s h in
    (rest.0, rest.1, rest.2 ∙ ap (λ o. spread_with o rest.0) (get-none place))
get-with (t ∷ ss) (n ∷ ns) (suc place) s h = get-with ss ns place s h

length-with : (ss : List Spread) (ns : List ℕ) → length (spreads_with ss ns) ≡ length ns
length-with ss [] = refl
length-with [] (n ∷ ns) = ap suc (length-with [] ns)
length-with (s ∷ ss) (n ∷ ns) = ap suc (length-with ss ns)

below : (ns : List ℕ) (place x : ℕ) → slice_get ns place ≡ Some x → place < length ns
below [] zero x h = absurd (let z : ⊥ = cc in z)
below [] (suc place) x h = absurd (let z : ⊥ = cc in z)
below (n ∷ ns) zero x h = omega arith
below (n ∷ ns) (suc place) x h = let rest = below ns place x h in omega arith

there : (ss : List Spread) (place : ℕ) → place < length ss → slice_get ss place ≡ None → ⊥
there [] place l h = omega arith
there (s ∷ ss) zero l h = let z : ⊥ = cc in z
there (s ∷ ss) (suc place) l h = there ss place (omega arith) h

-- so many runs are counted; where none ended nothing stands there
record IsCountOf (runs : ℕ → Option (List ℕ)) (size n : ℕ) (k : Counted) : Type 0 where
  tells : TellsRuns runs size n k
  none : k.ended ≡ 0 → (k.spreads ≡ []) × ((i : ℕ) → i < n → runs i ≡ None)

one-more : (runs : ℕ → Option (List ℕ)) (size n : ℕ) (k : Counted) (o : Option (List ℕ)) → runs n ≡ o → IfSome o (λ ns. length ns ≡ size)
    → IsCountOf runs size n k → IsCountOf runs size (suc n) (with_counted_run o k)
one-more runs size n k None is sized c = record {
  tells = record {
    ended = c.tells.ended ∙ (let z : ended_among runs n ≡ ended_among runs n + 0 = omega arith in z) ∙ ap (λ r. ended_among runs n + ends r) (sym is);
    all = (let all = c.tells.all in let z : k.ended + (k.unfinished + 1) ≡ suc n = omega arith in z);
    size = c.tells.size;
    numbers = λ place s at. skip-number (λ i. number_of_run place (runs i)) n s (ap (number_of_run place) is) (c.tells.numbers place s at);
  };
  none = λ e. ((c.none e).0, last-or (λ i. runs i ≡ None) n is (c.none e).1);
}
one-more runs size n k (Some ns) is sized c = record {
  tells = record {
    ended = ap (λ m. m + 1) c.tells.ended ∙ ap (λ r. ended_among runs n + ends r) (sym is);
    all = (let all = c.tells.all in let z : k.ended + 1 + k.unfinished ≡ suc n = omega arith in z);
    size = λ some. length-with k.spreads ns ∙ sized;
    numbers = λ place s at. let got = get-with k.spreads ns place s at in
        subst (λ t. TellsNumbers (λ i. number_of_run place (runs i)) (suc n) t) (sym got.2)
        (by_place place got.0 (ap (number_of_run place) is ∙ got.1) (slice_get k.spreads place) refl);
  };
  none = λ e. absurd (omega (arith, e));
}
  where
    ended_or_not : (m : ℕ) → (m ≡ 0) ⊎ (0 < m)
    ended_or_not zero = inl refl
    ended_or_not (suc m) = inr (omega arith)

    by_place : (place x : ℕ) → number_of_run place (runs n) ≡ Some x → (o : Option Spread) → slice_get k.spreads place ≡ o
        → TellsNumbers (λ i. number_of_run place (runs i)) (suc n) (spread_with o x)
    by_place place x here (Some s) at = add-number (λ i. number_of_run place (runs i)) n x s here (c.tells.numbers place s at)
    by_place place x here None at =
        let within : place < size = subst (λ m. place < m) sized (below ns place x (sym (ap (number_of_run place) is) ∙ here)) in
        first-number (λ i. number_of_run place (runs i)) n x here (λ i l. elim (ended_or_not k.ended) [
          | inl unended ↦ ap (number_of_run place) ((c.none unended).1 i l)
          | inr some ↦ absurd (there k.spreads place (subst (λ m. place < m) (sym (c.tells.size some)) within) at)
        ])

counted-so : (runs : ℕ → Option (List ℕ)) (size n : ℕ) → ((i : ℕ) → IfSome (runs i) (λ ns. length ns ≡ size)) → IsCountOf runs size n (counted_of runs n)
counted-so runs size zero sized = record {
  tells = record {
    ended = refl;
    all = refl;
    size = λ some. absurd (omega (arith, some));
    numbers = λ place s at. absurd (let gone = get-none place in let z : ⊥ = cc in z);
  };
  none = λ e. (refl, (λ i l. absurd (omega (arith, l))));
}
counted-so runs size (suc n) sized = one-more runs size n (counted_of runs n) (runs n) refl (sized n) (counted-so runs size n sized)

-- ---- the runs of a test

twelve-each : (table : Table) (uses : List CoreUse) (core : ℕ) (cs : List Counts) → length (numbers_from table uses core cs) ≡ 12 * length cs
twelve-each table uses core [] = refl
twelve-each table uses core (c ∷ cs) =
    let rest = twelve-each table uses (core + 1) cs in
    length-append (core_numbers c (traffic_of table core uses)) (numbers_from table uses (core + 1) cs)
    ∙ (let z : 12 + length (numbers_from table uses (core + 1) cs) ≡ 12 * suc (length cs) = omega arith in z)

twelve : (t : Litmus) (kind : ProtocolKind) (c : Configuration) (choices : List Choice)
    → IfSome (numbers_under t kind c choices) (λ ns. length ns ≡ 12 * length t.programs)
twelve t kind c choices = by_end (run_under t kind c choices).ended
  where
    ns : List ℕ
    ns = numbers_from (table_of kind) (uses_of (table_of kind) c t choices) 0 (counts_under t kind c choices)

    by_end : (b : Bool) → IfSome (if b then Some ns else None) (λ ns. length ns ≡ 12 * length t.programs)
    by_end true = twelve-each (table_of kind) (uses_of (table_of kind) c t choices) 0 (counts_under t kind c choices)
        ∙ ap (λ m. 12 * m) (counts-each c.bus (table_of kind) c.shape t c.depth choices)
    by_end false = tt

pub counts-tell : CountsTellTheirRuns
counts-tell = record {
  twelve = twelve;
  plans = λ t kind c plan. (counted-so (seeded_numbers t kind c plan.length plan.from) (12 * length t.programs) plan.seeds
      (λ i. twelve t kind c _)).tells;
  once = λ t kind c choices. (counted-so (λ i. numbers_under t kind c choices) (12 * length t.programs) 1 (λ i. twelve t kind c choices)).tells;
}
