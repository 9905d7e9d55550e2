-- The states of a tally: lists of values in ascending order, each with the number of runs that gave it.
use Rattle.sweep_runs.proofs.Vocabulary.{◌≡◌, ◌<◌, ◌+◌, ℕ, zero, suc, Bool, true, false, cond, List, [], ◌∷◌, length, slice_index_or}
use Rattle.sweep_runs.proofs.Vocabulary.{Option, Some, None, is_some, Ordering, Less, Equal, Greater, All, Contains, refl, sym, ap, subst}
use Rattle.sweep_runs.proofs.Vocabulary.{◌∙◌, arith, bytes_eq, sum, AllByRecursion, lookup, keys_of, values_of, count_of_runs, with_values}
use Rattle.std.specs.List.Sorted.{IsStrictlySortedBy}
use Rattle.std.specs.Option.{unwrap_or, option_map}
use Rattle.std.specs.Ordering.{is_eq, nat_cmp, ordering_reverse, match_ordering, eq_by_cmp}
use Rattle.std.specs.Cmp.Lexicographic.{slice_cmp}
use Rattle.std.specs.BTreeMap.{insert_entry, is_at}
use Rattle.std.proofs.lemmas.Cmp.{nat_list_cmp_total, eq_by_cmp_equiv}
use Rattle.std.proofs.lemmas.Map.Entries.{sum_by-insert_entry, lookup_from_place}
use Rattle.std.proofs.lemmas.Map.Keys.{IsDistinct-from_sorted}
use Rattle.std.proofs.lemmas.Map.Text.{is_eq-slice_cmp}
use Rattle.std.proofs.lemmas.Map.Views.{All-values-insert_entry, Contains-keys_from_lookup}
use Rattle.std.proofs.lemmas.Slice.Eq.{bytes_eq-Decides}
use Rattle.std.proofs.lemmas.Option.{slice_get-get_or}

abbrev R : List ℕ → List ℕ → Ordering
R = slice_cmp nat_cmp

abbrev pub States : Type 0
States = List (List ℕ × ℕ)

-- ---- what is found at a list of values

equal-is : (o : Ordering) → is_eq o ≡ true → o ≡ Equal
equal-is Less h = absurd (let no : ⊥ = cc in no)
equal-is Equal h = refl
equal-is Greater h = absurd (let no : ⊥ = cc in no)

twice : {X : Type 0} (b : Bool) (x y l : X) → cond b x l ≡ cond b x (cond b y l)
twice true x y l = refl
twice false x y l = refl

apart : {X : Type 0} (a b : Bool) (x y l : X) → (a ≡ true → b ≡ true → ⊥) → cond b y (cond a x l) ≡ cond a x (cond b y l)
apart true true x y l h = absurd (h refl refl)
apart true false x y l h = refl
apart false true x y l h = refl
apart false false x y l h = refl

lookup-inserted : (v w : List ℕ) (n : ℕ) (es : States) → lookup (is_at (R v)) (insert_entry R es w n) ≡ cond (is_eq (R v w)) (Some n) (lookup (is_at (R v)) es)
lookup-inserted v w n [] = refl
lookup-inserted v w n (e ∷ es) = by (R w e.0) refl (lookup-inserted v w n es)
  where
    by : (r : Ordering) → R w e.0 ≡ r → lookup (is_at (R v)) (insert_entry R es w n) ≡ cond (is_eq (R v w)) (Some n) (lookup (is_at (R v)) es)
        → lookup (is_at (R v)) (match_ordering r ((w, n) ∷ e ∷ es) ((e.0, n) ∷ es) (e ∷ insert_entry R es w n))
        ≡ cond (is_eq (R v w)) (Some n) (lookup (is_at (R v)) (e ∷ es))
    by Less p further = refl
    by Equal p further =
        let one : R v w ≡ R v e.0 =
        nat_list_cmp_total.antisymm v w
        ∙ ap ordering_reverse (nat_list_cmp_total.congr w e.0 v p)
        ∙ sym (nat_list_cmp_total.antisymm v e.0) in
        twice (is_eq (R v e.0)) (Some n) (Some e.1) (lookup (is_at (R v)) es)
        ∙ ap (λ (r : Ordering). cond (is_eq r) (Some n) (cond (is_eq (R v e.0)) (Some e.1) (lookup (is_at (R v)) es))) (sym one)
    by Greater p further =
        ap (λ (o : Option ℕ). cond (is_eq (R v e.0)) (Some e.1) o) further
        ∙ apart (is_eq (R v w)) (is_eq (R v e.0)) (Some n) (Some e.1) (lookup (is_at (R v)) es)
        (λ same first. let a : R v w ≡ Equal = equal-is (R v w) same in let b : R v e.0 ≡ Equal = equal-is (R v e.0) first in
        let c : R v e.0 ≡ R w e.0 = nat_list_cmp_total.congr v w e.0 a in let both : Equal ≡ Greater = sym b ∙ c ∙ p in let no : ⊥ = cc in no)

-- one more run with the values w counts for these, and for no other
pub count-with : (v w : List ℕ) (es : States) → count_of_runs v (with_values w es) ≡ count_of_runs v es + cond (bytes_eq v w) 1 0
count-with v w es = ap (λ (o : Option ℕ). unwrap_or o 0) (lookup-inserted v w (count_of_runs w es + 1) es) ∙ by (bytes_eq v w) refl
  where
    by : (b : Bool)
        → bytes_eq v w ≡ b
        → unwrap_or (cond (is_eq (R v w)) (Some (count_of_runs w es + 1)) (lookup (is_at (R v)) es)) 0
        ≡ count_of_runs v es + cond b 1 0
    by true h =
        let one : v ≡ w = (bytes_eq-Decides v w).0 h in
        rw (is_eq-slice_cmp v w, h) (ap (λ (u : List ℕ). count_of_runs u es + 1) (sym one))
    by false h = rw (is_eq-slice_cmp v w, h) (omega arith)

-- ---- they ascend, and each was given by a run

pub all-map : (P Q : List ℕ → Type 0) → ((y : List ℕ) → P y → Q y) → (ks : List (List ℕ)) → AllByRecursion P ks → AllByRecursion Q ks
all-map P Q f [] a = tt
all-map P Q f (k ∷ ks) a = (f k a.0, all-map P Q f ks a.1)

keys-inserted : (P : List ℕ → Type 0) (w : List ℕ) (n : ℕ) (es : States)
    → P w
    → AllByRecursion P (keys_of es)
    → AllByRecursion P (keys_of (insert_entry R es w n))
keys-inserted P w n [] p a = (p, tt)
keys-inserted P w n (e ∷ es) p a = by (R w e.0) (keys-inserted P w n es p a.1)
  where
    by : (r : Ordering) → AllByRecursion P (keys_of (insert_entry R es w n))
        → AllByRecursion P (keys_of (match_ordering r ((w, n) ∷ e ∷ es) ((e.0, n) ∷ es) (e ∷ insert_entry R es w n)))
    by Less further = (p, a)
    by Equal further = a
    by Greater further = (a.0, further)

abbrev pub Ascend : States → Type 0
Ascend es = IsStrictlySortedBy R (keys_of es)

sorted-inserted : (w : List ℕ) (n : ℕ) (es : States) → Ascend es → Ascend (insert_entry R es w n)
unfolding IsStrictlySortedBy
sorted-inserted w n [] s = (tt, tt)
sorted-inserted w n (e ∷ es) s = by (R w e.0) refl (sorted-inserted w n es s.1)
  where
    by : (r : Ordering) → R w e.0 ≡ r → Ascend (insert_entry R es w n) → Ascend (match_ordering r ((w, n) ∷ e ∷ es) ((e.0, n) ∷ es) (e ∷ insert_entry R es w n))
    by Less p further = ((p, all-map (λ y. R e.0 y ≡ Less) (λ y. R w y ≡ Less) (λ y h. nat_list_cmp_total.trans w e.0 y p h) (keys_of es) s.0), s)
    by Equal p further = s
    by Greater p further =
        (keys-inserted (λ y. R e.0 y ≡ Less) w n es (nat_list_cmp_total.antisymm e.0 w ∙ ap ordering_reverse p) s.0, further)

pub ascend-with : (w : List ℕ) (es : States) → Ascend es → Ascend (with_values w es)
ascend-with w es s = sorted-inserted w (count_of_runs w es + 1) es s

pub ascend-none : Ascend []
unfolding IsStrictlySortedBy
ascend-none = tt

abbrev pub EachGiven : States → Type 0
EachGiven es = All (λ n. 0 < n) (values_of es)

pub given-with : (w : List ℕ) (es : States) → EachGiven es → EachGiven (with_values w es)
given-with w es all = All-values-insert_entry R w (count_of_runs w es + 1) (λ n. 0 < n) es all (omega arith)

-- ---- how many runs there are

weight : (o : Option ℕ) → unwrap_or (option_map (λ (n : ℕ). n) o) 0 ≡ unwrap_or o 0
weight None = refl
weight (Some n) = refl

pub sum-with : (w : List ℕ) (es : States) → Ascend es → sum (values_of (with_values w es)) ≡ sum (values_of es) + 1
sum-with w es s =
    let whole = sum_by-insert_entry (λ (n : ℕ). n) nat_list_cmp_total es w (count_of_runs w es + 1) s in
    let here = weight (lookup (is_at (R w)) es) in
    omega arith

-- ---- each entry

values-at : (es : States) (k : ℕ) (d : List ℕ × ℕ) → k < length es → slice_index_or (values_of es) k d.1 ≡ (slice_index_or es k d).1
values-at [] k d l = absurd (omega arith)
values-at (e ∷ es) zero d l = refl
values-at (e ∷ es) (suc k) d l = values-at es k d (omega arith)

length-values : (es : States) → length (values_of es) ≡ length es
length-values [] = refl
length-values (e ∷ es) = ap suc (length-values es)

-- each entry's number is what is found at its values
pub each-counted : (es : States) (number : List ℕ → ℕ) → Ascend es → EachGiven es → ((v : List ℕ) → count_of_runs v es ≡ number v)
    → All (λ e. (0 < e.1) × (e.1 ≡ number e.0)) es
each-counted es number s given counts = λ k d l.
    let e = slice_index_or es k d in
    let found : lookup (eq_by_cmp R e.0) es ≡ Some e.1 =
    lookup_from_place (eq_by_cmp_equiv nat_list_cmp_total) es k e.0 e.1 (IsDistinct-from_sorted R (keys_of es) s) (slice_get-get_or es k d l) in
    let some : 0 < e.1 = subst (λ n. 0 < n) (values-at es k d l) (given k d.1 (subst (λ n. k < n) (sym (length-values es)) l)) in
    (some, sym (ap (λ (o : Option ℕ). unwrap_or o 0) found) ∙ counts e.0)

-- ---- what is counted is there

pub same-values : (v w : List ℕ) → is_eq (R v w) ≡ true → v ≡ w
same-values v w h = (bytes_eq-Decides v w).0 (sym (is_eq-slice_cmp v w) ∙ h)

-- a list of values that some run gave is one of those that are kept
pub counted-there : (v : List ℕ) (es : States) → 0 < count_of_runs v es → Contains (keys_of es) v
counted-there v es some = by (lookup (is_at (R v)) es) refl
  where
    by : (o : Option ℕ) → lookup (is_at (R v)) es ≡ o → Contains (keys_of es) v
    by None h = absurd (let none : count_of_runs v es ≡ 0 = ap (λ (o : Option ℕ). unwrap_or o 0) h in omega arith)
    by (Some n) h = Contains-keys_from_lookup same-values v es (ap (λ (o : Option ℕ). is_some o) h)
