-- Lists of states in ascending order that count alike are one list.
use Rattle.tso_cli.proofs.Vocabulary.{◌≡◌, ◌<◌, ℕ, zero, suc, Bool, true, false, cond, List, [], ◌∷◌, Option, Some, None, is_some, Ordering}
use Rattle.tso_cli.proofs.Vocabulary.{Less, Equal, Greater, All, Contains, refl, sym, ap, subst, ◌∙◌, arith, AllByRecursion}
use Rattle.tso_cli.proofs.Vocabulary.{IsStrictlySortedBy, unwrap_or, is_eq, nat_cmp, ordering_reverse, slice_cmp, is_at, lookup, keys_of}
use Rattle.tso_cli.proofs.Vocabulary.{All-head, All-tail, All-weaker, get_or_from_slice_get, slice_get_within, bytes_eq-Decides}
use Rattle.tso_cli.proofs.Vocabulary.{count_of_runs, States, Ascend, all-map, same-values}
use Rattle.std.proofs.lemmas.Cmp.{nat_list_cmp_total, eq_by_cmp_equiv}
use Rattle.std.proofs.lemmas.Map.Entries.{place_from_lookup}
use Rattle.std.proofs.lemmas.Map.Text.{is_eq-slice_cmp}
use Rattle.std.proofs.lemmas.Map.Views.{IsSome-lookup_from_Contains}

abbrev R : List ℕ → List ℕ → Ordering
R = slice_cmp nat_cmp

-- ---- what is counted at the head, and after it

at-head : (e : List ℕ × ℕ) (es : States) → count_of_runs e.0 (e ∷ es) ≡ e.1
at-head e es =
    let own : is_eq (R e.0 e.0) ≡ true = is_eq-slice_cmp e.0 e.0 ∙ (bytes_eq-Decides e.0 e.0).1 refl in
    ap (λ (b : Bool). unwrap_or (cond b (Some e.1) (lookup (is_at (R e.0)) es)) 0) own

past-head : (v : List ℕ) (e : List ℕ × ℕ) (es : States) → is_eq (R v e.0) ≡ false → count_of_runs v (e ∷ es) ≡ count_of_runs v es
past-head v e es h = ap (λ (b : Bool). unwrap_or (cond b (Some e.1) (lookup (is_at (R v)) es)) 0) h

none-below : (v : List ℕ) (es : States) → AllByRecursion (λ y. R v y ≡ Less) (keys_of es) → count_of_runs v es ≡ 0
none-below v [] a = refl
none-below v (e ∷ es) a = past-head v e es (ap (λ (o : Ordering). is_eq o) a.0) ∙ none-below v es a.1

-- values that are below the first of a list aren't in it
missing : (v : List ℕ) (f : List ℕ × ℕ) (fs : States) → R v f.0 ≡ Less → Ascend (f ∷ fs) → count_of_runs v (f ∷ fs) ≡ 0
unfolding IsStrictlySortedBy
missing v f fs less s =
    none-below v (f ∷ fs) (less, all-map (λ y. R f.0 y ≡ Less) (λ y. R v y ≡ Less) (λ y h. nat_list_cmp_total.trans v f.0 y less h) (keys_of fs) s.0)

tail-same : (v : List ℕ) (e f : List ℕ × ℕ) (es fs : States) → e.0 ≡ f.0 → Ascend (e ∷ es) → Ascend (f ∷ fs)
    → count_of_runs v (e ∷ es) ≡ count_of_runs v (f ∷ fs) → count_of_runs v es ≡ count_of_runs v fs
unfolding IsStrictlySortedBy
tail-same v e f es fs key s r h = by (is_eq (R v e.0)) refl
  where
    by : (b : Bool) → is_eq (R v e.0) ≡ b → count_of_runs v es ≡ count_of_runs v fs
    by true is =
        let first : v ≡ e.0 = same-values v e.0 is in
        subst (λ (k : List ℕ). count_of_runs k es ≡ 0) (sym first) (none-below e.0 es s.0)
        ∙ sym (subst (λ (k : List ℕ). count_of_runs k fs ≡ 0) (sym (first ∙ key)) (none-below f.0 fs r.0))
    by false is =
        sym (past-head v e es is) ∙ h ∙ past-head v f fs (ap (λ (k : List ℕ). is_eq (R v k)) (sym key) ∙ is)

pub same-states : (es fs : States) → Ascend es → Ascend fs → All (λ e. 0 < e.1) es → All (λ e. 0 < e.1) fs
    → ((v : List ℕ) → count_of_runs v es ≡ count_of_runs v fs) → es ≡ fs
unfolding IsStrictlySortedBy
same-states [] [] s r p q h = refl
same-states [] (f ∷ fs) s r p q h =
    absurd (let some =
    All-head (λ (e : List ℕ × ℕ). 0 < e.1) f fs q in
    let here = at-head f fs in
    let same : 0 ≡ count_of_runs f.0 (f ∷ fs) = h f.0 in
    omega arith)
same-states (e ∷ es) [] s r p q h =
    absurd (let some =
    All-head (λ (e : List ℕ × ℕ). 0 < e.1) e es p in
    let here = at-head e es in
    let same : count_of_runs e.0 (e ∷ es) ≡ 0 = h e.0 in
    omega arith)
same-states (e ∷ es) (f ∷ fs) s r p q h =
    by (R e.0 f.0) refl
    (λ tails. same-states es fs s.1 r.1 (All-tail (λ (e : List ℕ × ℕ). 0 < e.1) e es p) (All-tail (λ (e : List ℕ × ℕ). 0 < e.1) f fs q) tails)
  where
    by : (o : Ordering) → R e.0 f.0 ≡ o → (((v : List ℕ) → count_of_runs v es ≡ count_of_runs v fs) → es ≡ fs) → e ∷ es ≡ f ∷ fs
    by Less is rest = absurd (
        let none : count_of_runs e.0 (f ∷ fs) ≡ 0 = missing e.0 f fs is r in
        let here = at-head e es in
        let some = All-head (λ (e : List ℕ × ℕ). 0 < e.1) e es p in
        let same = h e.0 in omega arith)
    by Greater is rest = absurd (
        let none : count_of_runs f.0 (e ∷ es) ≡ 0 = missing f.0 e es (nat_list_cmp_total.antisymm f.0 e.0 ∙ ap ordering_reverse is) s in
        let here = at-head f fs in
        let some = All-head (λ (e : List ℕ × ℕ). 0 < e.1) f fs q in
        let same = h f.0 in omega arith)
    by Equal is rest =
        let key : e.0 ≡ f.0 = same-values e.0 f.0 (ap (λ (o : Ordering). is_eq o) is) in
        let number : e.1 ≡ f.1 = sym (at-head e es) ∙ h e.0 ∙ ap (λ (k : List ℕ). count_of_runs k (f ∷ fs)) key ∙ at-head f fs in
        let tails : es ≡ fs = rest (λ v. tail-same v e f es fs key s r (h v)) in
        ap (λ (k : List ℕ). (k, e.1) ∷ es) key ∙ ap (λ (n : ℕ). (f.0, n) ∷ es) number ∙ ap (λ (l : States). f ∷ l) tails

-- ---- what is counted of a list of values is the number that it has, where the list has all that have one

zero-if : (n : ℕ) → (0 < n → ⊥) → n ≡ 0
zero-if zero never = refl
zero-if (suc n) never = absurd (never (omega arith))

pub counts-are : (es : States) (number : List ℕ → ℕ) → All (λ e. (0 < e.1) × (e.1 ≡ number e.0)) es
    → ((v : List ℕ) → 0 < number v → Contains (keys_of es) v) → (v : List ℕ) → count_of_runs v es ≡ number v
counts-are es number each complete v = by (lookup (is_at (R v)) es) refl
  where
    by : (o : Option ℕ) → lookup (is_at (R v)) es ≡ o → count_of_runs v es ≡ number v
    by None h =
        let none : count_of_runs v es ≡ 0 = ap (λ (o : Option ℕ). unwrap_or o 0) h in
        none ∙ sym (zero-if (number v) (λ some.
        let there = IsSome-lookup_from_Contains (eq_by_cmp_equiv nat_list_cmp_total) v es (complete v some) in
        let bad : false ≡ true = sym (ap (λ (o : Option ℕ). is_some o) h) ∙ there in
        let no : ⊥ = cc in no))
    by (Some n) h =
        let place = place_from_lookup (is_at (R v)) es n h in
        let k = place.1 in
        let here : (0 < n) × (n ≡ number k) =
        subst (λ (e : List ℕ × ℕ). (0 < e.1) × (e.1 ≡ number e.0))
        (get_or_from_slice_get es place.0 (k, n) (k, n) place.2)
        (each place.0 (k, n) (slice_get_within es place.0 (k, n) place.2)) in
        let found : count_of_runs v es ≡ n = ap (λ (o : Option ℕ). unwrap_or o 0) h in
        found ∙ here.1 ∙ ap (λ (w : List ℕ). number w) (sym (same-values v k place.3))

pub one-list : (es fs : States) (number : List ℕ → ℕ) → Ascend es → Ascend fs
    → All (λ e. (0 < e.1) × (e.1 ≡ number e.0)) es → All (λ e. (0 < e.1) × (e.1 ≡ number e.0)) fs
    → ((v : List ℕ) → 0 < number v → Contains (keys_of es) v) → ((v : List ℕ) → 0 < number v → Contains (keys_of fs) v) → es ≡ fs
one-list es fs number s r each other complete full =
    let P : List ℕ × ℕ → Type 0 = λ e. (0 < e.1) × (e.1 ≡ number e.0) in
    same-states es fs s r (All-weaker P (λ (e : List ℕ × ℕ). 0 < e.1) (λ e h. h.0) es each) (All-weaker P (λ (e : List ℕ × ℕ). 0 < e.1) (λ e h. h.0) fs other)
    (λ v. counts-are es number each complete v ∙ sym (counts-are fs number other full v))
