-- The lists of values with their counts, as a map of vectors keeps them.
use Rattle.tso_report.proofs.Vocabulary.{◌≡◌, ◌∙◌, ℕ, ◌+◌, ◌≤◌, cond, List, [], ◌∷◌, sum, Vec, Option, Some, None, unwrap_or, option_map}
use Rattle.tso_report.proofs.Vocabulary.{refl, sym, ap, arith, Ordering, Less, Equal, Greater, nat_cmp, match_ordering, is_eq, slice_cmp}
use Rattle.tso_report.proofs.Vocabulary.{insert_entry, is_at, lookup, keys_of, values_of, IsStrictlySortedBy, nat_list_cmp_total, on_total}
use Rattle.tso_report.proofs.Vocabulary.{count_of_runs, with_values, counted_states}
use Rattle.std.specs.declared.alloc.Global.{Global}
use Rattle.std.specs.Cmp.{IsTotalOrder}
use Rattle.std.proofs.lemmas.Map.Entries.{sum_by-insert_entry}
use Rattle.std.proofs.lemmas.Map.Steps.{lookup-le-sum}

-- vectors are compared as lists
abbrev pub by_items : Vec ℕ Global → Vec ℕ Global → Ordering
by_items x y = slice_cmp nat_cmp x.items y.items

by_items_total : IsTotalOrder by_items
by_items_total = on_total (λ (x : Vec ℕ Global). x.items) nat_list_cmp_total

pub lookup-states_of : (values : List ℕ) (es : List (Vec ℕ Global × ℕ))
    → lookup (λ (k : Vec ℕ Global). is_eq (slice_cmp nat_cmp values k.items)) es
    ≡ lookup (is_at (slice_cmp nat_cmp values)) (counted_states es)
lookup-states_of values [] = refl
lookup-states_of values (e ∷ es) = ap (cond (is_eq (slice_cmp nat_cmp values e.0.items)) (Some e.1)) (lookup-states_of values es)

pub insert-states_of : (k : Vec ℕ Global) (n : ℕ) (es : List (Vec ℕ Global × ℕ))
    → counted_states (insert_entry by_items es k n) ≡ insert_entry (slice_cmp nat_cmp) (counted_states es) k.items n
insert-states_of k n [] = refl
insert-states_of k n (e ∷ es) = by_order (by_items k e.0) (insert-states_of k n es)
  where
    by_order : (o : Ordering) → counted_states (insert_entry by_items es k n) ≡ insert_entry (slice_cmp nat_cmp) (counted_states es) k.items n
        → counted_states (match_ordering o ((k, n) ∷ e ∷ es) ((e.0, n) ∷ es) (e ∷ insert_entry by_items es k n))
        ≡ match_ordering o ((k.items, n) ∷ (e.0.items, e.1) ∷ counted_states es) ((e.0.items, n) ∷ counted_states es)
        ((e.0.items, e.1) ∷ insert_entry (slice_cmp nat_cmp) (counted_states es) k.items n)
    by_order Less further = refl
    by_order Equal further = refl
    by_order Greater further = ap (λ rest. (e.0.items, e.1) ∷ rest) further

values-states_of : (es : List (Vec ℕ Global × ℕ)) → values_of (counted_states es) ≡ values_of es
values-states_of [] = refl
values-states_of (e ∷ es) = ap (λ rest. e.1 ∷ rest) (values-states_of es)

-- a count is no greater than all counts together
pub count-few : (values : List ℕ) (es : List (Vec ℕ Global × ℕ)) → count_of_runs values (counted_states es) ≤ sum (values_of (counted_states es))
count-few values es = lookup-le-sum (is_at (slice_cmp nat_cmp values)) (counted_states es)

same-count : (o : Option ℕ) → unwrap_or (option_map (λ x. x) o) 0 ≡ unwrap_or o 0
same-count None = refl
same-count (Some n) = refl

-- with one count raised, all counts together are raised by one
pub sum-raised : (k : Vec ℕ Global) (n : ℕ) (es new : List (Vec ℕ Global × ℕ)) → IsStrictlySortedBy by_items (keys_of es)
    → n ≡ count_of_runs k.items (counted_states es) → new ≡ insert_entry by_items es k (n + 1)
    → sum (values_of (counted_states new)) ≡ sum (values_of (counted_states es)) + 1
sum-raised k n es new sorted is are =
    let inserted = insert_entry by_items es k (n + 1) in
    let whole : sum (values_of inserted) + unwrap_or (option_map (λ x. x) (lookup (is_at (by_items k)) es)) 0 ≡ sum (values_of es) + (n + 1) =
    sum_by-insert_entry (λ (x : ℕ). x) by_items_total es k (n + 1) sorted in
    let old : unwrap_or (option_map (λ x. x) (lookup (is_at (by_items k)) es)) 0 ≡ n =
    same-count (lookup (is_at (by_items k)) es) ∙ (ap (λ o. unwrap_or o 0) (lookup-states_of k.items es) ∙ sym is) in
    let before : sum (values_of (counted_states es)) ≡ sum (values_of es) = ap sum (values-states_of es) in
    let after : sum (values_of (counted_states new)) ≡ sum (values_of inserted) = ap sum (values-states_of new) ∙ ap (λ entries. sum (values_of entries)) are in
    omega (arith, whole, old, before, after)

-- with one count raised, the states are those with one run more
pub states-raised : (k : Vec ℕ Global) (n : ℕ) (es new : List (Vec ℕ Global × ℕ))
    → n ≡ count_of_runs k.items (counted_states es)
    → new ≡ insert_entry by_items es k (n + 1)
    → counted_states new ≡ with_values k.items (counted_states es)
states-raised k n es new is are =
    ap counted_states are ∙ (insert-states_of k (n + 1) es ∙ ap (λ count. insert_entry (slice_cmp nat_cmp) (counted_states es) k.items (count + 1)) is)
