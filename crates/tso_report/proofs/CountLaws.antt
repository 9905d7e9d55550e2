-- One run more raises one count and keeps the order.
use Rattle.tso_report.proofs.Vocabulary.{◌≡◌, ◌≢◌, ◌∙◌, ℕ, ◌+◌, cond, List, [], ◌∷◌, Option, Some, None, unwrap_or, refl, sym, ap, Ordering}
use Rattle.tso_report.proofs.Vocabulary.{Less, Equal, Greater, nat_cmp, match_ordering, is_eq, ordering_reverse, slice_cmp, insert_entry}
use Rattle.tso_report.proofs.Vocabulary.{is_at, lookup, keys_of, AllByRecursion, IsStrictlySortedBy, nat_list_cmp_total, tied_itself}
use Rattle.tso_report.proofs.Vocabulary.{count_of_runs, with_values, Ascend}
use Rattle.std.proofs.lemmas.Map.Lookups.{exact_bytes}

-- ---- the count of the values themselves

lookup-inserted : (values : List ℕ) (n : ℕ) (es : List (List ℕ × ℕ))
    → lookup (is_at (slice_cmp nat_cmp values)) (insert_entry (slice_cmp nat_cmp) es values n) ≡ Some n
lookup-inserted values n [] = ap (λ o. cond (is_eq o) (Some n) None) (tied_itself nat_list_cmp_total values)
lookup-inserted values n (e ∷ es) = by_order (slice_cmp nat_cmp values e.0) refl (lookup-inserted values n es)
  where
    by_order : (o : Ordering)
        → slice_cmp nat_cmp values e.0 ≡ o
        → lookup (is_at (slice_cmp nat_cmp values)) (insert_entry (slice_cmp nat_cmp) es values n) ≡ Some n
        → lookup (is_at (slice_cmp nat_cmp values))
        (match_ordering o ((values, n) ∷ e ∷ es) ((e.0, n) ∷ es) (e ∷ insert_entry (slice_cmp nat_cmp) es values n))
        ≡ Some n
    by_order Less is further = ap (λ o. cond (is_eq o) (Some n) (lookup (is_at (slice_cmp nat_cmp values)) (e ∷ es))) (tied_itself nat_list_cmp_total values)
    by_order Equal is further = ap (λ o. cond (is_eq o) (Some n) (lookup (is_at (slice_cmp nat_cmp values)) es)) is
    by_order Greater is further =
        ap (λ o. cond (is_eq o) (Some e.1) (lookup (is_at (slice_cmp nat_cmp values)) (insert_entry (slice_cmp nat_cmp) es values n))) is
        ∙ further

pub own-count : (values : List ℕ) (states : List (List ℕ × ℕ)) → count_of_runs values (with_values values states) ≡ count_of_runs values states + 1
own-count values states = ap (λ o. unwrap_or o 0) (lookup-inserted values (count_of_runs values states + 1) states)

-- ---- every other count

skipped : (other values : List ℕ) (n : ℕ) (o : Option ℕ) → other ≢ values → cond (is_eq (slice_cmp nat_cmp other values)) (Some n) o ≡ o
skipped other values n o differ = by_order (slice_cmp nat_cmp other values) refl
  where
    by_order : (r : Ordering) → slice_cmp nat_cmp other values ≡ r → cond (is_eq r) (Some n) o ≡ o
    by_order Less is = refl
    by_order Equal is = absurd (differ (exact_bytes other values is))
    by_order Greater is = refl

lookup-other : (other values : List ℕ) (n : ℕ) (es : List (List ℕ × ℕ)) → other ≢ values
    → lookup (is_at (slice_cmp nat_cmp other)) (insert_entry (slice_cmp nat_cmp) es values n) ≡ lookup (is_at (slice_cmp nat_cmp other)) es
lookup-other other values n [] differ = skipped other values n None differ
lookup-other other values n (e ∷ es) differ = by_order (slice_cmp nat_cmp values e.0) refl (lookup-other other values n es differ)
  where
    by_order : (o : Ordering)
        → slice_cmp nat_cmp values e.0 ≡ o
        → lookup (is_at (slice_cmp nat_cmp other)) (insert_entry (slice_cmp nat_cmp) es values n)
        ≡ lookup (is_at (slice_cmp nat_cmp other)) es
        → lookup (is_at (slice_cmp nat_cmp other)) (match_ordering o ((values, n) ∷ e ∷ es) ((e.0, n) ∷ es) (e ∷ insert_entry (slice_cmp nat_cmp) es values n))
        ≡ lookup (is_at (slice_cmp nat_cmp other)) (e ∷ es)
    by_order Less is further = skipped other values n (lookup (is_at (slice_cmp nat_cmp other)) (e ∷ es)) differ
    by_order Equal is further =
        let apart : other ≢ e.0 = λ same. differ (same ∙ sym (exact_bytes values e.0 is)) in
        skipped other e.0 n (lookup (is_at (slice_cmp nat_cmp other)) es) apart
        ∙ sym (skipped other e.0 e.1 (lookup (is_at (slice_cmp nat_cmp other)) es) apart)
    by_order Greater is further = ap (λ o. cond (is_eq (slice_cmp nat_cmp other e.0)) (Some e.1) o) further

pub other-count : (values other : List ℕ) (states : List (List ℕ × ℕ))
    → other ≢ values
    → count_of_runs other (with_values values states) ≡ count_of_runs other states
other-count values other states differ = ap (λ o. unwrap_or o 0) (lookup-other other values (count_of_runs values states + 1) states differ)

-- ---- the order

above : (low high : List ℕ) (all : List (List ℕ))
    → slice_cmp nat_cmp low high ≡ Less
    → AllByRecursion (λ y. slice_cmp nat_cmp high y ≡ Less) all
    → AllByRecursion (λ y. slice_cmp nat_cmp low y ≡ Less) all
above low high [] is h = h
above low high (x ∷ xs) is h = (nat_list_cmp_total.trans low high x is h.0, above low high xs is h.1)

all-inserted : (P : List ℕ → Type 0) (values : List ℕ) (n : ℕ) (es : List (List ℕ × ℕ))
    → P values
    → AllByRecursion P (keys_of es)
    → AllByRecursion P (keys_of (insert_entry (slice_cmp nat_cmp) es values n))
all-inserted P values n [] p h = (p, h)
all-inserted P values n (e ∷ es) p h = by_order (slice_cmp nat_cmp values e.0) (all-inserted P values n es p h.1)
  where
    by_order : (o : Ordering) → AllByRecursion P (keys_of (insert_entry (slice_cmp nat_cmp) es values n))
        → AllByRecursion P (keys_of (match_ordering o ((values, n) ∷ e ∷ es) ((e.0, n) ∷ es) (e ∷ insert_entry (slice_cmp nat_cmp) es values n)))
    by_order Less further = (p, h)
    by_order Equal further = h
    by_order Greater further = (h.0, further)

insert-ascends : (values : List ℕ) (n : ℕ) (es : List (List ℕ × ℕ)) → IsStrictlySortedBy (slice_cmp nat_cmp) (keys_of es)
    → IsStrictlySortedBy (slice_cmp nat_cmp) (keys_of (insert_entry (slice_cmp nat_cmp) es values n))
unfolding IsStrictlySortedBy
insert-ascends values n [] h = (h, h)
insert-ascends values n (e ∷ es) h = by_order (slice_cmp nat_cmp values e.0) refl (insert-ascends values n es h.1)
  where
    by_order : (o : Ordering)
        → slice_cmp nat_cmp values e.0 ≡ o
        → IsStrictlySortedBy (slice_cmp nat_cmp) (keys_of (insert_entry (slice_cmp nat_cmp) es values n))
        → IsStrictlySortedBy (slice_cmp nat_cmp)
        (keys_of (match_ordering o ((values, n) ∷ e ∷ es) ((e.0, n) ∷ es) (e ∷ insert_entry (slice_cmp nat_cmp) es values n)))
    by_order Less is further = ((is, above values e.0 (keys_of es) is h.0), h)
    by_order Equal is further = h
    by_order Greater is further =
        (all-inserted (λ y. slice_cmp nat_cmp e.0 y ≡ Less) values n es (nat_list_cmp_total.antisymm e.0 values ∙ ap ordering_reverse is) h.0, further)

pub states-ascend : (values : List ℕ) (states : List (List ℕ × ℕ)) → Ascend states → Ascend (with_values values states)
states-ascend values states h = insert-ascends values (count_of_runs values states + 1) states h
