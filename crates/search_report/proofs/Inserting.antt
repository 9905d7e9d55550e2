-- One list of values more in a list of entries in ascending order.
use Rattle.search_report.proofs.Vocabulary.{◌≡◌, ◌∙◌, Bool, true, false, cond, List, [], ◌∷◌, Option, Some, None, is_some, Less, Equal}
use Rattle.search_report.proofs.Vocabulary.{Contains, refl, ap, subst, ℕ, AllByRecursion, IsStrictlySortedBy, is_eq, nat_cmp}
use Rattle.search_report.proofs.Vocabulary.{ordering_reverse, match_ordering, slice_cmp, insert_entry, is_at, lookup, keys_of}
use Rattle.search_report.proofs.Vocabulary.{nat_list_cmp_total, eq_by_cmp_equiv, tied_itself, Contains-keys_from_lookup}
use Rattle.search_report.proofs.Vocabulary.{IsSome-lookup_from_Contains}
use Rattle.std.proofs.Common.{Ordering, Greater}
use Rattle.std.proofs.lemmas.Map.Lookups.{exact_bytes}

abbrev pub R : List ℕ → List ℕ → Ordering
R = slice_cmp nat_cmp

pub same-values : (v w : List ℕ) → is_eq (R v w) ≡ true → v ≡ w
same-values v w h = exact_bytes v w (equal-is (R v w) h)
  where
    equal-is : (o : Ordering) → is_eq o ≡ true → o ≡ Equal
    equal-is Less e = absurd (let no : ⊥ = cc in no)
    equal-is Equal e = refl
    equal-is Greater e = absurd (let no : ⊥ = cc in no)

-- ---- the order stays

above : (low high : List ℕ) (all : List (List ℕ)) → R low high ≡ Less → AllByRecursion (λ y. R high y ≡ Less) all → AllByRecursion (λ y. R low y ≡ Less) all
above low high [] is h = h
above low high (x ∷ xs) is h = (nat_list_cmp_total.trans low high x is h.0, above low high xs is h.1)

module _ {X : Type 0} (v : List ℕ) (n : X) where
  keys-inserted : (P : List ℕ → Type 0) (es : List (List ℕ × X)) → P v → AllByRecursion P (keys_of es) → AllByRecursion P (keys_of (insert_entry R es v n))
  keys-inserted P [] p h = (p, h)
  keys-inserted P (e ∷ es) p h = by_order (R v e.0) (keys-inserted P es p h.1)
    where
      by_order : (o : Ordering) → AllByRecursion P (keys_of (insert_entry R es v n))
          → AllByRecursion P (keys_of (match_ordering o ((v, n) ∷ e ∷ es) ((e.0, n) ∷ es) (e ∷ insert_entry R es v n)))
      by_order Less further = (p, h)
      by_order Equal further = h
      by_order Greater further = (h.0, further)

  pub ascends : (es : List (List ℕ × X)) → IsStrictlySortedBy R (keys_of es) → IsStrictlySortedBy R (keys_of (insert_entry R es v n))
  unfolding IsStrictlySortedBy
  ascends [] h = (h, h)
  ascends (e ∷ es) h = by_order (R v e.0) refl (ascends es h.1)
    where
      by_order : (o : Ordering) → R v e.0 ≡ o → IsStrictlySortedBy R (keys_of (insert_entry R es v n))
          → IsStrictlySortedBy R (keys_of (match_ordering o ((v, n) ∷ e ∷ es) ((e.0, n) ∷ es) (e ∷ insert_entry R es v n)))
      by_order Less is further = ((is, above v e.0 (keys_of es) is h.0), h)
      by_order Equal is further = h
      by_order Greater is further =
          (keys-inserted (λ y. R e.0 y ≡ Less) es (nat_list_cmp_total.antisymm e.0 v ∙ ap ordering_reverse is) h.0, further)

  -- ---- what holds of the entry and of each other one

  pub each-inserted : (P : List ℕ × X → Type 0) (es : List (List ℕ × X)) → P (v, n) → AllByRecursion P es → AllByRecursion P (insert_entry R es v n)
  each-inserted P [] p h = (p, h)
  each-inserted P (e ∷ es) p h = by_order (R v e.0) refl (each-inserted P es p h.1)
    where
      by_order : (o : Ordering) → R v e.0 ≡ o → AllByRecursion P (insert_entry R es v n)
          → AllByRecursion P (match_ordering o ((v, n) ∷ e ∷ es) ((e.0, n) ∷ es) (e ∷ insert_entry R es v n))
      by_order Less is further = (p, h)
      by_order Equal is further = (subst (λ w. P (w, n)) (exact_bytes v e.0 is) p, h.1)
      by_order Greater is further = (h.0, further)

  -- ---- which lists of values are there

  kept-on : (b : Bool) (x y : X) (o : Option X) → is_some (cond b (Some x) o) ≡ true → is_some (cond b (Some y) o) ≡ true
  kept-on true x y o h = refl
  kept-on false x y o h = h

  kept-more : (b : Bool) (x : X) (o : Option X) → is_some o ≡ true → is_some (cond b (Some x) o) ≡ true
  kept-more true x o h = refl
  kept-more false x o h = h

  kept-beside : (b : Bool) (x : X) (o r : Option X)
      → (is_some o ≡ true → is_some r ≡ true)
      → is_some (cond b (Some x) o) ≡ true
      → is_some (cond b (Some x) r) ≡ true
  kept-beside true x o r f h = refl
  kept-beside false x o r f h = f h

  found-still : (w : List ℕ) (es : List (List ℕ × X)) → is_some (lookup (is_at (R w)) es) ≡ true → is_some (lookup (is_at (R w)) (insert_entry R es v n)) ≡ true
  found-still w [] h = absurd (let no : ⊥ = cc in no)
  found-still w (e ∷ es) h = by_order (R v e.0) (found-still w es)
    where
      by_order : (o : Ordering) → (is_some (lookup (is_at (R w)) es) ≡ true → is_some (lookup (is_at (R w)) (insert_entry R es v n)) ≡ true)
          → is_some (lookup (is_at (R w)) (match_ordering o ((v, n) ∷ e ∷ es) ((e.0, n) ∷ es) (e ∷ insert_entry R es v n))) ≡ true
      by_order Less further = kept-more (is_eq (R w v)) n (lookup (is_at (R w)) (e ∷ es)) h
      by_order Equal further = kept-on (is_eq (R w e.0)) e.1 n (lookup (is_at (R w)) es) h
      by_order Greater further = kept-beside (is_eq (R w e.0)) e.1 (lookup (is_at (R w)) es) (lookup (is_at (R w)) (insert_entry R es v n)) further h

  found-there : (es : List (List ℕ × X)) → is_some (lookup (is_at (R v)) (insert_entry R es v n)) ≡ true
  found-there [] = ap (λ o. is_some (cond (is_eq o) (Some n) None)) (tied_itself nat_list_cmp_total v)
  found-there (e ∷ es) = by_order (R v e.0) refl (found-there es)
    where
      by_order : (o : Ordering) → R v e.0 ≡ o → is_some (lookup (is_at (R v)) (insert_entry R es v n)) ≡ true
          → is_some (lookup (is_at (R v)) (match_ordering o ((v, n) ∷ e ∷ es) ((e.0, n) ∷ es) (e ∷ insert_entry R es v n))) ≡ true
      by_order Less is further = ap (λ o. is_some (cond (is_eq o) (Some n) (lookup (is_at (R v)) (e ∷ es)))) (tied_itself nat_list_cmp_total v)
      by_order Equal is further = ap (λ o. is_some (cond (is_eq o) (Some n) (lookup (is_at (R v)) es))) is
      by_order Greater is further = kept-more (is_eq (R v e.0)) e.1 (lookup (is_at (R v)) (insert_entry R es v n)) further

  pub stands-still : (w : List ℕ) (es : List (List ℕ × X)) → Contains (keys_of es) w → Contains (keys_of (insert_entry R es v n)) w
  stands-still w es h =
      Contains-keys_from_lookup same-values w (insert_entry R es v n)
      (found-still w es (IsSome-lookup_from_Contains (eq_by_cmp_equiv nat_list_cmp_total) w es h))

  pub stands-there : (es : List (List ℕ × X)) → Contains (keys_of (insert_entry R es v n)) v
  stands-there es = Contains-keys_from_lookup same-values v (insert_entry R es v n) (found-there es)
