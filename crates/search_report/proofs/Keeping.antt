-- What is kept of a list of final states: of those that look alike one.
use Rattle.search_report.proofs.Vocabulary.{◌≡◌, ◌∙◌, ◌<◌, Bool, true, false, cond, List, [], ◌∷◌, map, length, drop, slice_index_or, ◌+◌}
use Rattle.search_report.proofs.Vocabulary.{is_some, Some, Vec, Bor, All, Contains, refl, sym, ap, subst, ℕ, AllByRecursion}
use Rattle.search_report.proofs.Vocabulary.{IsStrictlySortedBy, is_eq, match_ordering, insert_entry, is_at, lookup, keys_of, values_of}
use Rattle.search_report.proofs.Vocabulary.{Global, Ordering, Greater, Contains-keys_from_lookup, All-from_recursion, recursion_from_All}
use Rattle.search_report.proofs.Vocabulary.{get_or-map, length-map, drop_more, Litmus, FinalState, shown_value, Named, Outcome, outcome_of}
use Rattle.search_report.proofs.Vocabulary.{shown_values, ArePrinted, IsOutcomeOf, is_kept, kept_of, with_outcome, kept_after, AreShown}
use Rattle.std.specs.declared.cmp.Ordering.TheVariants.{Less, Equal}
use Rattle.search_report.proofs.Inserting.{R, same-values, ascends, each-inserted, stands-still, stands-there}

abbrev pub Kept : Type 0
Kept = List (List ℕ × Outcome)

-- ---- one more

with-ascends : (v : List ℕ) (o : Outcome) (kept : Kept) → IsStrictlySortedBy R (keys_of kept) → IsStrictlySortedBy R (keys_of (with_outcome v o kept))
with-ascends v o kept h = by_kept (is_kept v kept)
  where
    by_kept : (b : Bool) → IsStrictlySortedBy R (keys_of (cond b kept (insert_entry R kept v o)))
    by_kept true = h
    by_kept false = ascends v o kept h

with-each : (P : List ℕ × Outcome → Type 0) (v : List ℕ) (o : Outcome) (kept : Kept)
    → P (v, o)
    → AllByRecursion P kept
    → AllByRecursion P (with_outcome v o kept)
with-each P v o kept p h = by_kept (is_kept v kept)
  where
    by_kept : (b : Bool) → AllByRecursion P (cond b kept (insert_entry R kept v o))
    by_kept true = h
    by_kept false = each-inserted v o P kept p h

with-still : (w v : List ℕ) (o : Outcome) (kept : Kept) → Contains (keys_of kept) w → Contains (keys_of (with_outcome v o kept)) w
with-still w v o kept h = by_kept (is_kept v kept)
  where
    by_kept : (b : Bool) → Contains (keys_of (cond b kept (insert_entry R kept v o))) w
    by_kept true = h
    by_kept false = stands-still v o w kept h

with-there : (v : List ℕ) (o : Outcome) (kept : Kept) → Contains (keys_of (with_outcome v o kept)) v
with-there v o kept = by_kept (is_kept v kept) refl
  where
    by_kept : (b : Bool) → is_kept v kept ≡ b → Contains (keys_of (cond b kept (insert_entry R kept v o))) v
    by_kept true is = Contains-keys_from_lookup same-values v kept is
    by_kept false is = stands-there v o kept

-- ---- all of them

after-ascends : (names : List Named) (kept : Kept) (finals : List FinalState)
    → IsStrictlySortedBy R (keys_of kept)
    → IsStrictlySortedBy R (keys_of (kept_after names kept finals))
after-ascends names kept [] h = h
after-ascends names kept (f ∷ rest) h =
    let o = outcome_of f in after-ascends names (with_outcome (shown_values names o) o kept) rest (with-ascends (shown_values names o) o kept h)

after-each : (P : List ℕ × Outcome → Type 0) (names : List Named) (kept : Kept) (finals : List FinalState)
    → AllByRecursion (λ f. P (shown_values names (outcome_of f), outcome_of f)) finals
    → AllByRecursion P kept → AllByRecursion P (kept_after names kept finals)
after-each P names kept [] p h = h
after-each P names kept (f ∷ rest) p h =
    let o = outcome_of f in after-each P names (with_outcome (shown_values names o) o kept) rest p.1 (with-each P (shown_values names o) o kept p.0 h)

after-still : (w : List ℕ) (names : List Named) (kept : Kept) (finals : List FinalState)
    → Contains (keys_of kept) w
    → Contains (keys_of (kept_after names kept finals)) w
after-still w names kept [] h = h
after-still w names kept (f ∷ rest) h =
    let o = outcome_of f in after-still w names (with_outcome (shown_values names o) o kept) rest (with-still w (shown_values names o) o kept h)

after-there : (names : List Named) (kept : Kept) (finals : List FinalState)
    → AllByRecursion (λ f. Contains (keys_of (kept_after names kept finals)) (shown_values names (outcome_of f))) finals
after-there names kept [] = tt
after-there names kept (f ∷ rest) =
    let o = outcome_of f in
    let more = with_outcome (shown_values names o) o kept in
    (after-still (shown_values names o) names more rest (with-there (shown_values names o) o kept), after-there names more rest)

-- ---- what is kept in the end

abbrev Stands : Litmus → List Named → List FinalState → List ℕ × Outcome → Type 0
Stands t names finals k = (k.0 ≡ shown_values names k.1) × IsOutcomeOf t k.1 × Contains (map outcome_of finals) k.1

each-stands : (t : Litmus) (names : List Named) (finals : List FinalState) → All (λ f. IsOutcomeOf t (outcome_of f)) finals
    → All (λ f. Stands t names finals (shown_values names (outcome_of f), outcome_of f)) finals
each-stands t names finals h k d lt = (
  refl,
  h k d lt,
  (
    k,
    subst (λ n. k < n) (sym (length-map finals outcome_of)) lt,
    get_or-map outcome_of finals k d (outcome_of (slice_index_or finals k d)) lt,
  ),
)

stand : (t : Litmus) (names : List Named) (finals : List FinalState)
    → All (λ f. IsOutcomeOf t (outcome_of f)) finals
    → AllByRecursion (Stands t names finals) (kept_after names [] finals)
stand t names finals h =
    after-each (Stands t names finals) names [] finals
    (recursion_from_All (λ f. Stands t names finals (shown_values names (outcome_of f), outcome_of f)) finals (each-stands t names finals h)) tt

-- weaker of each
weaker : (P Q : List ℕ × Outcome → Type 0) → ((k : List ℕ × Outcome) → P k → Q k) → (kept : Kept) → AllByRecursion P kept → AllByRecursion Q kept
weaker P Q f [] h = tt
weaker P Q f (k ∷ kept) h = (f k h.0, weaker P Q f kept h.1)

of-values : (P : Outcome → Type 0) (kept : Kept) → AllByRecursion (λ k. P k.1) kept → AllByRecursion P (values_of kept)
of-values P [] h = tt
of-values P (k ∷ kept) h = (h.0, of-values P kept h.1)

pub keys-shown : (names : List Named) (kept : Kept)
    → AllByRecursion (λ k. k.0 ≡ shown_values names k.1) kept
    → keys_of kept ≡ map (shown_values names) (values_of kept)
keys-shown names [] h = refl
keys-shown names (k ∷ kept) h = ap (λ v. v ∷ keys_of kept) h.0 ∙ ap (λ rest. shown_values names k.1 ∷ rest) (keys-shown names kept h.1)

pub kept-shown : (t : Litmus) (names : List Named) (finals : List FinalState)
    → All (λ f. IsOutcomeOf t (outcome_of f)) finals
    → AreShown t names (kept_after names [] finals)
kept-shown t names finals h =
    let kept = kept_after names [] finals in
    All-from_recursion (λ k. (k.0 ≡ shown_values names k.1) × IsOutcomeOf t k.1) kept
    (weaker (Stands t names finals) (λ k. (k.0 ≡ shown_values names k.1) × IsOutcomeOf t k.1) (λ k s. (s.0, s.1)) kept (stand t names finals h))

none-ascend : IsStrictlySortedBy R []
unfolding IsStrictlySortedBy
none-ascend = tt

pub kept-printed : (t : Litmus) (names : List Named) (finals : List FinalState)
    → All (λ f. IsOutcomeOf t (outcome_of f)) finals
    → ArePrinted names finals (values_of (kept_after names [] finals))
kept-printed t names finals h =
    let kept = kept_after names [] finals in
    let standing = stand t names finals h in
    let keys : keys_of kept ≡ map (shown_values names) (values_of kept) =
    keys-shown names kept (weaker (Stands t names finals) (λ k. k.0 ≡ shown_values names k.1) (λ k s. s.0) kept standing) in
    record {
      ascending = subst (IsStrictlySortedBy R) keys (after-ascends names [] finals none-ascend);
      found = All-from_recursion (Contains (map outcome_of finals)) (values_of kept)
          (of-values (Contains (map outcome_of finals)) kept
          (weaker (Stands t names finals) (λ k. Contains (map outcome_of finals) k.1) (λ k s. s.2) kept standing));
      complete = subst (λ values. All (λ f. Contains values (shown_values names (outcome_of f))) finals) keys
          (All-from_recursion (λ f. Contains (keys_of kept) (shown_values names (outcome_of f))) finals (after-there names [] finals));
    }

-- ---- the map that keeps them

-- vectors are compared as lists
abbrev by_items : Vec ℕ Global → Vec ℕ Global → Ordering
by_items x y = R x.items y.items

lookup-kept_of : (v : List ℕ) (es : List (Vec ℕ Global × Bor FinalState))
    → is_some (lookup (λ (k : Vec ℕ Global). is_eq (R v k.items)) es) ≡ is_kept v (kept_of es)
lookup-kept_of v [] = refl
lookup-kept_of v (e ∷ es) = by_test (is_eq (R v e.0.items)) (lookup-kept_of v es)
  where
    by_test : (b : Bool) → is_some (lookup (λ (k : Vec ℕ Global). is_eq (R v k.items)) es) ≡ is_kept v (kept_of es)
        → is_some (cond b (Some e.1) (lookup (λ (k : Vec ℕ Global). is_eq (R v k.items)) es))
        ≡ is_some (cond b (Some (outcome_of e.1.now)) (lookup (is_at (R v)) (kept_of es)))
    by_test true further = refl
    by_test false further = further

insert-kept_of : (k : Vec ℕ Global) (f : Bor FinalState) (es : List (Vec ℕ Global × Bor FinalState))
    → kept_of (insert_entry by_items es k f) ≡ insert_entry R (kept_of es) k.items (outcome_of f.now)
insert-kept_of k f [] = refl
insert-kept_of k f (e ∷ es) = by_order (by_items k e.0) (insert-kept_of k f es)
  where
    by_order : (o : Ordering) → kept_of (insert_entry by_items es k f) ≡ insert_entry R (kept_of es) k.items (outcome_of f.now)
        → kept_of (match_ordering o ((k, f) ∷ e ∷ es) ((e.0, f) ∷ es) (e ∷ insert_entry by_items es k f))
        ≡ match_ordering o ((k.items, outcome_of f.now) ∷ (e.0.items, outcome_of e.1.now) ∷ kept_of es) ((e.0.items, outcome_of f.now) ∷ kept_of es)
        ((e.0.items, outcome_of e.1.now) ∷ insert_entry R (kept_of es) k.items (outcome_of f.now))
    by_order Less further = refl
    by_order Equal further = refl
    by_order Greater further = ap (λ rest. (e.0.items, outcome_of e.1.now) ∷ rest) further

pub first-kept : (k : Vec ℕ Global) (f : Bor FinalState) (es new : List (Vec ℕ Global × Bor FinalState)) (there : Bool)
    → there ≡ is_some (lookup (λ (x : Vec ℕ Global). is_eq (R k.items x.items)) es) → there ≡ false → new ≡ insert_entry by_items es k f
    → kept_of new ≡ with_outcome k.items (outcome_of f.now) (kept_of es)
first-kept k f es new there found not_there is =
    let none : is_kept k.items (kept_of es) ≡ false = sym (lookup-kept_of k.items es) ∙ (sym found ∙ not_there) in
    ap kept_of is ∙ (insert-kept_of k f es ∙ sym (ap (λ b. cond b (kept_of es) (insert_entry R (kept_of es) k.items (outcome_of f.now))) none))

pub later-left : (k : Vec ℕ Global) (f : Bor FinalState) (es : List (Vec ℕ Global × Bor FinalState)) (there : Bool)
    → there ≡ is_some (lookup (λ (x : Vec ℕ Global). is_eq (R k.items x.items)) es) → there ≡ true
    → kept_of es ≡ with_outcome k.items (outcome_of f.now) (kept_of es)
later-left k f es there found is_there =
    let one : is_kept k.items (kept_of es) ≡ true = sym (lookup-kept_of k.items es) ∙ (sym found ∙ is_there) in
    sym (ap (λ b. cond b (kept_of es) (insert_entry R (kept_of es) k.items (outcome_of f.now))) one)

-- ---- one final state after the other

pub one-kept : (names : List Named) (f : FinalState) (finals : List FinalState) (i : ℕ) (old new whole : Kept)
    (registers : List (List ℕ)) (memory values : List ℕ)
    → i < length finals → f ≡ slice_index_or finals i f → registers ≡ f.registers.items → memory ≡ f.memory.items
    → values ≡ map (shown_value registers memory) names → new ≡ with_outcome values (outcome_of f) old
    → kept_after names old (drop i finals) ≡ whole → kept_after names new (drop (i + 1) finals) ≡ whole
one-kept names f finals i old new whole registers memory values small is_f are_registers are_words are is was =
    let o = outcome_of f in
    let rest = drop (i + 1) finals in
    let shown : values ≡ shown_values names o =
    are ∙ (ap (λ r. map (shown_value r memory) names) are_registers ∙ ap (λ m. map (shown_value f.registers.items m) names) are_words) in
    let next : drop i finals ≡ f ∷ rest = drop_more finals i f small ∙ ap (λ x. x ∷ rest) (sym is_f) in
    ap (λ kept. kept_after names kept rest) (is ∙ ap (λ v. with_outcome v o old) shown) ∙ (sym (ap (λ list. kept_after names old list) next) ∙ was)
