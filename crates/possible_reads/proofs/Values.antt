-- Values that are possible, put together: what is among some stays among what is made of them.
use Rattle.possible_reads.proofs.Vocabulary.{◌≡◌, ◌==◌, ℕ, zero, suc, Bool, true, false, if◌then◌else◌, List, [], ◌∷◌, Some, None, refl}
use Rattle.possible_reads.proofs.Vocabulary.{sym, ap, ◌∙◌, ◌⊎◌, inl, inr, subst, map, filter, list_any, length, nat_lt, slice_get}
use Rattle.possible_reads.proofs.Vocabulary.{Entry, or-either, same-number, number-same, is-false, not}
use Rattle.refutation_laws.proofs.Tests.{or-first, or-second}
use Rattle.tso_terms.specs.Thread.{combined, difference_of}
use Rattle.basic_laws.specs.Types.{Operator}
use Rattle.possible_reads.specs.Expressions.{Expression, Constant, Returned, Combined, Negated, Exchanged}
use Rattle.possible_reads.specs.Possible.{Values, is_among, at_most_64, union, either_of, both_of, any_of, combined_values, negated_values}
use Rattle.possible_reads.specs.Possible.{only_where, same_number, exchanged_word, exchanged_values, values_of, can_be, kept}
use Rattle.possible_reads.specs.Laws.{IsPossible}

-- ---- lists of numbers

pub itself-among : (n : ℕ) (ns : List ℕ) → is_among (n ∷ ns) n ≡ true
itself-among n ns = or-first (n == n) _ (number-same n n refl)

among-test : (test : ℕ → Bool) (ns : List ℕ) (n : ℕ) → is_among ns n ≡ true → test n ≡ true → list_any test ns ≡ true
among-test test [] n h q = let z : ⊥ = cc in absurd z
among-test test (m ∷ ns) n h q = elim (or-either (m == n) _ h) [
  | inl e ↦ or-first (test m) _ (subst (λ k. test k ≡ true) (sym (same-number m n e)) q)
  | inr k ↦ or-second (test m) _ (among-test test ns n k q)
]

among-map : (f : ℕ → ℕ) (ns : List ℕ) (n : ℕ) → is_among ns n ≡ true → is_among (map f ns) (f n) ≡ true
among-map f [] n h = let z : ⊥ = cc in absurd z
among-map f (m ∷ ns) n h = elim (or-either (m == n) _ h) [
  | inl e ↦ or-first (f m == f n) _ (number-same (f m) (f n) (ap f (same-number m n e)))
  | inr k ↦ or-second (f m == f n) _ (among-map f ns n k)
]

among-filter : (test : ℕ → Bool) (ns : List ℕ) (n : ℕ) → is_among ns n ≡ true → test n ≡ true → is_among (filter test ns) n ≡ true
among-filter test [] n h q = h
among-filter test (m ∷ ns) n h q = go (test m) refl (or-either (m == n) _ h) (λ k. among-filter test ns n k q)
  where
    go : (b : Bool) → test m ≡ b → ((m == n) ≡ true) ⊎ (is_among ns n ≡ true) → (is_among ns n ≡ true → is_among (filter test ns) n ≡ true)
        → is_among (if b then m ∷ filter test ns else filter test ns) n ≡ true
    go true e (inl s) rest = or-first (m == n) _ s
    go true e (inr k) rest = or-second (m == n) _ (rest k)
    go false e (inl s) rest =
        let a : test m ≡ true = subst (λ k. test k ≡ true) (sym (same-number m n s)) q in
        let z : ⊥ = cc in absurd z
    go false e (inr k) rest = rest k

pub among-at : (ns : List ℕ) (n : ℕ) → is_among ns n ≡ true → (i : ℕ) × (slice_get ns i ≡ Some n)
among-at [] n h = let z : ⊥ = cc in absurd z
among-at (m ∷ ns) n h = elim (or-either (m == n) _ h) [
  | inl e ↦ (0, ap Some (same-number m n e))
  | inr k ↦ let r = among-at ns n k in (suc r.0, r.1)
]

union-second : (us vs : List ℕ) (n : ℕ) → is_among vs n ≡ true → is_among (union us vs) n ≡ true
union-second [] vs n h = h
union-second (u ∷ us) vs n h = go (is_among (union us vs) u) (union-second us vs n h)
  where
    go : (b : Bool) → is_among (union us vs) n ≡ true → is_among (if b then union us vs else u ∷ union us vs) n ≡ true
    go true k = k
    go false k = or-second (u == n) _ k

union-first : (us vs : List ℕ) (n : ℕ) → is_among us n ≡ true → is_among (union us vs) n ≡ true
union-first [] vs n h = let z : ⊥ = cc in absurd z
union-first (u ∷ us) vs n h = go (is_among (union us vs) u) refl (or-either (u == n) _ h) (λ k. union-first us vs n k)
  where
    go : (b : Bool) → is_among (union us vs) u ≡ b → ((u == n) ≡ true) ⊎ (is_among us n ≡ true)
        → (is_among us n ≡ true → is_among (union us vs) n ≡ true) → is_among (if b then union us vs else u ∷ union us vs) n ≡ true
    go true e (inl s) rest = subst (λ k. is_among (union us vs) k ≡ true) (same-number u n s) e
    go true e (inr k) rest = rest k
    go false e (inl s) rest = or-first (u == n) _ s
    go false e (inr k) rest = or-second (u == n) _ (rest k)

-- ---- values

-- a test that holds of a number that is possible can hold
pub possible-test : (vs : Values) (test : ℕ → Bool) (n : ℕ) → IsPossible vs n → test n ≡ true → can_be vs test ≡ true
possible-test None test n h q = refl
possible-test (Some vs) test n h q = among-test test vs n h q

pub itself-possible : (n : ℕ) → IsPossible (Some (n ∷ [])) n
itself-possible n = itself-among n []

at-most : (ns : List ℕ) (n : ℕ) → is_among ns n ≡ true → IsPossible (at_most_64 ns) n
at-most ns n h = go (nat_lt 64 (length ns))
  where
    go : (b : Bool) → IsPossible (if b then None else Some ns) n
    go true = refl
    go false = h

pub either-first : (us vs : Values) (n : ℕ) → IsPossible us n → IsPossible (either_of us vs) n
either-first None None n h = refl
either-first None (Some vs) n h = refl
either-first (Some us) None n h = refl
either-first (Some us) (Some vs) n h = at-most (union us vs) n (union-first us vs n h)

pub either-second : (us vs : Values) (n : ℕ) → IsPossible vs n → IsPossible (either_of us vs) n
either-second None None n h = refl
either-second None (Some vs) n h = refl
either-second (Some us) None n h = refl
either-second (Some us) (Some vs) n h = at-most (union us vs) n (union-second us vs n h)

pub both-possible : (us vs : Values) (n : ℕ) → IsPossible us n → IsPossible vs n → IsPossible (both_of us vs) n
both-possible None None n h k = refl
both-possible None (Some vs) n h k = k
both-possible (Some us) None n h k = h
both-possible (Some us) (Some vs) n h k = among-filter (is_among vs) us n h k

pub any-possible : {A : Type 0} (f : A → Values) (xs : List A) (i : ℕ) (x : A) (n : ℕ) → slice_get xs i ≡ Some x → IsPossible (f x) n
    → IsPossible (any_of (map f xs)) n
any-possible f [] i x n p h = let z : ⊥ = cc in absurd z
any-possible f (y ∷ ys) zero x n p h =
    let e : x ≡ y = cc in either-first (f y) (any_of (map f ys)) n (subst (λ z. IsPossible (f z) n) e h)
any-possible f (y ∷ ys) (suc i) x n p h = either-second (f y) (any_of (map f ys)) n (any-possible f ys i x n p h)

pub combined-possible : (operator : Operator) (us vs : Values) (m n : ℕ) → IsPossible us m → IsPossible vs n
    → IsPossible (combined_values operator us vs) (combined operator m n)
combined-possible operator None None m n h k = refl
combined-possible operator None (Some vs) m n h k = refl
combined-possible operator (Some us) None m n h k = refl
combined-possible operator (Some us) (Some vs) m n h k =
    let a = among-at us m h in
    any-possible (λ u. at_most_64 (map (combined operator u) vs)) us a.0 m (combined operator m n) a.1
    (at-most (map (combined operator m) vs) (combined operator m n) (among-map (combined operator m) vs n k))

pub negated-possible : (vs : Values) (n : ℕ) → IsPossible vs n → IsPossible (negated_values vs) (difference_of 0 n)
negated-possible None n h = refl
negated-possible (Some vs) n h = among-map (difference_of 0) vs n h

-- where the test is met, nothing is left out
where-met : (b : Bool) (vs : Values) (n : ℕ) → b ≡ true → IsPossible vs n → IsPossible (only_where b vs) n
where-met true vs n q h = h
where-met false vs n q h = let z : ⊥ = cc in absurd z

pub turned : (m e : ℕ) → (e == m) ≡ (m == e)
turned m e = go (m == e) refl
  where
    go : (b : Bool) → (m == e) ≡ b → (e == m) ≡ b
    go true q = number-same e m (sym (same-number m e q))
    go false q = is-false (e == m) (λ h.
        let k : (m == e) ≡ true = number-same m e (sym (same-number e m h)) in
        let z : ⊥ = cc in z)

-- what a compare and exchange makes of a word is among what it can make of it
word-possible : (eax new : Values) (m e n : ℕ) → IsPossible eax e → IsPossible new n → IsPossible (exchanged_word eax new m) (if m == e then n else m)
word-possible eax new m e n h k = go (m == e) refl
  where
    equal : Values
    equal = only_where (can_be eax (same_number true m)) new

    other : Values
    other = only_where (can_be eax (same_number false m)) (Some (m ∷ []))

    go : (b : Bool) → (m == e) ≡ b → IsPossible (exchanged_word eax new m) (if b then n else m)
    go true q =
        either-first equal other n
        (where-met (can_be eax (same_number true m)) new n (possible-test eax (same_number true m) e h (turned m e ∙ q)) k)
    go false q =
        either-second equal other m
        (where-met (can_be eax (same_number false m)) (Some (m ∷ [])) m
        (possible-test eax (same_number false m) e h (ap not (turned m e ∙ q))) (itself-possible m))

pub exchanged-possible : (words eax new : Values) (m e n : ℕ) → IsPossible words m → IsPossible eax e → IsPossible new n
    → IsPossible (exchanged_values words eax new) (if m == e then n else m)
exchanged-possible None eax new m e n h k l = refl
exchanged-possible (Some words) eax new m e n h k l =
    let a = among-at words m h in
    any-possible (exchanged_word eax new) words a.0 m (if m == e then n else m) a.1 (word-possible eax new m e n k l)

pub kept-possible : (test : ℕ → Bool) (vs : Values) (n : ℕ) → IsPossible vs n → test n ≡ true → IsPossible (kept test vs) n
kept-possible test None n h q = refl
kept-possible test (Some vs) n h q = among-filter test vs n h q

-- an expression's value, where the reads return this
abbrev pub value_of : (Entry → ℕ) → Expression → ℕ
value_of returned (Constant value) = value
value_of returned (Returned read) = returned read
value_of returned (Combined operator left right) = combined operator (value_of returned left) (value_of returned right)
value_of returned (Negated inner) = difference_of 0 (value_of returned inner)
value_of returned (Exchanged word eax new) = if value_of returned word == value_of returned eax then value_of returned new else value_of returned word

-- it is possible where what its reads return is
pub value-possible : (reads : Entry → Values) (returned : Entry → ℕ) → ((e : Entry) → IsPossible (reads e) (returned e)) → (x : Expression)
    → IsPossible (values_of reads x) (value_of returned x)
value-possible reads returned h (Constant value) = itself-possible value
value-possible reads returned h (Returned read) = h read
value-possible reads returned h (Combined operator left right) =
    combined-possible operator (values_of reads left) (values_of reads right) (value_of returned left) (value_of returned right)
    (value-possible reads returned h left) (value-possible reads returned h right)
value-possible reads returned h (Negated inner) =
    negated-possible (values_of reads inner) (value_of returned inner) (value-possible reads returned h inner)
value-possible reads returned h (Exchanged word eax new) =
    exchanged-possible (values_of reads word) (values_of reads eax) (values_of reads new) (value_of returned word) (value_of returned eax)
    (value_of returned new) (value-possible reads returned h word) (value-possible reads returned h eax) (value-possible reads returned h new)
