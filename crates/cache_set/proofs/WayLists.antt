-- The ways of a set: what is found in them by a line is found in the copies that they hold, and what a call makes of one way
-- is what the set's contents are to become.
use Rattle.cache_set.proofs.Vocabulary.{arith, ◌≡◌, ◌≢◌, ◌<◌, ◌≤◌, ◌⊎◌, ℕ, zero, suc, Bool, true, false, List, [], ◌∷◌, length, take}
use Rattle.cache_set.proofs.Vocabulary.{slice_get, Option, Some, None, IsSome, option_map, nat_eq, inl, inr, refl, sym, ap, subst, ◌∙◌}
use Rattle.cache_set.proofs.Vocabulary.{eqb_tells, eq-eqb, option_copied_mut, keys_of, lookup, lookup_entry, remove_entry, set_value, I}
use Rattle.cache_set.proofs.Vocabulary.{Line, Way, is_invalid, is_empty, has_line, copies_in, way_of, first_empty, first_full, NumbersBelow}
use Rattle.std.specs.Prelude.{⊤}
use Rattle.std.specs.Borrow.{MutBor}
use Rattle.std.specs.List.{IsDistinct, AllByRecursion}
use Rattle.protocol_tables.specs.declared.state.State.{State}

-- no number comes twice
abbrev pub NoNumberTwice : List (ℕ × Way) → Type 0
NoNumberTwice [] = ⊤
NoNumberTwice (e ∷ es) = (lookup (nat_eq e.0) es ≡ None) × NoNumberTwice es

abbrev no_way : Option Way
no_way = None

abbrev no_number : Option ℕ
no_number = None

tells : (b : Bool) → (b ≡ true) ⊎ (b ≡ false)
tells true = inl refl
tells false = inr refl

pub is_invalid-valid : (s : State) → s ≢ I → is_invalid s ≡ false
is_invalid-valid I h = absurd (h refl)
is_invalid-valid _ h = refl

absent-all : (k : ℕ) (es : List (ℕ × Way)) → AllByRecursion (λ y. nat_eq k y ≡ false) (keys_of es) → lookup (nat_eq k) es ≡ None
absent-all k [] h = refl
absent-all k (e ∷ es) h = rw h.0 (absent-all k es h.1)

pub once-distinct : (es : List (ℕ × Way)) → IsDistinct nat_eq (keys_of es) → NoNumberTwice es
unfolding IsDistinct
once-distinct [] d = tt
once-distinct (e ∷ es) d = (absent-all e.0 es d.0, once-distinct es d.1)

-- a number that is found isn't one that isn't there
other-number : (w k : ℕ) (way : Way) (es : List (ℕ × Way)) → lookup (nat_eq k) es ≡ None → lookup (nat_eq w) es ≡ Some way → nat_eq w k ≡ false
other-number w k way es absent found = elim (eqb_tells w k) [
  | inl q ↦ let nowhere : no_way ≡ Some way = sym absent ∙ rw q.1 at found in cc
  | inr q ↦ q.0
]

-- a reference that shows a way is there
pub some-copied : (o : Option (MutBor Way)) (way : Way) → option_copied_mut o ≡ Some way → IsSome o
some-copied None way h = cc
some-copied (Some r) way h = refl

-- A line that lies in a way.

-- a way that has a line isn't empty, and it is that line
has-line : (line : ℕ) (way : Way) → has_line line way ≡ true → (is_empty way ≡ false) × (line ≡ way.line)
has-line line way h = elim (tells (is_empty way)) [
  | inl p ↦ let no : false ≡ true = rw p at h in cc
  | inr p ↦ elim (eqb_tells line way.line) [
    | inl q ↦ (p, q.1)
    | inr q ↦ let no : false ≡ true = rw (p, q.0) at h in cc
  ]
]

-- a way that hasn't a line is empty, or has another
other-line : (line : ℕ) (way : Way) → has_line line way ≡ false → (is_empty way ≡ true) ⊎ ((is_empty way ≡ false) × (nat_eq line way.line ≡ false))
other-line line way h = elim (tells (is_empty way)) [
  | inl p ↦ inl p
  | inr p ↦ inr (p, rw p at h)
]

-- there is a way with the number that a search for a line found
pub way_of-found : (line w : ℕ) (es : List (ℕ × Way)) → way_of line es ≡ Some w → (way : Way) × (lookup (nat_eq w) es ≡ Some way)
way_of-found line w [] h = cc
way_of-found line w (e ∷ es) h = elim (tells (has_line line e.1)) [
  | inl p ↦ let found : Some e.0 ≡ Some w = rw p at h in let same : e.0 ≡ w = cc in (e.1, rw (← same, eq-eqb e.0 e.0 refl) refl)
  | inr p ↦ let later = way_of-found line w es (rw p at h) in elim (eqb_tells w e.0) [
    | inl q ↦ (e.1, rw q.0 refl)
    | inr q ↦ (later.0, rw q.0 later.1)
  ]
]

-- the way with a line is the first, or among the others with another number
first-or-later : (line w : ℕ) (e : ℕ × Way) (es : List (ℕ × Way)) → NoNumberTwice (e ∷ es) → way_of line (e ∷ es) ≡ Some w
    → ((has_line line e.1 ≡ true) × (w ≡ e.0)) ⊎ ((has_line line e.1 ≡ false) × ((way_of line es ≡ Some w) × (nat_eq w e.0 ≡ false)))
first-or-later line w e es d h = elim (tells (has_line line e.1)) [
  | inl p ↦ let found : Some e.0 ≡ Some w = rw p at h in inl (p, cc)
  | inr p ↦
      let later : way_of line es ≡ Some w = rw p at h in
      let there = way_of-found line w es later in
      inr (p, (later, other-number w e.0 there.0 es d.0 there.1))
]

pub way_of-some : (line : ℕ) (es : List (ℕ × Way)) → IsSome (lookup (nat_eq line) (copies_in es)) → IsSome (way_of line es)
way_of-some line [] h = h
way_of-some line (e ∷ es) h = elim (tells (has_line line e.1)) [
  | inl p ↦ rw p refl
  | inr p ↦ elim (other-line line e.1 p) [
    | inl q ↦ rw p (way_of-some line es (rw q at h))
    | inr q ↦ rw p (way_of-some line es (rw (q.0, q.1) at h))
  ]
]

-- the copy of the line that is looked for is that of the way which the search found
pub lookup-way : (line w : ℕ) (way : Way) (es : List (ℕ × Way)) → NoNumberTwice es → way_of line es ≡ Some w → lookup (nat_eq w) es ≡ Some way
    → (way.line ≡ line) × ((is_empty way ≡ false) × (lookup (nat_eq line) (copies_in es) ≡ Some way.copy))
lookup-way line w way [] d h l = cc
lookup-way line w way (e ∷ es) d h l = elim (first-or-later line w e es d h) [
  | inl p ↦
      let is = has-line line e.1 p.0 in
      let found : Some e.1 ≡ Some way = rw (eq-eqb w e.0 p.1) at l in
      let same : e.1 ≡ way = cc in
      rw (← same) (sym is.1, (is.0, rw (is.0, eq-eqb line e.1.line is.1) refl))
  | inr p ↦
      let later = lookup-way line w way es d.1 p.1.0 (rw p.1.1 at l) in
      elim (other-line line e.1 p.0) [
        | inl q ↦ (later.0, (later.1.0, rw q later.1.1))
        | inr q ↦ (later.0, (later.1.0, rw (q.0, q.1) later.1.1))
      ]
]

pub copies-remove : (line w : ℕ) (es : List (ℕ × Way)) → NoNumberTwice es → way_of line es ≡ Some w
    → copies_in (remove_entry (nat_eq w) es) ≡ remove_entry (nat_eq line) (copies_in es)
copies-remove line w [] d h = cc
copies-remove line w (e ∷ es) d h = elim (first-or-later line w e es d h) [
  | inl p ↦ let is = has-line line e.1 p.0 in rw (eq-eqb w e.0 p.1, is.0, eq-eqb line e.1.line is.1) refl
  | inr p ↦ elim (other-line line e.1 p.0) [
    | inl q ↦ rw (p.1.1, q) (copies-remove line w es d.1 p.1.0)
    | inr q ↦ rw (p.1.1, q.0, q.1) (ap (λ l. (e.1.line, e.1.copy) ∷ l) (copies-remove line w es d.1 p.1.0))
  ]
]

pub copies-set : (line w : ℕ) (new : Way) (es : List (ℕ × Way)) → NoNumberTwice es → way_of line es ≡ Some w → new.line ≡ line → is_empty new ≡ false
    → copies_in (set_value (nat_eq w) es new) ≡ set_value (nat_eq line) (copies_in es) new.copy
copies-set line w new [] d h same full = cc
copies-set line w new (e ∷ es) d h same full = elim (first-or-later line w e es d h) [
  | inl p ↦
      let is = has-line line e.1 p.0 in
      let here : new.line ≡ e.1.line = same ∙ is.1 in
      rw (eq-eqb w e.0 p.1, is.0, eq-eqb line e.1.line is.1, full, here) refl
  | inr p ↦ elim (other-line line e.1 p.0) [
    | inl q ↦ rw (p.1.1, q) (copies-set line w new es d.1 p.1.0 same full)
    | inr q ↦ rw (p.1.1, q.0, q.1) (ap (λ l. (e.1.line, e.1.copy) ∷ l) (copies-set line w new es d.1 p.1.0 same full))
  ]
]

pub copies-emptied : (line w : ℕ) (new : Way) (es : List (ℕ × Way)) → NoNumberTwice es → way_of line es ≡ Some w → is_empty new ≡ true
    → copies_in (set_value (nat_eq w) es new) ≡ remove_entry (nat_eq line) (copies_in es)
copies-emptied line w new [] d h empty = cc
copies-emptied line w new (e ∷ es) d h empty = elim (first-or-later line w e es d h) [
  | inl p ↦ let is = has-line line e.1 p.0 in rw (eq-eqb w e.0 p.1, is.0, eq-eqb line e.1.line is.1, empty) refl
  | inr p ↦ elim (other-line line e.1 p.0) [
    | inl q ↦ rw (p.1.1, q) (copies-emptied line w new es d.1 p.1.0 empty)
    | inr q ↦ rw (p.1.1, q.0, q.1) (ap (λ l. (e.1.line, e.1.copy) ∷ l) (copies-emptied line w new es d.1 p.1.0 empty))
  ]
]

-- an entry that is found, by its number
pub lookup_entry-way : (w : ℕ) (es : List (ℕ × Way)) → lookup_entry (nat_eq w) es ≡ option_map (λ way. (w, way)) (lookup (nat_eq w) es)
lookup_entry-way w [] = refl
lookup_entry-way w (e ∷ es) = elim (eqb_tells w e.0) [
  | inl p ↦ rw (p.0, p.1) refl
  | inr p ↦ rw p.0 (lookup_entry-way w es)
]

-- The numbers.

pub length-set : (w : ℕ) (new : Way) (es : List (ℕ × Way)) → length (set_value (nat_eq w) es new) ≡ length es
length-set w new [] = refl
length-set w new (e ∷ es) = elim (tells (nat_eq w e.0)) [
  | inl p ↦ rw p refl
  | inr p ↦ rw p (ap suc (length-set w new es))
]

pub below-set : (n w : ℕ) (new : Way) (es : List (ℕ × Way)) → NumbersBelow n es → NumbersBelow n (set_value (nat_eq w) es new)
below-set n w new [] b = tt
below-set n w new (e ∷ es) b = elim (tells (nat_eq w e.0)) [
  | inl p ↦ rw p b
  | inr p ↦ rw p (b.0, below-set n w new es b.1)
]

pub below-found : (n w : ℕ) (way : Way) (es : List (ℕ × Way)) → NumbersBelow n es → lookup (nat_eq w) es ≡ Some way → w < n
below-found n w way [] b h = cc
below-found n w way (e ∷ es) b h = elim (eqb_tells w e.0) [
  | inl p ↦ rw p.1 b.0
  | inr p ↦ below-found n w way es b.1 (rw p.0 at h)
]

pub below-remove : (n w : ℕ) (es : List (ℕ × Way)) → NumbersBelow n es → NumbersBelow n (remove_entry (nat_eq w) es)
below-remove n w [] b = tt
below-remove n w (e ∷ es) b = elim (tells (nat_eq w e.0)) [
  | inl p ↦ rw p b.1
  | inr p ↦ rw p (b.0, below-remove n w es b.1)
]

-- a way that comes to the front of the others
pub numbered-front : (n w : ℕ) (way : Way) (es : List (ℕ × Way))
    → suc (length es) ≡ n
    → w < n
    → NumbersBelow n es
    → NumbersBelow (length ((w, way) ∷ es)) ((w, way) ∷ es)
numbered-front n w way es size less b = subst (λ k. NumbersBelow k ((w, way) ∷ es)) (sym size) (less, b)

pub below-more : (n : ℕ) (es : List (ℕ × Way)) → NumbersBelow n es → NumbersBelow (suc n) es
below-more n [] b = tt
below-more n (e ∷ es) b = let less = b.0 in (omega arith, below-more n es b.1)

pub length-remove-way : (w : ℕ) (way : Way) (es : List (ℕ × Way)) → lookup (nat_eq w) es ≡ Some way → suc (length (remove_entry (nat_eq w) es)) ≡ length es
length-remove-way w way [] h = cc
length-remove-way w way (e ∷ es) h = elim (eqb_tells w e.0) [
  | inl p ↦ rw p.0 refl
  | inr p ↦ rw p.0 (ap suc (length-remove-way w way es (rw p.0 at h)))
]

pub absent-below : (n w : ℕ) (es : List (ℕ × Way)) → NumbersBelow n es → n ≤ w → lookup (nat_eq w) es ≡ None
absent-below n w [] b h = refl
absent-below n w (e ∷ es) b h = elim (eqb_tells w e.0) [
  | inl p ↦ let less = b.0 in let same = p.1 in absurd (omega arith)
  | inr p ↦ rw p.0 (absent-below n w es b.1 h)
]

-- A line comes in.

pub length-copies : (es : List (ℕ × Way)) → length (copies_in es) ≤ length es
length-copies [] = omega arith
length-copies (e ∷ es) = let fewer = length-copies es in elim (tells (is_empty e.1)) [
  | inl p ↦ rw p (omega arith)
  | inr p ↦ rw p (omega arith)
]

pub length-some-empty : (w : ℕ) (es : List (ℕ × Way)) → first_empty es ≡ Some w → suc (length (copies_in es)) ≤ length es
length-some-empty w [] h = cc
length-some-empty w (e ∷ es) h = elim (tells (is_empty e.1)) [
  | inl p ↦ let fewer = length-copies es in rw p (omega arith)
  | inr p ↦ let fewer = length-some-empty w es (rw p at h) in rw p (omega arith)
]

-- the way that was found empty is empty, and taking it out takes no copy out
first_empty-found : (w : ℕ) (es : List (ℕ × Way)) → first_empty es ≡ Some w → (way : Way) × (lookup (nat_eq w) es ≡ Some way)
first_empty-found w [] h = cc
first_empty-found w (e ∷ es) h = elim (eqb_tells w e.0) [
  | inl q ↦ (e.1, rw q.0 refl)
  | inr q ↦ elim (tells (is_empty e.1)) [
    | inl p ↦ let found : Some e.0 ≡ Some w = rw p at h in let same : e.0 ≡ w = cc in absurd (q.1 (sym same))
    | inr p ↦ let later = first_empty-found w es (rw p at h) in (later.0, rw q.0 later.1)
  ]
]

empty-first-or-later : (w : ℕ) (e : ℕ × Way) (es : List (ℕ × Way)) → NoNumberTwice (e ∷ es) → first_empty (e ∷ es) ≡ Some w
    → ((is_empty e.1 ≡ true) × (w ≡ e.0)) ⊎ ((is_empty e.1 ≡ false) × ((first_empty es ≡ Some w) × (nat_eq w e.0 ≡ false)))
empty-first-or-later w e es d h = elim (tells (is_empty e.1)) [
  | inl p ↦ let found : Some e.0 ≡ Some w = rw p at h in inl (p, cc)
  | inr p ↦
      let later : first_empty es ≡ Some w = rw p at h in
      let there = first_empty-found w es later in
      inr (p, (later, other-number w e.0 there.0 es d.0 there.1))
]

pub empty-way : (w : ℕ) (es : List (ℕ × Way)) → NoNumberTwice es → first_empty es ≡ Some w
    → ((way : Way) × ((lookup (nat_eq w) es ≡ Some way) × (is_empty way ≡ true))) × (copies_in (remove_entry (nat_eq w) es) ≡ copies_in es)
empty-way w [] d h = cc
empty-way w (e ∷ es) d h = elim (empty-first-or-later w e es d h) [
  | inl p ↦ let here = eq-eqb w e.0 p.1 in ((e.1, (rw here refl, p.0)), rw (here, p.0) refl)
  | inr p ↦
      let later = empty-way w es d.1 p.1.0 in
      ((later.0.0, (rw p.1.1 later.0.1.0, later.0.1.1)), rw (p.1.1, p.0) (ap (λ l. (e.1.line, e.1.copy) ∷ l) later.1))
]

-- where no way is empty, the copies are those of all ways
abbrev as_copy : ℕ × Way → ℕ × Line
as_copy e = (e.1.line, e.1.copy)

pub copies-take : (n : ℕ) (es : List (ℕ × Way)) → first_empty es ≡ None → copies_in (take n es) ≡ take n (copies_in es)
copies-take zero es h = refl
copies-take (suc n) [] h = refl
copies-take (suc n) (e ∷ es) h = elim (tells (is_empty e.1)) [
  | inl p ↦ let no : Some e.0 ≡ no_number = rw p at h in cc
  | inr p ↦ rw p (ap (λ l. as_copy e ∷ l) (copies-take n es (rw p at h)))
]

pub copies-at : (n : ℕ) (es : List (ℕ × Way)) → first_empty es ≡ None → slice_get (copies_in es) n ≡ option_map as_copy (slice_get es n)
copies-at n [] h = refl
copies-at zero (e ∷ es) h = elim (tells (is_empty e.1)) [
  | inl p ↦ let no : Some e.0 ≡ no_number = rw p at h in cc
  | inr p ↦ rw p refl
]
copies-at (suc n) (e ∷ es) h = elim (tells (is_empty e.1)) [
  | inl p ↦ let no : Some e.0 ≡ no_number = rw p at h in cc
  | inr p ↦ rw p (copies-at n es (rw p at h))
]

pub full-at : (n : ℕ) (x : ℕ × Way) (es : List (ℕ × Way)) → first_empty es ≡ None → slice_get es n ≡ Some x → is_empty x.1 ≡ false
full-at n x [] h g = cc
full-at zero x (e ∷ es) h g = let same : e ≡ x = cc in elim (tells (is_empty e.1)) [
  | inl p ↦ let no : Some e.0 ≡ no_number = rw p at h in cc
  | inr p ↦ rw (← same) p
]
full-at (suc n) x (e ∷ es) h g = elim (tells (is_empty e.1)) [
  | inl p ↦ let no : Some e.0 ≡ no_number = rw p at h in cc
  | inr p ↦ full-at n x es (rw p at h) g
]

-- the way at a place is found by its number
pub lookup-way-at : (n : ℕ) (x : ℕ × Way) (es : List (ℕ × Way)) → NoNumberTwice es → slice_get es n ≡ Some x → lookup (nat_eq x.0) es ≡ Some x.1
lookup-way-at n x [] d h = cc
lookup-way-at zero x (e ∷ es) d h = let same : e ≡ x = cc in rw (← same, eq-eqb e.0 e.0 refl) refl
lookup-way-at (suc n) x (e ∷ es) d h =
    let later : lookup (nat_eq x.0) es ≡ Some x.1 = lookup-way-at n x es d.1 h in
    elim (eqb_tells x.0 e.0) [
      | inl p ↦ let nowhere : no_way ≡ Some x.1 = sym d.0 ∙ rw p.1 at later in cc
      | inr p ↦ rw p.0 later
    ]

-- the last way of all is taken out by its number
pub remove-last : (n : ℕ) (x : ℕ × Way) (es : List (ℕ × Way))
    → NoNumberTwice es
    → length es ≡ suc n
    → slice_get es n ≡ Some x
    → remove_entry (nat_eq x.0) es ≡ take n es
remove-last n x [] d l h = cc
remove-last zero x (e ∷ []) d l h = let same : e ≡ x = cc in rw (← same, eq-eqb e.0 e.0 refl) refl
remove-last zero x (e ∷ f ∷ es) d l h = absurd (omega arith)
remove-last (suc n) x (e ∷ es) d l h =
    let later : lookup (nat_eq x.0) es ≡ Some x.1 = lookup-way-at n x es d.1 h in
    elim (eqb_tells x.0 e.0) [
      | inl p ↦ let nowhere : no_way ≡ Some x.1 = sym d.0 ∙ rw p.1 at later in cc
      | inr p ↦ rw p.0 (let shorter : length es ≡ suc n = omega arith in ap (λ l. e ∷ l) (remove-last n x es d.1 shorter h))
    ]

-- nothing is past a list's end
pub past-end : {X : Type 0} (n : ℕ) (xs : List X) → length xs ≤ n → slice_get xs n ≡ None
past-end n [] h = refl
past-end zero (x ∷ xs) h = absurd (omega arith)
past-end (suc n) (x ∷ xs) h = past-end n xs (omega arith)

-- A way that has a line loses it.

pub first_full-found : (w : ℕ) (es : List (ℕ × Way)) → first_full es ≡ Some w → (way : Way) × (lookup (nat_eq w) es ≡ Some way)
first_full-found w [] h = cc
first_full-found w (e ∷ es) h = elim (eqb_tells w e.0) [
  | inl q ↦ (e.1, rw q.0 refl)
  | inr q ↦ elim (tells (is_empty e.1)) [
    | inl p ↦ let later = first_full-found w es (rw p at h) in (later.0, rw q.0 later.1)
    | inr p ↦ let found : Some e.0 ≡ Some w = rw p at h in let same : e.0 ≡ w = cc in absurd (q.1 (sym same))
  ]
]

pub copies-none : (es : List (ℕ × Way)) → first_full es ≡ None → copies_in es ≡ []
copies-none [] h = refl
copies-none (e ∷ es) h = elim (tells (is_empty e.1)) [
  | inl p ↦ rw p (copies-none es (rw p at h))
  | inr p ↦ let no : Some e.0 ≡ no_number = rw p at h in cc
]

pub length-emptied : (w : ℕ) (new : Way) (es : List (ℕ × Way)) → NoNumberTwice es → first_full es ≡ Some w → is_empty new ≡ true
    → suc (length (copies_in (set_value (nat_eq w) es new))) ≡ length (copies_in es)
length-emptied w new [] d h empty = cc
length-emptied w new (e ∷ es) d h empty = elim (tells (is_empty e.1)) [
  | inl p ↦
      let later : first_full es ≡ Some w = rw p at h in
      let there = first_full-found w es later in
      rw (other-number w e.0 there.0 es d.0 there.1, p) (length-emptied w new es d.1 later empty)
  | inr p ↦
      let found : Some e.0 ≡ Some w = rw p at h in
      let same : w ≡ e.0 = cc in
      rw (eq-eqb w e.0 same, empty, p) refl
]
