-- Lists of pairs (line, copy): what is found in them, and what stays true of them, after each edit.
use Rattle.cache_set.proofs.Vocabulary.{arith, ◌≡◌, ◌≢◌, ◌≤◌, ℕ, zero, suc, Bool, true, false, List, [], ◌∷◌, length, take, map, slice_get}
use Rattle.cache_set.proofs.Vocabulary.{Option, Some, None, option_map, nat_eq, if◌then◌else◌, inl, inr, refl, sym, ap, ◌∙◌, eqb_tells}
use Rattle.cache_set.proofs.Vocabulary.{eq-eqb, lookup, remove_entry, set_value, I, Line, NoLineTwice, NoneInvalid, changed_at}

abbrev none : Option Line
none = None

-- where nothing is found, a choice between two nothings is nothing
either_none : (b : Bool) → (if b then none else none) ≡ none
either_none true = refl
either_none false = refl

-- a copy that is found is in no state I
pub valid-found : (line : ℕ) (copy : Line) (es : List (ℕ × Line)) → NoneInvalid es → lookup (nat_eq line) es ≡ Some copy → copy.state ≢ I
valid-found line copy [] v h = cc
valid-found line copy (e ∷ es) v h = elim (eqb_tells line e.0) [
  | inl p ↦ let found : Some e.1 ≡ Some copy = rw p.0 at h in let same : e.1 ≡ copy = cc in rw (← same) v.0
  | inr p ↦ valid-found line copy es v.1 (rw p.0 at h)
]

-- A line is taken out.

pub lookup-remove : (line k : ℕ) (es : List (ℕ × Line))
    → NoLineTwice es
    → lookup (nat_eq k) (remove_entry (nat_eq line) es) ≡ (if nat_eq k line then None else lookup (nat_eq k) es)
lookup-remove line k [] d = sym (either_none (nat_eq k line))
lookup-remove line k (e ∷ es) d = elim (eqb_tells line e.0) [
  | inl p ↦ elim (eqb_tells k line) [
    | inl q ↦ rw (p.0, q.0, q.1, p.1) d.0
    | inr q ↦ elim (eqb_tells k e.0) [
      | inl r ↦ absurd (q.1 (r.1 ∙ sym p.1))
      | inr r ↦ rw (p.0, q.0, r.0) refl
    ]
  ]
  | inr p ↦ rw p.0 (elim (eqb_tells k e.0) [
    | inl q ↦ elim (eqb_tells k line) [
      | inl r ↦ absurd (p.1 (sym r.1 ∙ q.1))
      | inr r ↦ rw (q.0, r.0) refl
    ]
    | inr q ↦ rw q.0 (lookup-remove line k es d.1)
  ])
]

pub absent-remove : (line : ℕ) (es : List (ℕ × Line)) → NoLineTwice es → lookup (nat_eq line) (remove_entry (nat_eq line) es) ≡ None
absent-remove line es d = rw (lookup-remove line line es d, eq-eqb line line refl) refl

pub once-remove : (line : ℕ) (es : List (ℕ × Line)) → NoLineTwice es → NoLineTwice (remove_entry (nat_eq line) es)
once-remove line [] d = tt
once-remove line (e ∷ es) d = elim (eqb_tells line e.0) [
  | inl p ↦ rw p.0 d.1
  | inr p ↦ rw p.0 (absent, once-remove line es d.1)
]
  where
    absent : lookup (nat_eq e.0) (remove_entry (nat_eq line) es) ≡ None
    absent = rw (lookup-remove line e.0 es d.1, d.0) (either_none (nat_eq e.0 line))

pub valid-remove : (line : ℕ) (es : List (ℕ × Line)) → NoneInvalid es → NoneInvalid (remove_entry (nat_eq line) es)
valid-remove line [] v = tt
valid-remove line (e ∷ es) v = elim (eqb_tells line e.0) [
  | inl p ↦ rw p.0 v.1
  | inr p ↦ rw p.0 (v.0, valid-remove line es v.1)
]

pub length-remove : (line : ℕ) (es : List (ℕ × Line)) → length (remove_entry (nat_eq line) es) ≤ length es
length-remove line [] = omega arith
length-remove line (e ∷ es) = elim (eqb_tells line e.0) [
  | inl p ↦ rw p.0 (omega arith)
  | inr p ↦ let shorter = length-remove line es in rw p.0 (omega arith)
]

pub length-remove-found : (line : ℕ) (copy : Line) (es : List (ℕ × Line))
    → lookup (nat_eq line) es ≡ Some copy
    → suc (length (remove_entry (nat_eq line) es)) ≤ length es
length-remove-found line copy [] h = cc
length-remove-found line copy (e ∷ es) h = elim (eqb_tells line e.0) [
  | inl p ↦ rw p.0 (omega arith)
  | inr p ↦ let shorter = length-remove-found line copy es (rw p.0 at h) in rw p.0 (omega arith)
]

-- The list is cut off.

pub absent-take : (n k : ℕ) (es : List (ℕ × Line)) → lookup (nat_eq k) es ≡ None → lookup (nat_eq k) (take n es) ≡ None
absent-take zero k es h = refl
absent-take (suc n) k [] h = refl
absent-take (suc n) k (e ∷ es) h = elim (eqb_tells k e.0) [
  | inl p ↦ let found : Some e.1 ≡ none = rw p.0 at h in cc
  | inr p ↦ rw p.0 (absent-take n k es (rw p.0 at h))
]

pub once-take : (n : ℕ) (es : List (ℕ × Line)) → NoLineTwice es → NoLineTwice (take n es)
once-take zero es d = tt
once-take (suc n) [] d = tt
once-take (suc n) (e ∷ es) d = (absent-take n e.0 es d.0, once-take n es d.1)

pub valid-take : (n : ℕ) (es : List (ℕ × Line)) → NoneInvalid es → NoneInvalid (take n es)
valid-take zero es v = tt
valid-take (suc n) [] v = tt
valid-take (suc n) (e ∷ es) v = (v.0, valid-take n es v.1)

pub length-cut : (n : ℕ) (es : List (ℕ × Line)) → length (take n es) ≤ n
length-cut zero es = omega arith
length-cut (suc n) [] = omega arith
length-cut (suc n) (e ∷ es) = let shorter = length-cut n es in omega arith

-- the entry at a place is found by its line
pub lookup-at : (n : ℕ) (x : ℕ × Line) (es : List (ℕ × Line)) → NoLineTwice es → slice_get es n ≡ Some x → lookup (nat_eq x.0) es ≡ Some x.1
lookup-at n x [] d h = cc
lookup-at zero x (e ∷ es) d h = let same : e ≡ x = cc in rw (← same, eq-eqb e.0 e.0 refl) refl
lookup-at (suc n) x (e ∷ es) d h =
    let later : lookup (nat_eq x.0) es ≡ Some x.1 = lookup-at n x es d.1 h in
    elim (eqb_tells x.0 e.0) [
      | inl p ↦ let nowhere : none ≡ Some x.1 = sym d.0 ∙ rw p.1 at later in cc
      | inr p ↦ rw p.0 later
    ]

-- what is found after the last of a full list is cut off
pub lookup-cut : (n k : ℕ) (x : ℕ × Line) (es : List (ℕ × Line)) → NoLineTwice es → length es ≤ suc n → slice_get es n ≡ Some x →
    lookup (nat_eq k) (take n es) ≡ (if nat_eq k x.0 then None else lookup (nat_eq k) es)
lookup-cut n k x [] d l h = cc
lookup-cut zero k x (e ∷ []) d l h =
    let same : e ≡ x = cc in
    rw (← same) (elim (nat_eq k e.0) as (λ b. none ≡ (if b then none else (if b then Some e.1 else none))) [
      | true ↦ refl
      | false ↦ refl
    ])
lookup-cut zero k x (e ∷ f ∷ es) d l h = absurd (omega arith)
lookup-cut (suc n) k x (e ∷ es) d l h = elim (eqb_tells k e.0) [
  | inl p ↦ elim (eqb_tells k x.0) [
    | inl q ↦
        let later : lookup (nat_eq x.0) es ≡ Some x.1 = lookup-at n x es d.1 h in
        let nowhere : lookup (nat_eq x.0) es ≡ None = rw (sym p.1 ∙ q.1) at d.0 in
        let no : Some x.1 ≡ none = sym later ∙ nowhere in cc
    | inr q ↦ rw (p.0, q.0) refl
  ]
  | inr p ↦ rw p.0 (lookup-cut n k x es d.1 (omega arith) h)
]

-- a list that is not longer is not cut
pub take-short : (n : ℕ) (es : List (ℕ × Line)) → slice_get es n ≡ None → take n es ≡ es
take-short zero [] h = refl
take-short zero (e ∷ es) h = cc
take-short (suc n) [] h = refl
take-short (suc n) (e ∷ es) h = ap (λ l. e ∷ l) (take-short n es h)

-- A copy is changed in its place.

module _ (change : Line → Line) (line : ℕ) where
  pub lookup-changed : (k : ℕ) (es : List (ℕ × Line))
      → lookup (nat_eq k) (map (changed_at change line) es)
      ≡ (if nat_eq k line then option_map change (lookup (nat_eq k) es) else lookup (nat_eq k) es)
  lookup-changed k [] = sym (either_none (nat_eq k line))
  lookup-changed k (e ∷ es) = elim (eqb_tells line e.0) [
    | inl p ↦ rw p.0 (elim (eqb_tells k e.0) [
      | inl q ↦ elim (eqb_tells k line) [
        | inl r ↦ rw (q.0, r.0) refl
        | inr r ↦ absurd (r.1 (q.1 ∙ sym p.1))
      ]
      | inr q ↦ rw q.0 (lookup-changed k es)
    ])
    | inr p ↦ rw p.0 (elim (eqb_tells k e.0) [
      | inl q ↦ elim (eqb_tells k line) [
        | inl r ↦ absurd (p.1 (sym r.1 ∙ q.1))
        | inr r ↦ rw (q.0, r.0) refl
      ]
      | inr q ↦ rw q.0 (lookup-changed k es)
    ])
  ]

  pub absent-changed : (k : ℕ) (es : List (ℕ × Line)) → lookup (nat_eq k) es ≡ None → lookup (nat_eq k) (map (changed_at change line) es) ≡ None
  absent-changed k es h = rw (lookup-changed k es, h) (either_none (nat_eq k line))

  pub once-changed : (es : List (ℕ × Line)) → NoLineTwice es → NoLineTwice (map (changed_at change line) es)
  once-changed [] d = tt
  once-changed (e ∷ es) d = elim (eqb_tells line e.0) [
    | inl p ↦ rw p.0 (absent-changed e.0 es d.0, once-changed es d.1)
    | inr p ↦ rw p.0 (absent-changed e.0 es d.0, once-changed es d.1)
  ]

  pub valid-changed : ((copy : Line) → copy.state ≢ I → (change copy).state ≢ I)
      → (es : List (ℕ × Line)) → NoneInvalid es
      → NoneInvalid (map (changed_at change line) es)
  valid-changed keeps [] v = tt
  valid-changed keeps (e ∷ es) v = elim (eqb_tells line e.0) [
    | inl p ↦ rw p.0 (keeps e.1 v.0, valid-changed keeps es v.1)
    | inr p ↦ rw p.0 (v.0, valid-changed keeps es v.1)
  ]

  unchanged : (es : List (ℕ × Line)) → lookup (nat_eq line) es ≡ None → map (changed_at change line) es ≡ es
  unchanged [] h = refl
  unchanged (e ∷ es) h = elim (eqb_tells line e.0) [
    | inl p ↦ let found : Some e.1 ≡ none = rw p.0 at h in cc
    | inr p ↦ rw p.0 (ap (λ l. e ∷ l) (unchanged es (rw p.0 at h)))
  ]

  -- a write to the copy that is found
  pub set_value-changed : (copy : Line) (es : List (ℕ × Line))
      → NoLineTwice es
      → lookup (nat_eq line) es ≡ Some copy
      → set_value (nat_eq line) es (change copy) ≡ map (changed_at change line) es
  set_value-changed copy [] d h = cc
  set_value-changed copy (e ∷ es) d h = elim (eqb_tells line e.0) [
    | inl p ↦
        let found : Some e.1 ≡ Some copy = rw p.0 at h in
        let same : e.1 ≡ copy = cc in
        let rest : map (changed_at change line) es ≡ es = unchanged es (rw p.1 d.0) in
        rw (p.0, rest, same) refl
    | inr p ↦ rw p.0 (ap (λ l. e ∷ l) (set_value-changed copy es d.1 (rw p.0 at h)))
  ]
