-- The earliest entry of a list of which something holds: one entry further, the end, and the search from the front.
use Rattle.order_breaches.proofs.Vocabulary.{◌≡◌, ◌<◌, ◌≤◌, ℕ, ◌+◌, suc, zero, List, length, Some, slice_get, Bool, true, false, arith, ap}
use Rattle.order_breaches.proofs.Vocabulary.{sym, ◌∙◌, ◌⊎◌, inl, inr, subst, cases_Bool, cases_lt, false_from_ne_true, slice_get_within}
use Rattle.order_breaches.proofs.Vocabulary.{slice_get_cases, Entry, NoneBefore, IsEarliest, IsNowhere}

pub same_or_below : (i n : ℕ) → i < n + 1 → (i ≡ n) ⊎ (i < n)
same_or_below i n h = grind arith

pub some-is : {X : Type 0} (x y : X) → Some x ≡ Some y → x ≡ y
some-is x y e = cc

pub at-place : {X : Type 0} (list : List X) (at k : ℕ) (x y : X) → slice_get list at ≡ Some x → slice_get list k ≡ Some y → k ≡ at → y ≡ x
at-place list at k x y here there q = some-is y x (sym there ∙ ap (λ n. slice_get list n) q ∙ here)

pub one_more : (list : List Entry) (Fact : ℕ → Entry → Type 0) (at : ℕ) (x : Entry)
    → slice_get list at ≡ Some x
    → NoneBefore list Fact at
    → (Fact at x → ⊥)
    → NoneBefore list Fact (at + 1)
one_more list Fact at x here before not k y l e f = elim (same_or_below k at l) [
  | inl q ↦ not (subst (λ z. Fact at z) (at-place list at k x y here e q) (subst (λ z. Fact z y) q f))
  | inr b ↦ before k y b e f
]

pub none_at_all : (list : List Entry) (Fact : ℕ → Entry → Type 0) (at : ℕ) → length list ≤ at → NoneBefore list Fact at → IsNowhere list Fact
none_at_all list Fact at whole before k y e f = before k y (let w = slice_get_within list k y e in omega arith) e f

pub none_in_nothing : (list : List Entry) (Fact : ℕ → Entry → Type 0) → NoneBefore list Fact 0
none_in_nothing list Fact k y l e f = absurd (omega arith)

-- whether the fact holds can be told
abbrev pub Told : (ℕ → Entry → Type 0) → Type 0
Told Fact = (k : ℕ) (x : Entry) → Fact k x ⊎ (Fact k x → ⊥)

-- the fact holds of an earliest entry, or of none
abbrev pub Search : List Entry → (ℕ → Entry → Type 0) → Type 0
Search list Fact = ((x : Entry) × IsEarliest list Fact x) ⊎ IsNowhere list Fact

search-from : (list : List Entry) (Fact : ℕ → Entry → Type 0) → Told Fact → (left at : ℕ) → length list ≤ at + left → NoneBefore list Fact at → Search list Fact
search-from list Fact told zero at l before = inr (none_at_all list Fact at (omega arith) before)
search-from list Fact told (suc left) at l before = elim (slice_get_cases list at).1 [
  | inr past ↦ inr (none_at_all list Fact at past.0 before)
  | inl s ↦ elim (told at s.0) [
    | inl f ↦ inl (s.0, (at, record { stands = s.2; holds = f; earliest = before }))
    | inr n ↦ search-from list Fact told left (at + 1) (omega arith) (one_more list Fact at s.0 s.2 before n)
  ]
]

pub searched : (list : List Entry) (Fact : ℕ → Entry → Type 0) → Told Fact → Search list Fact
searched list Fact told = search-from list Fact told (length list) 0 (omega arith) (none_in_nothing list Fact)

pub told-test : (b : Bool) → (b ≡ true) ⊎ (b ≡ true → ⊥)
told-test b = elim (cases_Bool b) [ inl t ↦ inl t | inr f ↦ inr (λ t. let z : ⊥ = cc in z) ]

-- an entry passes a test, or all fail it
pub passing : (p : Entry → Bool) (list : List Entry)
    → ((k : ℕ) × (y : Entry) × (slice_get list k ≡ Some y) × (p y ≡ true))
    ⊎ ((k : ℕ) (y : Entry) → slice_get list k ≡ Some y → p y ≡ false)
passing p list = elim (searched list (λ k y. p y ≡ true) (λ k y. told-test (p y))) [
  | inl s ↦ inl (s.1.0, s.0, s.1.1.stands, s.1.1.holds)
  | inr n ↦ inr (λ k y e. false_from_ne_true (p y) (n k y e))
]

-- the same of the entries before a place
pub told-before : (at : ℕ) (p : Entry → Bool) → Told (λ k y. (k < at) × (p y ≡ true))
told-before at p k y = elim (cases_lt k at) [
  | inr past ↦ inr (λ h. let l = h.0 in omega arith)
  | inl before ↦ elim (told-test (p y)) [ inl t ↦ inl (before, t) | inr n ↦ inr (λ h. n h.1) ]
]
