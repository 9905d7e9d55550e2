-- Two names exchanged: of a core, of the places of a list, and of what a core has pending.
use Rattle.tso_laws.proofs.EagerVocabulary.{◌≡◌, ◌≢◌, ◌<◌, ◌≤◌, ◌==◌, ℕ, zero, suc, List, [], ◌∷◌, length, map, swap, slice_set}
use Rattle.tso_laws.proofs.EagerVocabulary.{slice_index_or, if◌then◌else◌, inl, inr, arith, ap, sym, ◌∙◌, refl, subst, get_or-set_same}
use Rattle.tso_laws.proofs.EagerVocabulary.{get_or-set_other, length-set, length-swap, length-map, CoreState, State, idle, core_of, Entry}
use Rattle.tso_laws.proofs.EagerVocabulary.{Choice, Step, Drain, decide, test-true, test-false, exchanged_core, exchanged_choice}
use Rattle.tso_laws.proofs.EagerVocabulary.{exchanged_entry, renamed, exchanged}

-- ---- a core's name

module _ (pair : ℕ × ℕ) where
  at-first : (k : ℕ) → k ≡ pair.0 → exchanged_core pair k ≡ pair.1
  at-first k q = ap (λ b. if b then pair.1 else (if k == pair.1 then pair.0 else k)) (test-true k pair.0 q)

  at-second : (k : ℕ) → k ≡ pair.1 → exchanged_core pair k ≡ pair.0
  at-second k q = elim (decide k pair.0) [
    | inl p ↦ at-first k p ∙ sym q ∙ p
    | inr n ↦ ap (λ b. if b then pair.1 else (if k == pair.1 then pair.0 else k)) (test-false k pair.0 n)
        ∙ ap (λ b. if b then pair.0 else k) (test-true k pair.1 q)
  ]

  pub at-other : (k : ℕ) → k ≢ pair.0 → k ≢ pair.1 → exchanged_core pair k ≡ k
  at-other k n m = ap (λ b. if b then pair.1 else (if k == pair.1 then pair.0 else k)) (test-false k pair.0 n)
      ∙ ap (λ b. if b then pair.0 else k) (test-false k pair.1 m)

  pub core-twice : (k : ℕ) → exchanged_core pair (exchanged_core pair k) ≡ k
  core-twice k = elim (decide k pair.0) [
    | inl p ↦ ap (exchanged_core pair) (at-first k p) ∙ at-second pair.1 refl ∙ sym p
    | inr n ↦ elim (decide k pair.1) [
      | inl p ↦ ap (exchanged_core pair) (at-second k p) ∙ at-first pair.0 refl ∙ sym p
      | inr m ↦ ap (exchanged_core pair) (at-other k n m) ∙ at-other k n m
    ]
  ]

  -- what is the same of both is the same of any core and the one that stands for it
  pub same-at : {A : Type 0} (f : ℕ → A) → f pair.0 ≡ f pair.1 → (k : ℕ) → f (exchanged_core pair k) ≡ f k
  same-at f h k = elim (decide k pair.0) [
    | inl p ↦ ap f (at-first k p) ∙ sym h ∙ ap f (sym p)
    | inr n ↦ elim (decide k pair.1) [
      | inl p ↦ ap f (at-second k p) ∙ h ∙ ap f (sym p)
      | inr m ↦ ap f (at-other k n m)
    ]
  ]

  pub core-within : (n k : ℕ) → pair.0 < n → pair.1 < n → k < n → exchanged_core pair k < n
  core-within n k p q l = elim (decide k pair.0) [
    | inl e ↦ subst (λ z. z < n) (sym (at-first k e)) q
    | inr v ↦ elim (decide k pair.1) [
      | inl e ↦ subst (λ z. z < n) (sym (at-second k e)) p
      | inr w ↦ subst (λ z. z < n) (sym (at-other k v w)) l
    ]
  ]

  pub core-beyond : (n k : ℕ) → pair.0 < n → pair.1 < n → n ≤ k → exchanged_core pair k ≡ k
  core-beyond n k p q l = at-other k (λ e. let z : ⊥ = omega (arith, e, p, l) in z) (λ e. let z : ⊥ = omega (arith, e, q, l) in z)

  pub choice-twice : (c : Choice) → exchanged_choice pair (exchanged_choice pair c) ≡ c
  choice-twice (Step k) = ap (λ z. Step (record { 0 = z })) (core-twice k.0)
  choice-twice (Drain k) = ap (λ z. Drain (record { 0 = z })) (core-twice k.0)

  -- ---- what is pending

  entry-twice : (e : Entry) → exchanged_entry pair (exchanged_entry pair e) ≡ e
  entry-twice e =
      ap (λ z. let f : Entry = record {
        core = record { 0 = z };
        place = e.place;
        kind = e.kind;
        loc = e.loc;
        value = e.value;
      } in
      f)
      (core-twice e.core.0)

  entries-twice : (es : List Entry) → map (exchanged_entry pair) (map (exchanged_entry pair) es) ≡ es
  entries-twice [] = refl
  entries-twice (e ∷ es) = rw (entry-twice e, entries-twice es) refl

  renamed-twice : (s : CoreState) → renamed pair (renamed pair s) ≡ s
  renamed-twice s = ap (λ z. let f : CoreState = record { place = s.place; registers = s.registers; pending = z } in f) (entries-twice s.pending)

-- ---- places of a list

same-default : {A : Type 0} (xs : List A) (k : ℕ) (d e : A) → k < length xs → slice_index_or xs k d ≡ slice_index_or xs k e
same-default [] k d e l = absurd (let z : ⊥ = omega (arith, l) in z)
same-default (x ∷ xs) zero d e l = refl
same-default (x ∷ xs) (suc k) d e l = same-default xs k d e (omega (arith, l))

swapped-at : {A : Type 0} (xs : List A) (pair : ℕ × ℕ) (k : ℕ) (d : A) → pair.0 < length xs → pair.1 < length xs
    → slice_index_or (swap xs pair.0 pair.1) k d ≡ slice_index_or xs (exchanged_core pair k) d
swapped-at [] pair k d l m = absurd (let z : ⊥ = omega (arith, l) in z)
swapped-at {A} (x ∷ ys) pair k d l m = elim (decide k pair.1) [
  | inl q ↦
      ap (λ z. slice_index_or (slice_set once pair.1 first) z d) q
      ∙ get_or-set_same once pair.1 first d (let n = length-set (x ∷ ys) pair.0 second in omega (arith, n, m))
      ∙ same-default (x ∷ ys) pair.0 x d l ∙ ap (λ z. slice_index_or (x ∷ ys) z d) (sym (at-second pair k q))
  | inr n ↦ get_or-set_other once pair.1 k first d n ∙ elim (decide k pair.0) [
    | inl q ↦
        ap (λ z. slice_index_or once z d) q ∙ get_or-set_same (x ∷ ys) pair.0 second d l
        ∙ same-default (x ∷ ys) pair.1 x d m ∙ ap (λ z. slice_index_or (x ∷ ys) z d) (sym (at-first pair k q))
    | inr v ↦ get_or-set_other (x ∷ ys) pair.0 k second d v ∙ ap (λ z. slice_index_or (x ∷ ys) z d) (sym (at-other pair k v n))
  ]
]
  where
    second : A
    second = slice_index_or (x ∷ ys) pair.1 x

    first : A
    first = slice_index_or (x ∷ ys) pair.0 x

    once : List A
    once = slice_set (x ∷ ys) pair.0 second

map-at : (pair : ℕ × ℕ) (cs : List CoreState) (k : ℕ) → slice_index_or (map (renamed pair) cs) k idle ≡ renamed pair (slice_index_or cs k idle)
map-at pair [] k = refl
map-at pair (c ∷ cs) zero = refl
map-at pair (c ∷ cs) (suc k) = map-at pair cs k

-- ---- states

pub same-cores : (xs ys : List CoreState) → length xs ≡ length ys → ((k : ℕ) → slice_index_or xs k idle ≡ slice_index_or ys k idle) → xs ≡ ys
same-cores [] [] n h = refl
same-cores [] (y ∷ ys) n h = absurd (let z : ⊥ = omega (arith, n) in z)
same-cores (x ∷ xs) [] n h = absurd (let z : ⊥ = omega (arith, n) in z)
same-cores (x ∷ xs) (y ∷ ys) n h = rw (h 0, same-cores xs ys (omega (arith, n)) (λ k. h (suc k))) refl

pub same-state : (m n : List ℕ) (cs ds : List CoreState)
    → m ≡ n
    → cs ≡ ds
    → record { memory = m; cores = cs } ≡ (let z : State = record { memory = n; cores = ds } in z)
same-state m n cs ds p q = rw (p, q) refl

pub cores-exchanged : (pair : ℕ × ℕ) (s : State) → length (exchanged pair s).cores ≡ length s.cores
cores-exchanged pair s = length-swap (map (renamed pair) s.cores) pair.0 pair.1 ∙ length-map s.cores (renamed pair)

module _ (pair : ℕ × ℕ) (s : State) (first : pair.0 < length s.cores) (second : pair.1 < length s.cores) where
  pub core-exchanged : (k : ℕ) → core_of (exchanged pair s) k ≡ renamed pair (core_of s (exchanged_core pair k))
  core-exchanged k =
      let n = length-map s.cores (renamed pair) in
      swapped-at (map (renamed pair) s.cores) pair k idle (omega (arith, n, first)) (omega (arith, n, second)) ∙ map-at pair s.cores (exchanged_core pair k)

  pub exchanged-twice : exchanged pair (exchanged pair s) ≡ s
  exchanged-twice =
      let n = cores-exchanged pair s in
      same-state s.memory s.memory (exchanged pair (exchanged pair s)).cores s.cores refl
      (same-cores (exchanged pair (exchanged pair s)).cores s.cores (cores-exchanged pair (exchanged pair s) ∙ n) (λ k.
      again (exchanged pair s) k (omega (arith, n, first)) (omega (arith, n, second)) ∙ ap (renamed pair) (core-exchanged (exchanged_core pair k))
      ∙ renamed-twice pair (core_of s (exchanged_core pair (exchanged_core pair k))) ∙ ap (core_of s) (core-twice pair k)))
    where
      again : (r : State) (k : ℕ)
          → pair.0 < length r.cores
          → pair.1 < length r.cores
          → core_of (exchanged pair r) k ≡ renamed pair (core_of r (exchanged_core pair k))
      again r k p q =
          let n = length-map r.cores (renamed pair) in
          swapped-at (map (renamed pair) r.cores) pair k idle (omega (arith, n, p)) (omega (arith, n, q)) ∙ map-at pair r.cores (exchanged_core pair k)
