-- Dead registers, forgotten one after the other, and core by core.
use Rattle.explorer.proofs.Vocabulary.{◌≡◌, ◌<◌, ◌≤◌, ℕ, ◌+◌, ◌-◌, zero, suc, Bool, true, false, List, [], ◌∷◌, ◌++◌, length, Some}
use Rattle.explorer.proofs.Vocabulary.{slice_get, slice_set, slice_index, slice_index_or, inl, inr, drop, take, if◌then◌else◌, arith, ap}
use Rattle.explorer.proofs.Vocabulary.{sym, ◌∙◌, refl, slice_get-get_or, lt-or, drop-end, Litmus, CoreState, idle, program_of, Instr}
use Rattle.explorer.proofs.Vocabulary.{dead_at, cleared, hidden_of, forgotten_core, forgotten_cores, AreDead}

-- ---- one register more

clear-one : (ds : List Bool) (rs : List ℕ) (k : ℕ) → slice_index_or ds k false ≡ true → cleared ds (slice_set rs k 0) ≡ cleared ds rs
clear-one [] rs k h = absurd (let z : ⊥ = cc in z)
clear-one (d ∷ ds) [] k h = refl
clear-one (d ∷ ds) (r ∷ rs) zero h = rw h refl
clear-one (d ∷ ds) (r ∷ rs) (suc k) h = ap (λ z. (if d then 0 else r) ∷ z) (clear-one ds rs k h)

clear-all : (ds : List Bool) (rs : List ℕ) → ((j : ℕ) → slice_index_or ds j false ≡ true → slice_index rs j ≡ 0) → cleared ds rs ≡ rs
clear-all [] rs h = refl
clear-all (d ∷ ds) [] h = refl
clear-all (d ∷ ds) (r ∷ rs) h = both (go d (h 0)) (clear-all ds rs (λ j. h (suc j)))
  where
    both : {x y : ℕ} {xs ys : List ℕ} → x ≡ y → xs ≡ ys → x ∷ xs ≡ y ∷ ys
    both p q = rw (p, q) refl

    go : (d : Bool) → (d ≡ true → r ≡ 0) → (if d then 0 else r) ≡ r
    go true k = sym (k refl)
    go false k = refl

zero-stays : (rs : List ℕ) (k j : ℕ) → slice_index rs j ≡ 0 → slice_index (slice_set rs k 0) j ≡ 0
zero-stays [] k j h = h
zero-stays (r ∷ rs) zero zero h = refl
zero-stays (r ∷ rs) zero (suc j) h = h
zero-stays (r ∷ rs) (suc k) zero h = h
zero-stays (r ∷ rs) (suc k) (suc j) h = zero-stays rs k j h

zero-there : (rs : List ℕ) (k : ℕ) → slice_index (slice_set rs k 0) k ≡ 0
zero-there [] k = refl
zero-there (r ∷ rs) zero = refl
zero-there (r ∷ rs) (suc k) = zero-there rs k

-- the first so many of the dead registers have 0
pub record IsClearing (ds : List Bool) (old new : List ℕ) (at : ℕ) : Type 0 where
  pub same : cleared ds new ≡ cleared ds old
  pub zeros : (j : ℕ) → j < at → slice_index_or ds j false ≡ true → slice_index new j ≡ 0
  pub size : length new ≡ 6

pub clears-none : (ds : List Bool) (rs : List ℕ) → length rs ≡ 6 → IsClearing ds rs rs 0
clears-none ds rs n = record { same = refl; zeros = λ j l. absurd (let z : ⊥ = omega (arith, l) in z); size = n }

pub clears-more : (ds : List Bool) (old now new : List ℕ) (at : ℕ)
    → IsClearing ds old now at
    → slice_index_or ds at false ≡ true
    → new ≡ slice_set now at 0
    → length new ≡ 6
    → IsClearing ds old new (at + 1)
clears-more ds old now new at h d e n = record {
  same = ap (cleared ds) e ∙ clear-one ds now at d ∙ h.same;
  zeros = λ j l q. ap (λ z. slice_index z j) e ∙ elim (lt-or at j) [
    | inl m ↦ zero-stays now at j (h.zeros j m q)
    | inr m ↦ let i : j ≡ at = omega (arith, l, m) in ap (λ z. slice_index (slice_set now at 0) z) i ∙ zero-there now at
  ];
  size = n;
}

pub clears-skip : (ds : List Bool) (old now : List ℕ) (at : ℕ) → IsClearing ds old now at → slice_index_or ds at false ≡ false → IsClearing ds old now (at + 1)
clears-skip ds old now at h d = record {
  same = h.same;
  zeros = λ j l q. elim (lt-or at j) [
    | inl m ↦ h.zeros j m q
    | inr m ↦ let i : j ≡ at = omega (arith, l, m) in absurd (let e = ap (λ z. slice_index_or ds z false) i in let z : ⊥ = cc in z)
  ];
  size = h.size;
}

beyond : (rs : List ℕ) (j : ℕ) → length rs ≤ j → slice_index rs j ≡ 0
beyond [] j l = refl
beyond (r ∷ rs) zero l = absurd (let z : ⊥ = omega (arith, l) in z)
beyond (r ∷ rs) (suc j) l = beyond rs j (omega (arith, l))

pub clears-all : (ds : List Bool) (old now : List ℕ) (at : ℕ) → IsClearing ds old now at → 6 ≤ at → now ≡ cleared ds old
clears-all ds old now at h l =
    sym (clear-all ds now (λ j q. elim (lt-or at j) [ inl m ↦ h.zeros j m q | inr m ↦ let n = h.size in beyond now j (omega (arith, l, m, n)) ])) ∙ h.same

-- ---- one core

drop-beyond : (p : List Instr) (k : ℕ) → length p ≤ k → drop k p ≡ []
drop-beyond [] zero l = refl
drop-beyond [] (suc k) l = refl
drop-beyond (x ∷ p) zero l = absurd (let z : ⊥ = omega (arith, l) in z)
drop-beyond (x ∷ p) (suc k) l = drop-beyond p k (omega (arith, l))

-- the row of a place
pub row-is : (p : List Instr) (hidden : List Bool) (rows : List (List Bool)) (place left : ℕ) (d : List Bool) → AreDead p hidden rows → left ≡ length p - place
    → slice_index_or rows left d ≡ dead_at (drop place p) hidden
row-is p hidden rows place left d h l = elim (lt-or (length p) place) [
  | inl m ↦ found place (omega (arith, l, m))
  | inr m ↦ found (length p) (omega (arith, l, m)) ∙ ap (λ z. dead_at z hidden) (drop-end p (length p) refl ∙ sym (drop-beyond p place m))
]
  where
    found : (place : ℕ) → left + place ≡ length p → slice_index_or rows left d ≡ dead_at (drop place p) hidden
    found place q =
        let a = h.each left place q in
        let n = h.count in
        let b : slice_get rows left ≡ Some (slice_index_or rows left d) = slice_get-get_or rows left d (omega (arith, q, n)) in
        let z : slice_index_or rows left d ≡ dead_at (drop place p) hidden = cc in
        z

-- ---- all cores

module _ (t : Litmus) (hidden : List (List Bool)) where
  one-more : (xs : List CoreState) (k m : ℕ) (y : CoreState)
      → k < length xs
      → y ≡ forgotten_core (program_of t m) (hidden_of hidden m) (slice_index_or xs k idle)
      → take (suc k) (slice_set xs k y) ++ forgotten_cores t hidden (m + 1) (drop (suc k) (slice_set xs k y))
      ≡ take k xs ++ forgotten_cores t hidden m (drop k xs)
  one-more [] k m y l e = absurd (let z : ⊥ = omega (arith, l) in z)
  one-more (x ∷ xs) zero m y l e = ap (λ z. z ∷ forgotten_cores t hidden (m + 1) xs) e
  one-more (x ∷ xs) (suc k) m y l e = ap (λ z. x ∷ z) (one-more xs k m y (omega (arith, l)) e)

  -- the cores before this one have forgotten
  abbrev pub IsForgetting : List CoreState → List CoreState → ℕ → Type 0
  IsForgetting old now k = forgotten_cores t hidden 0 old ≡ take k now ++ forgotten_cores t hidden k (drop k now)

  pub forgets-more : (old now new : List CoreState) (k : ℕ) (y : CoreState) → IsForgetting old now k → k < length now → new ≡ slice_set now k y
      → y ≡ forgotten_core (program_of t k) (hidden_of hidden k) (slice_index_or now k idle) → IsForgetting old new (k + 1)
  forgets-more old now new k y h l e q =
      h ∙ sym (one-more now k k y l q) ∙ ap (λ z. take (suc k) z ++ forgotten_cores t hidden (k + 1) (drop (suc k) z)) (sym e)
      ∙ (let n : suc k ≡ k + 1 = omega arith in ap (λ z. take z new ++ forgotten_cores t hidden (k + 1) (drop z new)) n)

  take-all : (xs : List CoreState) (k : ℕ) → length xs ≤ k → take k xs ++ forgotten_cores t hidden k (drop k xs) ≡ xs
  take-all [] zero l = refl
  take-all [] (suc k) l = refl
  take-all (x ∷ xs) zero l = absurd (let z : ⊥ = omega (arith, l) in z)
  take-all (x ∷ xs) (suc k) l = ap (λ z. x ∷ z) (rest xs k (suc k) (omega (arith, l)))
    where
      rest : (xs : List CoreState) (k m : ℕ) → length xs ≤ k → take k xs ++ forgotten_cores t hidden m (drop k xs) ≡ xs
      rest [] zero m l = refl
      rest [] (suc k) m l = refl
      rest (x ∷ xs) zero m l = absurd (let z : ⊥ = omega (arith, l) in z)
      rest (x ∷ xs) (suc k) m l = ap (λ z. x ∷ z) (rest xs k m (omega (arith, l)))

  pub forgets-all : (old now : List CoreState) (k : ℕ) → IsForgetting old now k → length now ≤ k → now ≡ forgotten_cores t hidden 0 old
  forgets-all old now k h l = sym (take-all now k l) ∙ sym h
