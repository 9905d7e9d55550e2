-- Which registers are dead, worked out from the end of a program on.
use Rattle.explorer.proofs.Vocabulary.{◌≡◌, ◌≤◌, ℕ, ◌+◌, Bool, List, [], ◌∷◌, ◌++◌, length, Some, slice_get, slice_index_or, inl, inr, drop}
use Rattle.explorer.proofs.Vocabulary.{arith, ap, sym, ◌∙◌, subst, refl, length-append, slice_get-get_or, lt-or, drop-at, drop-end}
use Rattle.explorer.proofs.Vocabulary.{action_of, Instr, Action, dead_before, dead_at, AreDead}
use Rattle.explorer.proofs.Linking.{get-left, get-back, get-last}

-- the rows of the places with at most so many instructions still to come
pub record AreDeadSoFar (program : List Instr) (hidden : List Bool) (rows : List (List Bool)) (left : ℕ) : Type 0 where
  pub count : length rows ≡ left + 1
  pub each : (n place : ℕ) → n ≤ left → n + place ≡ length program → slice_get rows n ≡ Some (dead_at (drop place program) hidden)

last-at : (xs : List (List Bool)) (x : List Bool) → slice_get (xs ++ x ∷ []) (length xs) ≡ Some x
last-at [] x = refl
last-at (y ∷ xs) x = last-at xs x

pub rows-none : (p : List Instr) (hidden : List Bool) (rows : List (List Bool)) → rows ≡ hidden ∷ [] → AreDeadSoFar p hidden rows 0
rows-none p hidden rows e = record {
  count = ap length e;
  each = λ n place l q.
      let z : n ≡ 0 = omega (arith, l) in
      let end : length p ≡ place = omega (arith, z, q) in
      ap (λ z. slice_get rows z) z ∙ ap (λ z. slice_get z 0) e ∙ ap (λ z. Some (dead_at z hidden)) (sym (drop-end p place end));
}

module _ (p : List Instr) (hidden : List Bool) (rows new : List (List Bool)) (left m : ℕ) (a : Action) (x : Instr)
    (d before : List Bool) (h : AreDeadSoFar p hidden rows left)
    (m-is : m + (left + 1) ≡ length p) (a-is : a ≡ action_of (slice_index_or p m x))
    (d-is : d ≡ slice_index_or rows left d) (before-is : before ≡ dead_before a d) (new-is : new ≡ rows ++ before ∷ [])
  where
    d-dead : d ≡ dead_at (drop (m + 1) p) hidden
    d-dead =
        let n = h.count in
        let a : slice_get rows left ≡ Some (slice_index_or rows left d) = slice_get-get_or rows left d (omega (arith, n)) in
        let b = h.each left (m + 1) (omega arith) (omega (arith, m-is)) in
        let z : slice_index_or rows left d ≡ dead_at (drop (m + 1) p) hidden = cc in
        d-is ∙ z

    before-dead : before ≡ dead_at (drop m p) hidden
    before-dead =
        before-is ∙ ap (dead_before a) d-dead ∙ ap (λ z. dead_before z (dead_at (drop (m + 1) p) hidden)) a-is
        ∙ ap (λ z. dead_at z hidden) (sym (drop-at p m (slice_index_or p m x) (slice_get-get_or p m x (omega (arith, m-is)))))

    pub rows-more : AreDeadSoFar p hidden new (left + 1)
    rows-more = record {
      count = let a = ap length new-is in let b = length-append rows (before ∷ []) in let n = h.count in omega (arith, a, b, n);
      each = λ n place l q. elim (lt-or (left + 1) n) [
        | inl k ↦
            subst (λ z. slice_get z n ≡ Some (dead_at (drop place p) hidden)) (sym new-is)
            (get-left rows (before ∷ []) n _ (h.each n place (omega (arith, k)) q))
        | inr k ↦
            let c = h.count in
            let i : n ≡ length rows = omega (arith, l, k, c) in
            let j : m ≡ place = omega (arith, l, k, q, m-is) in
            ap (λ z. slice_get z n) new-is ∙ ap (λ z. slice_get (rows ++ before ∷ []) z) i ∙ last-at rows before
            ∙ ap Some (before-dead ∙ ap (λ z. dead_at (drop z p) hidden) j)
      ];
    }

pub plan-none : {A : Type 0} (P : ℕ → A → Type 0) (xs : List A) → xs ≡ [] → (k : ℕ) (y : A) → slice_get xs k ≡ Some y → P k y
plan-none P [] e k y at = absurd (let z : ⊥ = cc in z)
plan-none P (x ∷ xs) e k y at = absurd (let z : ⊥ = cc in z)

-- one core more has its rows
pub plan-more : {A : Type 0} (P : ℕ → A → Type 0) (xs : List A) (n : ℕ) (x : A) (new : List A) → length xs ≡ n → new ≡ xs ++ x ∷ [] → P n x
    → ((k : ℕ) (y : A) → slice_get xs k ≡ Some y → P k y) → (k : ℕ) (y : A) → slice_get new k ≡ Some y → P k y
plan-more P xs n x new c e p h k y at = elim (lt-or (length xs) k) [
  | inl l ↦ h k y (get-back xs (x ∷ []) k y l (subst (λ z. slice_get z k ≡ Some y) e at))
  | inr l ↦
      let r = get-last xs x y k l (subst (λ z. slice_get z k ≡ Some y) e at) in
      subst (λ z. P z y) (sym r.0) (subst (λ z. P (length xs) z) r.1 (subst (λ z. P z x) (sym c) p))
]

pub rows-all : (p : List Instr) (hidden : List Bool) (rows : List (List Bool)) (left : ℕ)
    → length p ≤ left
    → left ≤ length p
    → AreDeadSoFar p hidden rows left
    → AreDead p hidden rows
rows-all p hidden rows left l m h = record {
  count = let n = h.count in omega (arith, n, l, m);
  each = λ n place q. h.each n place (omega (arith, q, l)) q;
}
