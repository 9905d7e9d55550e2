-- What is still to come, worked out from the end of a program on.
use Rattle.explorer.proofs.Vocabulary.{◌≡◌, ◌≤◌, ℕ, ◌+◌, Bool, false, List, [], ◌∷◌, ◌++◌, length, Some, slice_get, slice_index_or, inl, inr}
use Rattle.explorer.proofs.Vocabulary.{arith, ap, sym, ◌∙◌, subst, length-append, slice_get-get_or, lt-or, action_of, Instr, Action, meets}
use Rattle.explorer.proofs.Vocabulary.{◌<◌, refl, get_or, Litmus, program_of, Vec, Global}
use Rattle.std.proofs.lemmas.Option.{slice_get_read}
use Rattle.explorer.proofs.Linking.{get-back, get-last, get-within}
use Rattle.explorer.specs.declared.coming.Accesses.{Accesses}
use Rattle.explorer.specs.inner.Coming.{LeavesOut, IsRowFrom, AreComing, AreAllComing}

-- the rows of the places with at most so many instructions still to come
pub record AreComingSoFar (program : List Instr) (rows : List Accesses) (left : ℕ) : Type 0 where
  pub count : length rows ≡ left + 1
  pub each : (n place : ℕ) (row : Accesses) → n ≤ left → n + place ≡ length program → slice_get rows n ≡ Some row → IsRowFrom program place row

pub coming-none : (p : List Instr) (row : Accesses) (none rows : List Accesses) → none ≡ [] → rows ≡ none ++ row ∷ [] → AreComingSoFar p rows 0
coming-none p row none rows n e = record {
  count = ap length (e ∙ ap (λ z. z ++ row ∷ []) n);
  each = λ n place r l q at loads loc i x out k stands. absurd (let w = get-within p i x stands in let z : ⊥ = omega (arith, l, q, k, w) in z);
}

-- one instruction more, at its own place and at those behind it
more-from : (p : List Instr) (m : ℕ) (a : Action) (x : Instr) (d before : Accesses) → slice_get p m ≡ Some x → a ≡ action_of x
    → ((loads : Bool) (loc : ℕ) → LeavesOut before loads loc → LeavesOut d loads loc × (meets loads loc a ≡ false))
    → IsRowFrom p (m + 1) d → IsRowFrom p m before
more-from p m a x d before at a-is tells later loads loc i y out k stands = elim (lt-or (m + 1) i) [
  | inl l ↦
      let same : i ≡ m = omega (arith, k, l) in
      let here : slice_get p m ≡ Some y = subst (λ z. slice_get p z ≡ Some y) same stands in
      let is : x ≡ y = cc in
      subst (λ z. meets loads loc (action_of z) ≡ false) is (subst (λ z. meets loads loc z ≡ false) a-is (tells loads loc out).1)
  | inr l ↦ later loads loc i y (tells loads loc out).0 l stands
]

module _ (p : List Instr) (rows new : List Accesses) (left m : ℕ) (a : Action) (x : Instr) (d before : Accesses)
    (h : AreComingSoFar p rows left) (m-is : m + (left + 1) ≡ length p) (a-is : a ≡ action_of (slice_index_or p m x))
    (d-is : d ≡ slice_index_or rows left d) (new-is : new ≡ rows ++ before ∷ [])
    (tells : (loads : Bool) (loc : ℕ) → LeavesOut before loads loc → LeavesOut d loads loc × (meets loads loc a ≡ false))
  where
    later : IsRowFrom p (m + 1) d
    later =
        let n = h.count in
        h.each left (m + 1) d (omega arith) (omega (arith, m-is))
        (slice_get-get_or rows left d (omega (arith, n)) ∙ ap Some (sym d-is))

    here : IsRowFrom p m before
    here = more-from p m a (slice_index_or p m x) d before (slice_get-get_or p m x (omega (arith, m-is))) a-is tells later

    pub coming-more : AreComingSoFar p new (left + 1)
    coming-more = record {
      count = let a = ap length new-is in let b = length-append rows (before ∷ []) in let n = h.count in omega (arith, a, b, n);
      each = λ n place row l q at.
          let c = h.count in
          let stands : slice_get (rows ++ before ∷ []) n ≡ Some row = subst (λ z. slice_get z n ≡ Some row) new-is at in
          elim (lt-or (length rows) n) [
            | inl k ↦ h.each n place row (omega (arith, k, c)) q (get-back rows (before ∷ []) n row k stands)
            | inr k ↦
                let last = get-last rows before row n k stands in
                let i = last.0 in
                let j : m ≡ place = omega (arith, i, c, q, m-is) in
                subst (λ z. IsRowFrom p z row) j (subst (λ z. IsRowFrom p m z) last.1 here)
          ];
    }

pub coming-all : (p : List Instr) (rows : List Accesses) (left : ℕ) → length p ≤ left → left ≤ length p → AreComingSoFar p rows left → AreComing p rows
coming-all p rows left l m h = λ n place row q at. h.each n place row (omega (arith, q, l)) q at

-- what a row is that was looked up
pub row-tells : (t : Litmus) (coming : List (Vec Accesses Global)) (core : ℕ) (rows : Vec Accesses Global) (row : Accesses) (left place : ℕ)
    → AreAllComing t coming
    → core < length coming
    → rows ≡ get_or coming core rows
    → left < length rows.items
    → row ≡ get_or rows.items left row
    → left + place ≡ length (program_of t core)
    → IsRowFrom (program_of t core) place row
row-tells t coming core rows row left place h l rows-is m row-is q =
    h core rows (slice_get_read coming (length coming) core rows refl l rows-is) left place row q
    (slice_get_read rows.items (length rows.items) left row refl m row-is)
