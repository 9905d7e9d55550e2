-- Which cores are marked, and that nothing is pending.
use Rattle.explorer.proofs.Vocabulary.{◌≡◌, ◌<◌, ◌≤◌, ◌==◌, ℕ, zero, suc, Bool, true, false, List, [], ◌∷◌, length, replicate}
use Rattle.explorer.proofs.Vocabulary.{slice_index_or, arith, nat_tests, refl, Instr, CoreState, Avoids, IsHeldBack, away, by_drain}
use Rattle.explorer.proofs.Vocabulary.{by_step}

pub none-beyond : (marks : List Bool) (core : ℕ) → length marks ≤ core → slice_index_or marks core false ≡ false
none-beyond [] core l = refl
none-beyond (m ∷ marks) zero l = absurd (let z : ⊥ = omega (arith, l) in z)
none-beyond (m ∷ marks) (suc core) l = none-beyond marks core (omega (arith, l))

zero-is : (n : ℕ) → (n == 0) ≡ true → n ≡ 0
zero-is n q = let z : n ≡ 0 = grind (arith, nat_tests) in z

pub none-left : {A : Type 0} (xs : List A) → (length xs == 0) ≡ true → xs ≡ []
none-left [] q = refl
none-left (x ∷ xs) q = absurd (let n = zero-is (length (x ∷ xs)) q in let z : ⊥ = omega (arith, n) in z)

pub all-marked : (n core : ℕ) → core < n → slice_index_or (replicate n true) core false ≡ true
all-marked zero core l = absurd (let z : ⊥ = omega (arith, l) in z)
all-marked (suc n) zero l = refl
all-marked (suc n) (suc core) l = all-marked n core (omega (arith, l))

pub none-marked : (n core : ℕ) → slice_index_or (replicate n false) core false ≡ false
none-marked zero core = refl
none-marked (suc n) zero = refl
none-marked (suc n) (suc core) = none-marked n core

-- what no choice holds back keeps away by itself
pub held-by-none : (d : ℕ) (loads : Bool) (loc : ℕ) (program : List Instr) (s : CoreState) (step drain : Bool)
    → step ≡ false
    → drain ≡ false
    → IsHeldBack d loads loc program s step drain
    → Avoids loads loc program s
held-by-none d loads loc program s step drain p q (away h) = h
held-by-none d loads loc program s step drain p q (by_drain l h e) = absurd (let z : ⊥ = cc in z)
held-by-none d loads loc program s step drain p q (by_step h e) = absurd (let z : ⊥ = cc in z)
