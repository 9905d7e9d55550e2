-- A core that isn't there has nothing to do.
use Rattle.explorer.proofs.Vocabulary.{◌≡◌, ◌≤◌, ℕ, zero, suc, Bool, List, [], ◌∷◌, length, map, slice_get, slice_index_or, arith, ap, refl}
use Rattle.explorer.proofs.Vocabulary.{Litmus, program_of, core_of, idle, Instr, Avoids, state_of_snapshot, core_of_processor, Processor}
use Rattle.explorer.proofs.Vocabulary.{Snapshot}

no-program : (ps : List (List Instr)) (k : ℕ) → length ps ≤ k → slice_index_or ps k [] ≡ []
no-program [] k l = refl
no-program (p ∷ ps) zero l = absurd (let z : ⊥ = omega (arith, l) in z)
no-program (p ∷ ps) (suc k) l = no-program ps k (omega (arith, l))

no-core : (xs : List Processor) (k : ℕ) → length xs ≤ k → slice_index_or (map core_of_processor xs) k idle ≡ idle
no-core [] k l = refl
no-core (x ∷ xs) zero l = absurd (let z : ⊥ = omega (arith, l) in z)
no-core (x ∷ xs) (suc k) l = no-core xs k (omega (arith, l))

pub avoids-absent : (loads : Bool) (loc : ℕ) (t : Litmus) (s : Snapshot) (j : ℕ) → length s.cores.items ≤ j → length t.programs ≤ j
    → Avoids loads loc (program_of t j) (core_of (state_of_snapshot s) j)
avoids-absent loads loc t s j l m =
    let p = no-program t.programs j m in
    let q = no-core s.cores.items j l in
    record {
      coming = λ i x n e. absurd (let r = ap (λ z. slice_get z i) p in let z : ⊥ = cc in z);
      pending = λ i e h. absurd (let r = ap (λ z. slice_get z.pending i) q in let z : ⊥ = cc in z);
    }
