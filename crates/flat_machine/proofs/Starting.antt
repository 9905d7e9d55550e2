-- The cores begin one after the other.
use Rattle.flat_machine.proofs.Vocabulary.{◌≡◌, ℕ, ◌+◌, ◌<◌, ◌≤◌, zero, suc, List, [], ◌∷◌, ◌++◌, length, take, map, slice_index_or, refl}
use Rattle.flat_machine.proofs.Vocabulary.{ap, sym, ◌∙◌, arith, take_all, CoreState, State, started, start, Litmus, Instr}
use Rattle.flat_machine.proofs.Vocabulary.{core_of_processor, Processor}

pub map-last : (xs : List Processor) (y : Processor) → map core_of_processor (xs ++ y ∷ []) ≡ map core_of_processor xs ++ core_of_processor y ∷ []
map-last [] y = refl
map-last (x ∷ xs) y = ap (λ z. core_of_processor x ∷ z) (map-last xs y)

abbrev pub beginning : List ℕ → CoreState
beginning registers = record { place = 0; registers = registers; pending = [] }

started-more : (ps : List (List Instr)) (rs : List (List ℕ)) (c n : ℕ) → n < length ps
    → started c (take n ps) rs ++ beginning (slice_index_or rs (c + n) []) ∷ [] ≡ started c (take (suc n) ps) rs
started-more [] rs c n h = absurd (omega (arith, h))
started-more (p ∷ ps) rs c zero h = let q : c + 0 ≡ c = omega arith in ap (λ z. beginning (slice_index_or rs z []) ∷ []) q
started-more (p ∷ ps) rs c (suc n) h =
    let q : c + suc n ≡ (c + 1) + n = omega arith in
    ap (λ z. beginning (slice_index_or rs c []) ∷ (started (c + 1) (take n ps) rs ++ beginning (slice_index_or rs z []) ∷ [])) q
    ∙ ap (λ z. beginning (slice_index_or rs c []) ∷ z) (started-more ps rs (c + 1) n (omega (arith, h)))

pub one-core-more : (ps : List (List Instr)) (rs : List (List ℕ)) (old new : List Processor) (y : Processor) (n : ℕ)
    → n < length ps → map core_of_processor old ≡ started 0 (take n ps) rs → new ≡ old ++ y ∷ [] → core_of_processor y ≡ beginning (slice_index_or rs n [])
    → map core_of_processor new ≡ started 0 (take (n + 1) ps) rs
one-core-more ps rs old new y n h e q b =
    let z : 0 + n ≡ n = omega arith in
    ap (map core_of_processor) q ∙ map-last old y ∙ ap (λ w. w ++ core_of_processor y ∷ []) e ∙ ap (λ w. started 0 (take n ps) rs ++ w ∷ []) b
    ∙ ap (λ m. started 0 (take n ps) rs ++ beginning (slice_index_or rs m []) ∷ []) (sym z)
    ∙ started-more ps rs 0 n h
    ∙ (let w : suc n ≡ n + 1 = omega arith in ap (λ m. started 0 (take m ps) rs) w)

abbrev pub state-with : List ℕ → List CoreState → State
state-with memory cores = record { memory = memory; cores = cores }

-- all cores have begun
pub all-begun : (t : Litmus) (memory : List ℕ) (cores : List CoreState) (n : ℕ)
    → length t.programs ≤ n
    → memory ≡ t.words
    → cores ≡ started 0 (take n t.programs) t.registers
    → state-with memory cores ≡ start t
all-begun t memory cores n past words begun =
    ap (λ m. state-with m cores) words ∙ ap (state-with t.words) (begun ∙ ap (λ l. started 0 l t.registers) (take_all n t.programs past))
