-- Whether all cores from one on are done.
use Rattle.machine_core.proofs.Vocabulary.{◌≡◌, ◌<◌, ◌≤◌, ◌+◌, ℕ, zero, suc, true, Bool, ◌&&◌, List, [], ◌∷◌, length, drop, drop-cons}
use Rattle.machine_core.proofs.Vocabulary.{add-one, slice_index_or, refl, sym, ap, arith, Instr, Processor, core_state, core_states}
use Rattle.machine_core.proofs.Vocabulary.{is_done, all_done}

-- it is whether this core is, and those after it
pub done-next : (core : ℕ) (programs : List (List Instr)) (program : List Instr) (ps : List Processor) (p : Processor)
    (done : Bool)
    → core < length programs
    → core < length ps
    → program ≡ slice_index_or programs core [] → p ≡ slice_index_or ps core p → done ≡ is_done program (core_state core p)
    → all_done (drop core programs) (core_states core (drop core ps))
    ≡ (done && all_done (drop (core + 1) programs) (core_states (core + 1) (drop (core + 1) ps)))
done-next core programs program ps p done within there reads is tells =
    let left : drop core programs ≡ slice_index_or programs core [] ∷ drop (core + 1) programs = rw add-one (drop-cons programs core [] within) in
    let cores : drop core ps ≡ slice_index_or ps core p ∷ drop (core + 1) ps = rw add-one (drop-cons ps core p there) in
    rw (left, cores, tells, reads, sym is) refl

-- after the last one none is left
pub all-dropped : {X : Type 0} (core : ℕ) (xs : List X) → length xs ≤ core → drop core xs ≡ []
all-dropped zero [] past = refl
all-dropped (suc core) [] past = refl
all-dropped zero (x ∷ xs) past = absurd (let z : ⊥ = omega (arith, past) in z)
all-dropped (suc core) (x ∷ xs) past = all-dropped core xs (omega (arith, past))

pub none-left : (core : ℕ) (programs : List (List Instr)) (ps : List Processor)
    → length ps ≤ core
    → true ≡ all_done (drop core programs) (core_states core (drop core ps))
none-left core programs ps past = ap (λ left. all_done (drop core programs) (core_states core left)) (sym (all-dropped core ps past))
