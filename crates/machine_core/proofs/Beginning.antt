-- The hardware of a machine that goes back to the beginning of its test.
use Rattle.machine_core.proofs.Vocabulary.{◌≡◌, ◌+◌, ℕ, zero, suc, List, [], ◌∷◌, Option, None, length, slice_index_or, map, replicate, All}
use Rattle.machine_core.proofs.Vocabulary.{refl, sym, ap, ◌∙◌, subst, arith, Litmus, started, start, unheld, Instr, IsPossibleOn, stores}
use Rattle.machine_core.proofs.Vocabulary.{table_of_rows, BusModel, cores_of, new_bus, Next, Processor, core_states, core_state}
use Rattle.machine_core.proofs.Vocabulary.{state_of_cores, at_start, Counts, no_counts, no_statistics, caches_of, Hardware, IsCore}
use Rattle.machine_core.proofs.Vocabulary.{state_in}
use Rattle.tso_terms.specs.declared.choice.Bus as kind
use Rattle.snoop_bus.specs.declared.holding.BusAction as bus_action
use Rattle.machine_core.proofs.Overwriting.{written}
use Rattle.multiprocessor.proofs.CoreLemmas.{IsCore-new}
use Rattle.machine_core.proofs.Splitting.{held-with}

-- a core that has gone back, with its first registers
abbrev pub begun : List (List ℕ) → ℕ → Processor → Processor
begun registers core p = at_start (slice_index_or registers core []) p

pub started-begun : (registers : List (List ℕ)) (k : ℕ) (ps : List Processor) (programs : List (List Instr)) → length ps ≡ length programs
    → core_states k (written (begun registers) k (length ps) ps) ≡ started k programs registers
started-begun registers k [] [] same = refl
started-begun registers k [] (q ∷ qs) same = absurd (omega arith)
started-begun registers k (p ∷ ps) [] same = absurd (omega arith)
started-begun registers k (p ∷ ps) (q ∷ qs) same =
    ap (λ cs. core_state k (begun registers k p) ∷ cs) (started-begun registers (k + 1) ps qs (omega arith))

pub depth-begun : (registers : List (List ℕ)) (depth before locations k : ℕ) (ps : List Processor) → All (IsCore depth before) ps
    → All (IsCore depth locations) (written (begun registers) k (length ps) ps)
depth-begun registers depth before locations k [] all i d l = absurd (omega arith)
depth-begun registers depth before locations k (p ∷ ps) all zero d l =
    IsCore-new depth locations (begun registers k p) (ap (λ n. stores [] n) (all 0 p (omega arith)).depth_is)
depth-begun registers depth before locations k (p ∷ ps) all (suc i) d l =
    depth-begun registers depth before locations (k + 1) ps (λ n e m. all (suc n) e (omega arith)) i d (omega arith)

pub all-none : (cs : List Counts) → map (λ _. no_counts) cs ≡ replicate (length cs) no_counts
all-none [] = refl
all-none (c ∷ cs) = ap (λ ns. no_counts ∷ ns) (all-none cs)

pub begun-state : (ps : List Processor) (words : List ℕ) (t : Litmus) (next : Next) (h : Option bus_action.BusAction)
    → core_states 0 ps ≡ started 0 t.programs t.registers
    → words ≡ t.words
    → h ≡ None → record { flat = state_of_cores ps words; holder = held-with next h } ≡ unheld (start t)
begun-state ps words t next h cores memory free = rw (cores, memory, free) refl

pub begun-statistics : (old new : BusModel) (init : List ℕ) (counts : List Counts) (t : Litmus) (n : ℕ)
    → new ≡ new_bus (table_of_rows old.rows) (cores_of old) old.shape init
    → cores_of old ≡ length t.programs
    → init ≡ t.words → counts ≡ replicate n no_counts → n ≡ length t.programs
    → record { caches = caches_of new; counts = counts } ≡ no_statistics (table_of_rows old.rows) old.shape t
begun-statistics old new init counts t n exact cores words none all =
    let bus : new ≡ new_bus (table_of_rows old.rows) (length t.programs) old.shape t.words =
    exact
    ∙ ap (λ k. new_bus (table_of_rows old.rows) k old.shape init) cores
    ∙ ap (λ w. new_bus (table_of_rows old.rows) (length t.programs) old.shape w) words in
    rw (bus, none, all) refl

-- what a machine has come to at the beginning is possible
pub possible-first : {P : Type 0} (t : Litmus) (m : Hardware P) → ((bus : kind.Bus) (t : Litmus) (depth : ℕ) → IsPossibleOn bus t depth [] (unheld (start t)))
    → state_in m ≡ unheld (start t) → m.commits.entries ≡ [] → IsPossibleOn m.config.bus t m.config.depth m.commits.entries (state_in m)
possible-first t m first state commits =
    subst (λ es. IsPossibleOn m.config.bus t m.config.depth es (state_in m)) (sym commits)
    (subst (λ s. IsPossibleOn m.config.bus t m.config.depth [] s) (sym state) (first m.config.bus t m.config.depth))
