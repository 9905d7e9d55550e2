-- A choice on the hardware of a machine, from what its core did.
use Rattle.machine_core.proofs.Vocabulary.{◌≡◌, ◌<◌, ℕ, ◌++◌, None, Some, Result, Ok, Err, IfOk, length, slice_get, slice_set}
use Rattle.machine_core.proofs.Vocabulary.{slice_index_or, length-set, refl, sym, ap, ◌∙◌, subst, All, All-set, Litmus, Effect, stalled}
use Rattle.machine_core.proofs.Vocabulary.{step_of, drain_of, chosen, memory_after, program_of, core_of, MemoryAccess, NoAccess, access_of}
use Rattle.machine_core.proofs.Vocabulary.{step_access, drain_access, Free, BusEffect, acts, Core, Instr, NoMemory, Choice, Step, Drain}
use Rattle.machine_core.proofs.Vocabulary.{Outcome, words_of, cores_of, holder_of, Processor, Hardware, core_state, core_states, pending_in}
use Rattle.machine_core.proofs.Vocabulary.{step_by, effect_of_drain, caches_of, completing_by, use_of, IsCore, HardwareFitsTest, core_in}
use Rattle.machine_core.proofs.Vocabulary.{state_in, ChoiceAnswer, HasUsed, HasEffect, MayAct, MayMakeBy, MayMakeIn, flat_effect_in, by_way}
use Rattle.machine_core.proofs.Vocabulary.{HasAsked, Way, Whole, Asked, HasActed, use_by, HasMade, effect_made_in}
use Rattle.tso_terms.specs.declared.choice.Stall.TheVariants as stall
use Rattle.multiprocessor.proofs.CoreLemmas.{core_states-get_or, core_states-set}
use Rattle.multiprocessor.proofs.ActedLemmas.{whole-none}
use Rattle.machine_core.proofs.Splitting.{flat_use_in, use-acts, use-frees, held-with, held-made}

-- the core that a choice names, as the flat machine has it
pub core_of-state_in : {P : Type 0} (m : Hardware P) (i : ℕ) (p : Processor)
    → i < length m.processors.items
    → p ≡ slice_index_or m.processors.items i p
    → core_of (state_in m).flat i ≡ core_state i p
core_of-state_in m i p h q = core_states-get_or m.processors.items i p h ∙ ap (core_state i) (sym q)

pub effect_in-step : {P : Type 0} (t : Litmus) (m : Hardware P) (core : Core) (p : Processor) (instr : Instr)
    → core.0 < length m.processors.items
    → p ≡ slice_index_or m.processors.items core.0 p
    → p.stores.depth ≡ m.config.depth
    → slice_get (program_of t core.0) p.place ≡ Some instr
    → flat_effect_in t m (Step core) ≡ step_by instr core.0 p (words_of m.bus)
effect_in-step t m core p instr h q d g =
    ap (λ s. step_of m.config.depth (words_of m.bus) core.0 (slice_get (program_of t core.0) s.place) s) (core_of-state_in m core.0 p h q)
    ∙ ap (λ found. step_of m.config.depth (words_of m.bus) core.0 found (core_state core.0 p)) g
    ∙ ap (λ depth. step_of depth (words_of m.bus) core.0 (Some instr) (core_state core.0 p)) (sym d)

pub effect_in-done : {P : Type 0} (t : Litmus) (m : Hardware P) (core : Core) (p : Processor)
    → core.0 < length m.processors.items
    → p ≡ slice_index_or m.processors.items core.0 p
    → slice_get (program_of t core.0) p.place ≡ None → flat_effect_in t m (Step core) ≡ stalled stall.Done (core_state core.0 p)
effect_in-done t m core p h q g =
    ap (λ s. step_of m.config.depth (words_of m.bus) core.0 (slice_get (program_of t core.0) s.place) s) (core_of-state_in m core.0 p h q)
    ∙ ap (λ found. step_of m.config.depth (words_of m.bus) core.0 found (core_state core.0 p)) g

pub effect_in-drain : {P : Type 0} (t : Litmus) (m : Hardware P) (core : Core) (p : Processor)
    → core.0 < length m.processors.items
    → p ≡ slice_index_or m.processors.items core.0 p
    → flat_effect_in t m (Drain core) ≡ effect_of_drain core.0 p (words_of m.bus)
effect_in-drain t m core p h q = ap (λ s. drain_of s) (core_of-state_in m core.0 p h q)

-- the access that it makes
pub access_of-step : {P : Type 0} (t : Litmus) (m : Hardware P) (core : Core) (p : Processor) (instr : Instr)
    → core.0 < length m.processors.items
    → p ≡ slice_index_or m.processors.items core.0 p
    → p.stores.depth ≡ m.config.depth → slice_get (program_of t core.0) p.place ≡ Some instr
    → access_of t m.config.depth (state_in m).flat (Step core) ≡ step_access p.stores.depth (Some instr) (pending_in core.0 p)
access_of-step t m core p instr h q d g =
    ap (λ s. step_access m.config.depth (slice_get (program_of t core.0) s.place) s.pending) (core_of-state_in m core.0 p h q)
    ∙ ap (λ found. step_access m.config.depth found (pending_in core.0 p)) g
    ∙ ap (λ depth. step_access depth (Some instr) (pending_in core.0 p)) (sym d)

pub access_of-done : {P : Type 0} (t : Litmus) (m : Hardware P) (core : Core) (p : Processor)
    → core.0 < length m.processors.items
    → p ≡ slice_index_or m.processors.items core.0 p
    → slice_get (program_of t core.0) p.place ≡ None → access_of t m.config.depth (state_in m).flat (Step core) ≡ NoAccess
access_of-done t m core p h q g =
    ap (λ s. step_access m.config.depth (slice_get (program_of t core.0) s.place) s.pending) (core_of-state_in m core.0 p h q)
    ∙ ap (λ found. step_access m.config.depth found (pending_in core.0 p)) g

pub access_of-drain : {P : Type 0} (t : Litmus) (m : Hardware P) (core : Core) (p : Processor)
    → core.0 < length m.processors.items
    → p ≡ slice_index_or m.processors.items core.0 p
    → access_of t m.config.depth (state_in m).flat (Drain core) ≡ drain_access (pending_in core.0 p)
access_of-drain t m core p h q = ap (λ s. drain_access s.pending) (core_of-state_in m core.0 p h q)

-- from what its core did
pub Performs-by : {P : Type 0} (m new : Hardware P) (choice : Choice) (o : Outcome) (p : Processor) (f g : BusEffect) → f ≡ g
    → new.processors.items ≡ slice_set m.processors.items (chosen choice) p → core_state (chosen choice) p ≡ g.effect.after
    → words_of new.bus ≡ memory_after g.effect.commits (words_of m.bus)
    → new.commits.entries ≡ m.commits.entries ++ g.effect.commits
    → (state_in new).holder ≡ g.holder
    → o ≡ g.effect.outcome
    → HasEffect m new choice f o
Performs-by m new choice o p f g e processors after memory commits holder outcome =
    let cores : core_states 0 new.processors.items ≡ slice_set (core_states 0 m.processors.items) (chosen choice) g.effect.after =
    ap (core_states 0) processors
    ∙ core_states-set m.processors.items (chosen choice) p
    ∙ ap (λ s. slice_set (core_states 0 m.processors.items) (chosen choice) s) after in
    let all : HasEffect m new choice g o = record {
      outcome = outcome;
      flat = rw (cores, memory) refl;
      holder = holder;
      commits = commits;
    } in
    subst (λ h. HasEffect m new choice h o) (sym e) all

-- its core may make its access
pub may-make : {P : Type 0} (way : Way) (t : Litmus) (m : Hardware P) (choice : Choice) (what : MemoryAccess)
    → access_of t m.config.depth (state_in m).flat choice ≡ what
    → MayMakeIn way t m choice → MayMakeBy way m.bus (core_in choice) what
may-make Whole t m (Step core) what a may = subst (MayAct m.bus core.0) a may
may-make Whole t m (Drain core) what a may = subst (MayAct m.bus core.0) a may
may-make Asked t m choice what a may = subst (HasAsked m.bus (core_in choice)) a may.1

pub whole-done : {P : Type 0} (way : Way) (t : Litmus) (m : Hardware P) (choice : Choice)
    → access_of t m.config.depth (state_in m).flat choice ≡ NoAccess
    → MayMakeIn way t m choice
    → way ≡ Whole
whole-done way t m choice none may =
    whole-none (record { core = core_in choice; way = way }) m.bus NoAccess refl (may-make way t m choice NoAccess none may)

-- how it used the caches
use-made : {P : Type 0} (way : Way) (t : Litmus) (m : Hardware P) (choice : Choice)
    → MayMakeIn way t m choice
    → use_by t m choice (effect_made_in way t m choice)
    ≡ by_way way (flat_use_in t m choice) (completing_by (caches_of m.bus) (chosen choice) (access_of t m.config.depth (state_in m).flat choice))
use-made Whole t m choice may = use-acts t m choice
use-made Asked t m choice may = use-frees t m choice (effect_made_in Asked t m choice) may.0 refl

pub IfOk-Makes : {P : Type 0} (way : Way) (r : Result ChoiceAnswer NoMemory) (t : Litmus) (m new : Hardware P)
    (choice : Choice) (what : MemoryAccess) (p q : Processor) (f : Effect)
    → MayMakeIn way t m choice
    → flat_effect_in t m choice ≡ f
    → access_of t m.config.depth (state_in m).flat choice ≡ what
    → chosen choice < length m.processors.items
    → p ≡ slice_index_or m.processors.items (chosen choice) p
    → new.processors.items ≡ slice_set m.processors.items (chosen choice) q → new.next ≡ m.next
    → IfOk r (HasActed way what (chosen choice) p q m.bus new.bus m.commits new.commits f) → IfOk r (HasMade t m new choice (effect_made_in way t m choice))
IfOk-Makes way (Ok x) t m new choice what p q f may e a h at processors next acted =
    let c = caches_of m.bus in
    let done = completing_by c (chosen choice) in
    let before = access_of t m.config.depth (state_in m).flat choice in
    let used : use_by t m choice (effect_made_in way t m choice) ≡ by_way way (use_of c (pending_in (chosen choice) p) f.commits) (done what) =
    use-made way t m choice may
    ∙ ap (λ s. by_way way (use_of c s.pending (flat_effect_in t m choice).commits) (done before)) (core_of-state_in m (chosen choice) p h at)
    ∙ ap (λ g. by_way way (use_of c (pending_in (chosen choice) p) g.commits) (done before)) e
    ∙ ap (λ b. by_way way (use_of c (pending_in (chosen choice) p) f.commits) (done b)) a in
    record {
      ok =
          Performs-by m new choice x.0 q (effect_made_in way t m choice) (acts f (by_way way (state_in m).holder Free))
          (ap (λ g. acts g (by_way way (state_in m).holder Free)) e)
          processors acted.after acted.words acted.commits
          (ap (λ n. held-with n (holder_of new.bus)) next
          ∙ ap (held-with m.next) acted.holder
          ∙ held-made way m.next (holder_of m.bus))
          acted.outcome;
      caches = subst (λ u. HasUsed u new.bus x.1) (sym used) acted.caches;
    }
IfOk-Makes way (Err x) t m new choice what p q f may e a h at processors next acted = tt

-- the hardware still fits the test when one core and memory have changed
pub PartsFitTest-next : {P : Type 0} (t : Litmus) (m new : Hardware P) (i : ℕ) (p : Processor)
    → HardwareFitsTest t m
    → new.config ≡ m.config
    → new.processors.items ≡ slice_set m.processors.items i p
    → cores_of new.bus ≡ cores_of m.bus
    → length (words_of new.bus) ≡ length (words_of m.bus)
    → p.stores.depth ≡ m.config.depth
    → All (λ s. s.loc.0 < length (words_of m.bus)) p.stores.items
    → HardwareFitsTest t new
PartsFitTest-next t m new i p fits config processors on_bus size depth known = record {
  cores = ap length processors ∙ length-set m.processors.items i p ∙ fits.cores;
  on_bus = on_bus ∙ fits.on_bus;
  words = size ∙ fits.words;
  each =
      let old : All (IsCore m.config.depth (length (words_of m.bus))) (slice_set m.processors.items i p) =
      All-set (IsCore m.config.depth (length (words_of m.bus))) m.processors.items i p (record { depth_is = depth; known = known }) fits.each in
      subst (λ ps. All (IsCore new.config.depth (length (words_of new.bus))) ps) (sym processors)
      (subst (λ n. All (IsCore new.config.depth n) (slice_set m.processors.items i p)) (sym size)
      (subst (λ c. All (IsCore c.depth (length (words_of m.bus))) (slice_set m.processors.items i p)) (sym config) old));
}

pub within-cores : {P : Type 0} (t : Litmus) (m : Hardware P) (i : ℕ) → HardwareFitsTest t m → i < length t.programs → i < length m.processors.items
within-cores t m i fits h = subst (λ n. i < n) (sym fits.cores) h

pub IsCore-at : {P : Type 0} (t : Litmus) (m : Hardware P) (i : ℕ) (p : Processor)
    → HardwareFitsTest t m
    → i < length t.programs
    → p ≡ slice_index_or m.processors.items i p
    → IsCore m.config.depth (length (words_of m.bus)) p
IsCore-at t m i p fits h q = subst (IsCore m.config.depth (length (words_of m.bus))) (sym q) (fits.each i p (within-cores t m i fits h))
