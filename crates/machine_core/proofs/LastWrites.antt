-- The store part of a locked instruction on a split bus.
use Rattle.machine_core.proofs.Vocabulary.{◌≡◌, ◌≢◌, ℕ, zero, suc, false, List, [], ◌∷◌, None, slice_index, slice_set, refl, sym, ap, ◌∙◌}
use Rattle.machine_core.proofs.Vocabulary.{subst, set-get_or, Litmus, entry, updated, CoreState, Effect, effect_by}
use Rattle.machine_core.proofs.Vocabulary.{effect_of, core_of, MemoryAccess, NoAccess, Locks, store_access, load_access, locked_access}
use Rattle.machine_core.proofs.Vocabulary.{access_by, access_of, Free, HeldBetween, BusEffect, acts, as_read, after_first, Split, Reg, Loc}
use Rattle.machine_core.proofs.Vocabulary.{Update, Action, Store, Load, Lock, Entry, LW, Step, Committed, HasRead, HolderFits, BusModel}
use Rattle.machine_core.proofs.Vocabulary.{IsFree, IsSameMachine, words_of, contents_of, awaited_of, Processor, Unused, Hardware}
use Rattle.machine_core.proofs.Vocabulary.{core_state, caches_of, not_through, is_awaited, used_between, state_in, HasUsed, use_by}
use Rattle.machine_core.proofs.Vocabulary.{writes_last_in, locked_with}
use Rattle.std.specs.Prelude.{Option}
use Rattle.tso_terms.specs.FlatMachine.{State, advanced_taking}
use Rattle.multiprocessor.proofs.Finishing.{free-awaits}
use Rattle.machine_core.proofs.ChoiceEffects.{core_of-state_in}
use Rattle.machine_core.proofs.StepCompletions.{IsNext, access-next, effect-next}

pub has-read : {P : Type 0} (t : Litmus) (m : Hardware P) (e : Entry)
    → HolderFits Split t m.config.depth (state_in m).flat (state_in m).holder
    → (state_in m).holder ≡ HeldBetween e
    → HasRead t m.config.depth (state_in m).flat e
has-read t m e fits between = subst (HolderFits Split t m.config.depth (state_in m).flat) between fits

pub locks-some : (what : MemoryAccess) (loc : Loc) → what ≡ Locks loc → what ≢ NoAccess
locks-some what loc locks = λ none. (let z : NoAccess ≡ Locks loc = sym none ∙ locks in let w : ⊥ = cc in w)

-- the action is a locked read and write
abbrev pub IsLock : Action → Type 0
IsLock (Lock loc reg update) = Unit {0}
IsLock _ = ⊥

-- with these registers a locked instruction that read this word writes this value, and the word goes to this register
abbrev pub WritesAs : Action → List ℕ → ℕ → Option Reg → ℕ → Type 0
WritesAs (Lock loc reg update) registers word into due = (into ≡ reg) × (due ≡ updated update registers word)
WritesAs _ registers word into due = ⊥

-- only a locked instruction locks
no-store : (depth : ℕ) (loc at : Loc) → store_access depth loc ≡ Locks at → ⊥
no-store zero loc at h = (let z : ⊥ = cc in z)
no-store (suc n) loc at h = (let z : ⊥ = cc in z)

no-load : (loc at : Loc) (pending : List Entry) → load_access loc pending ≡ Locks at → ⊥
no-load loc at [] h = (let z : ⊥ = cc in z)
no-load loc at (p ∷ ps) h = (let z : ⊥ = cc in z)

pub is-lock : (depth : ℕ) (a : Action) (pending : List Entry) (at : Loc) → access_by depth a pending ≡ Locks at → IsLock a
is-lock depth (Store loc operand) pending at h = no-store depth loc at h
is-lock depth (Load reg loc) pending at h = no-load loc at _ h
is-lock depth (Lock loc reg update) pending at h = tt
is-lock depth _ pending at h = (let z : ⊥ = cc in z)

pub other-locks : (a : Action) → IsLock a → ((loc : Loc) (reg : Option Reg) (update : Update) → a ≢ Lock loc reg update) → ⊥
other-locks (Lock loc reg update) lock other = other loc reg update refl
other-locks _ lock other = lock

-- the core has read this word, and writes this value
abbrev pub last_part : ℕ → ℕ → CoreState → Loc → Option Reg → ℕ → ℕ → Effect
last_part core place s at into word due = record { outcome = Committed; after = advanced_taking s into word; commits = entry core place LW at due ∷ [] }

locked-last : (core : ℕ) (words : List ℕ) (s : CoreState) (loc at : Loc) (reg into : Option Reg) (word value due : ℕ)
    (pending : List Entry)
    → locked_access loc pending ≡ Locks at
    → slice_index words at.0 ≡ word → into ≡ reg → (slice_index words loc.0 ≡ word → due ≡ value)
    → after_first (locked_with core s loc reg (slice_index words loc.0) value pending) ≡ last_part core s.place s at into word due
locked-last core words s loc at reg into word value due [] locks read register writes =
    let here : loc ≡ at = cc in
    let is : slice_index words loc.0 ≡ word = ap (λ (l : Loc). slice_index words l.0) here ∙ read in
    ap (λ w. last_part core s.place s loc reg w value) is ∙ ap (λ l. last_part core s.place s l reg word value) here
    ∙ ap (λ r. last_part core s.place s at r word value) (sym register) ∙ ap (last_part core s.place s at into word) (sym (writes is))
locked-last core words s loc at reg into word value due (p ∷ ps) locks read register writes = absurd (let z : ⊥ = cc in z)

action-writes : (depth core : ℕ) (words : List ℕ) (a : Action) (s : CoreState) (at : Loc) (into : Option Reg)
    (word due : ℕ)
    → access_by depth a s.pending ≡ Locks at
    → slice_index words at.0 ≡ word
    → WritesAs a s.registers word into due
    → after_first (effect_by depth words core a s) ≡ last_part core s.place s at into word due
action-writes depth core words (Lock loc reg update) s at into word due locks read writes =
    locked-last core words s loc at reg into word (updated update s.registers (slice_index words loc.0)) due s.pending locks read writes.0
    (λ is. writes.1 ∙ ap (λ w. updated update s.registers w) (sym is))
action-writes depth core words _ s at into word due locks read writes = absurd writes

-- memory still has the word that was read
read-same : (state : State) (e : Entry) → slice_index state.memory e.loc.0 ≡ e.value → as_read state e ≡ state
read-same state e word =
    ap (λ words. record { memory = words; cores = state.cores }) (ap (slice_set state.memory e.loc.0) (sym word) ∙ set-get_or state.memory e.loc.0 0)

pub writes-last : {P : Type 0} (t : Litmus) (m : Hardware P) (e : Entry) (p : Processor) (a : Action) (into : Option Reg) (due : ℕ) → IsNext t m e.core p a
    → HasRead t m.config.depth (state_in m).flat e → WritesAs a p.registers e.value into due
    → writes_last_in t m e ≡ acts (last_part e.core.0 e.place (core_state e.core.0 p) e.loc into e.value due) Free
writes-last t m e p a into due next read writes =
    let place : p.place ≡ e.place = ap (λ (s : CoreState). s.place) (sym (core_of-state_in m e.core.0 p next.within next.core_is)) ∙ read.place in
    ap (λ state. acts (after_first (effect_of t m.config.depth state (Step e.core))) Free) (read-same (state_in m).flat e read.word)
    ∙ ap (λ f. acts (after_first f) Free) (effect-next t m e.core p a next)
    ∙ ap (λ f. acts f Free)
    (action-writes p.stores.depth e.core.0 (words_of m.bus) a (core_state e.core.0 p) e.loc into e.value due
    (sym (access-next t m e.core p a next) ∙ read.access) read.word writes)
    ∙ ap (λ n. acts (last_part e.core.0 n (core_state e.core.0 p) e.loc into e.value due) Free) place

-- it is no access
pub use-last : {P : Type 0} (t : Litmus) (m : Hardware P) (e : Entry) (f : BusEffect) (p : Processor)
    (into : Option Reg) (due : ℕ)
    → (state_in m).holder ≡ HeldBetween e
    → f ≡ acts (last_part e.core.0 e.place (core_state e.core.0 p) e.loc into e.value due) Free
    → use_by t m (Step e.core) f ≡ not_through Unused (caches_of m.bus)
use-last t m e f p into due between is =
    let what = access_of t m.config.depth (state_in m).flat (Step e.core) in
    let pending = (core_of (state_in m).flat e.core.0).pending in
    ap (use_by t m (Step e.core)) is
    ∙ ap (λ h. used_between (is_awaited h) false (caches_of m.bus) e.core.0 what pending (entry e.core.0 e.place LW e.loc due ∷ [])) between

pub rests-last : (old new : BusModel)
    → contents_of new ≡ contents_of old
    → IsSameMachine old new
    → IsFree new
    → awaited_of old ≡ None
    → HasUsed (not_through Unused (caches_of old)) new Unused
rests-last old new contents machine free none = record { how_is = refl; caches = rw (machine.rows, machine.shape, contents, free-awaits new free, none) refl }
