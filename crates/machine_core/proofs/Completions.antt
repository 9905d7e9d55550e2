-- What the holder's next choice commits: of a locked instruction the load part, else the whole access.
use Rattle.machine_core.proofs.Vocabulary.{◌≡◌, ◌<◌, ◌++◌, [], ◌∷◌, length, slice_set, slice_index, slice_index_or, refl, sym, ap, ◌∙◌}
use Rattle.machine_core.proofs.Vocabulary.{subst, set-get_or, Litmus, entry, chosen, memory_after, Locks, access_of, HeldBy, HeldBetween}
use Rattle.machine_core.proofs.Vocabulary.{reads_first, completes, Loc, Entry, LR, Choice, Committed, BusModel, words_of, Processor}
use Rattle.machine_core.proofs.Vocabulary.{Through, Hardware, core_state, caches_of, completing_by, completion_by, is_awaited, state_in}
use Rattle.machine_core.proofs.Vocabulary.{HasUsed, HasEffect, completes_in, use_by, ◌≢◌, ℕ, None, Ok, Err, Result, OnOk, OnErr, NoMemory}
use Rattle.machine_core.proofs.Vocabulary.{Free, acts, effect_of, Split, HolderFits, BusState, ChoiceAnswer, memory_access_in}
use Rattle.machine_core.proofs.Vocabulary.{IsHeldForAccess, IsUndone, held_as, holder_of, state_of_cores, effect_made_in, Asked}
use Rattle.tso_terms.specs.FlatMachine.{State}
use Rattle.multiprocessor.specs.declared.accesses.MemoryAccess as told
use Rattle.multiprocessor.specs.declared.accesses.MemoryAccess.TheVariants.{Nothing, Read, Write, Lock}
use Rattle.multiprocessor.specs.declared.config.Config.{Config}
use Rattle.multiprocessor.proofs.Accessing.{commits-at-once}
use Rattle.machine_core.proofs.Splitting.{use-frees, held-freed}
use Rattle.machine_core.proofs.ChoiceEffects.{Performs-by, core_of-state_in}
use Rattle.snoop_bus.specs.declared.access.AccessReport.{AccessReport}

-- of a locked instruction the load part is committed
completes-first : {P : Type 0} (t : Litmus) (m : Hardware P) (choice : Choice) (loc : Loc) (p : Processor)
    → access_of t m.config.depth (state_in m).flat choice ≡ Locks loc
    → chosen choice < length m.processors.items → p ≡ slice_index_or m.processors.items (chosen choice) p
    → completes_in t m choice ≡ reads_first (core_state (chosen choice) p) (entry (chosen choice) p.place LR loc (slice_index (words_of m.bus) loc.0))
completes-first t m choice loc p locks h at =
    ap (completes t m.config.depth (state_in m).flat choice) locks
    ∙ ap (λ s. reads_first s (entry (chosen choice) s.place LR loc (slice_index (words_of m.bus) loc.0))) (core_of-state_in m (chosen choice) p h at)

pub performs-first : {P : Type 0} (t : Litmus) (m new : Hardware P) (choice : Choice) (loc : Loc) (p : Processor)
    (e : Entry)
    → access_of t m.config.depth (state_in m).flat choice ≡ Locks loc
    → chosen choice < length m.processors.items
    → p ≡ slice_index_or m.processors.items (chosen choice) p
    → e ≡ entry (chosen choice) p.place LR loc (slice_index (words_of m.bus) loc.0)
    → new.processors.items ≡ m.processors.items
    → words_of new.bus ≡ words_of m.bus
    → new.commits.entries ≡ m.commits.entries ++ e ∷ []
    → (state_in new).holder ≡ HeldBetween e
    → HasEffect m new choice (completes_in t m choice) Committed
performs-first t m new choice loc p e locks h at is processors words commits holder =
    let same : new.processors.items ≡ slice_set m.processors.items (chosen choice) p =
    processors ∙ sym (set-get_or m.processors.items (chosen choice) p) ∙ ap (slice_set m.processors.items (chosen choice)) (sym at) in
    Performs-by m new choice Committed p (completes_in t m choice) (reads_first (core_state (chosen choice) p) e)
    (completes-first t m choice loc p locks h at ∙ ap (reads_first (core_state (chosen choice) p)) (sym is)) same refl
    (words ∙ ap (λ f. memory_after (f ∷ []) (words_of m.bus)) (sym is)) commits holder refl

pub uses-first : {P : Type 0} (t : Litmus) (m : Hardware P) (bus : BusModel) (choice : Choice) (loc : Loc)
    (p : Processor) (report : AccessReport)
    → (state_in m).holder ≡ HeldBy choice
    → access_of t m.config.depth (state_in m).flat choice ≡ Locks loc
    → chosen choice < length m.processors.items
    → p ≡ slice_index_or m.processors.items (chosen choice) p
    → HasUsed (completion_by (caches_of m.bus) (chosen choice) loc.0) bus (Through report)
    → HasUsed (use_by t m choice (completes_in t m choice)) bus (Through report)
uses-first t m bus choice loc p report asked locks h at used =
    let same : use_by t m choice (completes_in t m choice) ≡ completion_by (caches_of m.bus) (chosen choice) loc.0 =
    use-frees t m choice (completes_in t m choice) asked (ap (λ f. is_awaited f.holder) (completes-first t m choice loc p locks h at))
    ∙ ap (completing_by (caches_of m.bus) (chosen choice)) locks in
    subst (λ u. HasUsed u bus (Through report)) (sym same) used

-- any other access is completed whole
completes-other : (t : Litmus) (depth : ℕ) (state : State) (choice : Choice) (what : told.MemoryAccess) → ((loc : Loc) → what ≢ Lock loc)
    → completes t depth state choice (memory_access_in what) ≡ acts (effect_of t depth state choice) Free
completes-other t depth state choice Nothing other = refl
completes-other t depth state choice (Read loc) other = refl
completes-other t depth state choice (Write loc) other = refl
completes-other t depth state choice (Lock loc) other = absurd (other loc refl)

pub completes-whole : {P : Type 0} (t : Litmus) (m : Hardware P) (choice : Choice) (what : told.MemoryAccess)
    → memory_access_in what ≡ access_of t m.config.depth (state_in m).flat choice
    → ((loc : Loc) → what ≢ Lock loc) → completes_in t m choice ≡ effect_made_in Asked t m choice
completes-whole t m choice what is other =
    ap (completes t m.config.depth (state_in m).flat choice) (sym is) ∙ completes-other t m.config.depth (state_in m).flat choice what other

pub commits-whole : {P : Type 0} (t : Litmus) (m : Hardware P) (choice : Choice) (what : told.MemoryAccess)
    → memory_access_in what ≡ access_of t m.config.depth (state_in m).flat choice
    → ((loc : Loc) → what ≢ Lock loc) → (state_in m).holder ≡ HeldBy choice → HolderFits Split t m.config.depth (state_in m).flat (state_in m).holder
    → (completes_in t m choice).effect.outcome ≡ Committed
commits-whole t m choice what is other asked fits =
    ap (λ f. f.effect.outcome) (completes-whole t m choice what is other)
    ∙ (commits-at-once t m.config.depth (state_in m).flat choice (subst (HolderFits Split t m.config.depth (state_in m).flat) asked fits)).outcome

-- it frees the bus
pub held-whole : {P : Type 0} (r : Result ChoiceAnswer NoMemory) (t : Litmus) (m new : Hardware P)
    → IsHeldForAccess t m
    → new.config ≡ m.config
    → OnOk r (holder_of new.bus ≡ None)
    → OnErr r (IsUndone m new) → IsHeldForAccess t new
held-whole (Ok x) t m new held config free err =
    held-freed t new.config.depth (state_of_cores new.processors.items (words_of new.bus)) new.next (holder_of new.bus) free
held-whole (Err x) t m new held config free err =
    ap holder_of err.bus ∙ held ∙ ap (λ (c : Config). held_as t c.depth (state_in m).flat (state_in m).holder) (sym config)
    ∙ ap (λ (s : BusState). held_as t new.config.depth s.flat s.holder) (sym err.state)
