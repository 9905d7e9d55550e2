-- What a choice has to do with the caches, from what its core did.
use Rattle.multiprocessor.proofs.Vocabulary.{◌≡◌, ◌||◌, ◌==◌, ℕ, Bool, true, false, if◌then◌else◌, List, [], ◌∷◌, map, filter, Option, None}
use Rattle.multiprocessor.proofs.Vocabulary.{Some, is_some, slice_get, refl, sym, ap, ◌∙◌, subst, option_map, last_or, list_any, writes_to}
use Rattle.multiprocessor.proofs.Vocabulary.{CoreState, Reg, Loc, Update, Entry, Pending, newest_for, AccessReport, BusModel, words_of}
use Rattle.multiprocessor.proofs.Vocabulary.{IsSameMachine, LoadsAt, WritesAt, Processor, CacheUse, Unused, Forwarded, Through, store_of}
use Rattle.multiprocessor.proofs.Vocabulary.{core_state, pending_in, effect_of_lock, effect_of_drain, Caches, caches_of, not_through}
use Rattle.multiprocessor.proofs.Vocabulary.{load_after, use_of, HasUsed, drain_with, fenced_with, locked_with, whole_by}

or_true : (b : Bool) → true ≡ (b || true)
or_true true = refl
or_true false = refl

-- a store to the location is found in the buffer where one is pending
found-stores : (core loc : ℕ) (o : Option Pending) (items : List Pending)
    → is_some (option_map (λ p. p.value) (last_or o (filter (λ p. p.loc.0 == loc) items))) ≡ (is_some o || list_any (writes_to loc) (map (store_of core) items))
found-stores core loc None [] = refl
found-stores core loc (Some p) [] = refl
found-stores core loc o (p ∷ ps) =
    elim (p.loc.0 == loc) as (λ b.
    is_some (option_map (λ p. p.value) (last_or o (if b then p ∷ filter (λ p. p.loc.0 == loc) ps else filter (λ p. p.loc.0 == loc) ps)))
    ≡ (is_some o || (b || list_any (writes_to loc) (map (store_of core) ps))))
    [ true ↦ found-stores core loc (Some p) ps ∙ or_true (is_some o) | false ↦ found-stores core loc o ps ]

pub answered : (core loc value : ℕ) (items : List Pending) → Some value ≡ newest_for loc items → list_any (writes_to loc) (map (store_of core) items) ≡ true
answered core loc value items h = sym (found-stores core loc None items) ∙ ap is_some (sym h)

pub unanswered : (core loc : ℕ) (items : List Pending) → None ≡ newest_for loc items → list_any (writes_to loc) (map (store_of core) items) ≡ false
unanswered core loc items h = sym (found-stores core loc None items) ∙ ap is_some (sym h)

pub forwards : (b : BusModel) (pending : List Entry) (core loc : ℕ)
    → list_any (writes_to loc) pending ≡ true
    → HasUsed (load_after (caches_of b) pending core loc) b Forwarded
forwards b pending core loc h = rw h (record { how_is = refl; caches = refl })

pub loads : (old new : BusModel) (pending : List Entry) (core loc word : ℕ) (report : AccessReport) → list_any (writes_to loc) pending ≡ false
    → LoadsAt old new core loc word report → IsSameMachine old new → HasUsed (load_after (caches_of old) pending core loc) new (Through report)
loads old new pending core loc word report h done machine =
    rw h (record { how_is = ap Through done.report_is; caches = rw (machine.rows, machine.shape, done.contents, done.held.awaited_is) refl })

pub writes : (old new : BusModel) (core loc word : ℕ) (report : AccessReport) → WritesAt old new core loc word report → IsSameMachine old new
    → HasUsed (whole_by (caches_of old) core loc true) new (Through report)
writes old new core loc word report done machine =
    record { how_is = ap Through done.report_is; caches = rw (machine.rows, machine.shape, done.contents, done.held.awaited_is) refl }

-- where nothing is committed the caches are not used
pub rests : (b : BusModel) (pending commits : List Entry) → commits ≡ [] → HasUsed (use_of (caches_of b) pending commits) b Unused
rests b pending commits h = rw h (record { how_is = refl; caches = refl })

fenced-uses : (c : Caches) (pending : List Entry) (core : ℕ) (s : CoreState) (waiting : List Entry)
    → use_of c pending (fenced_with core s waiting).commits ≡ not_through Unused c
fenced-uses c pending core s [] = refl
fenced-uses c pending core s (p ∷ ps) = refl

pub fences : (b : BusModel) (pending : List Entry) (core : ℕ) (s : CoreState) (waiting : List Entry)
    → HasUsed (use_of (caches_of b) pending (fenced_with core s waiting).commits) b Unused
fences b pending core s waiting =
    subst (λ u. HasUsed u b Unused) (sym (fenced-uses (caches_of b) pending core s waiting)) (record { how_is = refl; caches = refl })

locked-uses : (c : Caches) (pending : List Entry) (core : ℕ) (s : CoreState) (loc : Loc) (reg : Option Reg) (word value : ℕ) (items : List Pending) → items ≡ []
    → use_of c pending (locked_with core s loc reg word value (map (store_of core) items)).commits ≡ whole_by c core loc.0 true
locked-uses c pending core s loc reg word value [] h = refl
locked-uses c pending core s loc reg word value (p ∷ ps) h = absurd (let z : ⊥ = cc in z)

pub locks : (core : ℕ) (p : Processor) (old new : BusModel) (loc : Loc) (reg : Option Reg) (update : Update) (word : ℕ)
    (report : AccessReport)
    → p.stores.items ≡ []
    → WritesAt old new core loc.0 word report → IsSameMachine old new
    → HasUsed (use_of (caches_of old) (pending_in core p) (effect_of_lock loc reg update core p (words_of old)).commits) new (Through report)
locks core p old new loc reg update word report h done machine =
    subst (λ u. HasUsed u new (Through report)) (sym (locked-uses (caches_of old) (pending_in core p) core (core_state core p) loc reg _ _ p.stores.items h))
    (writes old new core loc.0 word report done machine)

drained-uses : (c : Caches) (pending : List Entry) (core : ℕ) (s : CoreState) (items : List Pending) (store : Pending) → Some store ≡ slice_get items 0
    → use_of c pending (drain_with s (map (store_of core) items)).commits ≡ whole_by c core store.loc.0 true
drained-uses c pending core s [] store h = absurd (let z : ⊥ = cc in z)
drained-uses c pending core s (p ∷ ps) store h = let e : store ≡ p = cc in ap (λ q. whole_by c core q.loc.0 true) (sym e)

pub drains : (core : ℕ) (p : Processor) (old new : BusModel) (store : Pending) (how : CacheUse) → Some store ≡ slice_get p.stores.items 0
    → HasUsed (whole_by (caches_of old) core store.loc.0 true) new how
    → HasUsed (use_of (caches_of old) (pending_in core p) (effect_of_drain core p (words_of old)).commits) new how
drains core p old new store how h used =
    subst (λ u. HasUsed u new how) (sym (drained-uses (caches_of old) (pending_in core p) core (core_state core p) p.stores.items store h)) used
