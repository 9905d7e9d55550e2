-- The steps of the thread that holds the lock, by how far it is with its locked instruction.
use Rattle.tso_terms.specs.FlatMachine.{advanced_taking}
use Rattle.abstract_machine.proofs.Vocabulary.{◌≡◌, ◌<◌, ℕ, ◌+◌, suc, List, [], ◌∷◌, ◌++◌, length, map, Some, None, slice_get, slice_set}
use Rattle.abstract_machine.proofs.Vocabulary.{slice_index, arith, ap, sym, ◌∙◌, refl, subst, Litmus, action_of, CoreState, State, Effect}
use Rattle.abstract_machine.proofs.Vocabulary.{advanced_with, effect_by, load_value, memory_after, applied, Lock, Entry, Committed}
use Rattle.abstract_machine.proofs.Vocabulary.{NotLocked, HasBegun, HasRead, HardwareThread, Machine, with_thread, with_write, with_buffer}
use Rattle.abstract_machine.proofs.Vocabulary.{with_progress, ThreadStep, read, write, flush, move, mfence, lock, locked_read, locked_write}
use Rattle.abstract_machine.proofs.Vocabulary.{unlock, each-at, append-nil, map-set, set-set}
use Rattle.abstract_machine.proofs.Lists.{map-get, set-get, set-same, not-empty, within}
use Rattle.abstract_machine.proofs.Reading.{was-read, flush-leaves}
use Rattle.abstract_machine.proofs.States.{thread}
use Rattle.abstract_machine.proofs.Joining.{Joins, store-plain, plain-joins, waits-joins, pair-joins}
use Rattle.abstract_machine.proofs.FlatStates.{Nexts, IsSound, Base, base-step, drained, draining, oldest-store, base-drain}
use Rattle.abstract_machine.proofs.Tracks.{InLock, in_lock, load_part, store_part, writer, leaver, Tied, begun, has_read, written, left}
use Rattle.abstract_machine.proofs.Tracks.{locked_by, Tracks, unheld, held, machine-is}

-- ---- what such a step changes

-- its own entry in the list of threads
own-is : (state : State) (p : ℕ) (s : CoreState) (h k : HardwareThread) (o : Machine) → slice_get state.cores p ≡ Some s
    → state.memory ≡ o.memory → slice_set (slice_set (map thread state.cores) p h) p k ≡ o.threads → Some p ≡ o.lock
    → locked_by state p k ≡ o
own-is state p s h k o g a b c =
    machine-is o state.memory (slice_set (map thread state.cores) p k) (Some p) a (sym (set-set (map thread state.cores) p h k) ∙ b) c

-- or its core too
own-applied : (state : State) (p : ℕ) (f : Effect) (h k : HardwareThread) (o : Machine) → memory_after f.commits state.memory ≡ o.memory
    → slice_set (slice_set (map thread state.cores) p h) p k ≡ o.threads → Some p ≡ o.lock → locked_by (applied state p f) p k ≡ o
own-applied state p f h k o a b c =
    machine-is o (memory_after f.commits state.memory) (slice_set (map thread (slice_set state.cores p f.after)) p k) (Some p) a
    (ap (λ z. slice_set z p k) (map-set thread state.cores p f.after) ∙ set-set (map thread state.cores) p (thread f.after) k
    ∙ sym (set-set (map thread state.cores) p h k) ∙ b) c

-- the flush of a plain store
own-flush : Nexts → (t : Litmus) (n : ℕ) (given : List Entry) (state : State) (commits : List Entry) (p : ℕ) (s : CoreState)
    (h k : HardwareThread) (waits : List Entry) (w : Entry) (rest : List Entry) → Base t n state commits → slice_get state.cores p ≡ Some s
    → s.pending ≡ w ∷ rest → Joins given commits waits → Tied t (memory_after (w ∷ []) state.memory) p (drained s rest) k waits
    → Tracks t n (given ++ (w ∷ [])) (with_thread (with_write (locked_by state p h) w) p k)
own-flush next t n given state commits p s h k waits w rest b g is j tied =
    let plain = oldest-store t n state commits p s w rest b g is in
    subst (λ z. Tracks t n (given ++ (w ∷ [])) z)
    (own-applied state p (draining s w rest) h k (with_thread (with_write (locked_by state p h) w) p k) (rw plain.0 refl) refl refl)
    (held (applied state p (draining s w rest)) (commits ++ (w ∷ [])) p (drained s rest) k waits
    (base-drain next t n state commits p s w rest b g is)
    (set-get state.cores p (drained s rest) (within state.cores p s g)) tied
    (plain-joins given commits waits (w ∷ []) j (store-plain w plain.0, tt)))

-- which leaves what a load would get
load-kept : (t : Litmus) (n : ℕ) (state : State) (commits : List Entry) (p : ℕ) (s : CoreState) (w : Entry) (rest : List Entry) (loc : ℕ)
    → Base t n state commits → slice_get state.cores p ≡ Some s → s.pending ≡ w ∷ rest
    → load_value (memory_after (w ∷ []) state.memory) (drained s rest) loc ≡ load_value state.memory s loc
load-kept t n state commits p s w rest loc b g is =
    let plain = oldest-store t n state commits p s w rest b g is in
    let l : w.loc.0 < length state.memory = subst (λ z. w.loc.0 < z) (sym b.words) plain.1 in
    rw (plain.0, is) (flush-leaves state.memory w rest loc plain.0 l)

-- ---- it has begun

begun-step : Nexts → (t : Litmus) (n : ℕ) (given : List Entry) (state : State) (commits : List Entry) (p : ℕ) (s : CoreState)
    (es : List Entry) (o : Machine) → Base t n state commits → slice_get state.cores p ≡ Some s → InLock t p s.place
    → Joins given commits []
    → ThreadStep t (locked_by state p (with_progress (thread s) HasBegun)) p (with_progress (thread s) HasBegun) es o
    → Tracks t n (given ++ es) o
begun-step next t n given state commits p s _ _ b g k j (read reg loc v st free can) = absurd (let q = st.so_far in let z : ⊥ = cc in z)
begun-step next t n given state commits p s _ _ b g k j (write loc operand st) = absurd (let q = st.so_far in let z : ⊥ = cc in z)
begun-step next t n given state commits p s _ _ b g k j (move change st) = absurd (let q = st.so_far in let z : ⊥ = cc in z)
begun-step next t n given state commits p s _ _ b g k j (mfence st none) = absurd (let q = st.so_far in let z : ⊥ = cc in z)
begun-step next t n given state commits p s _ _ b g k j (lock loc reg update st free) = absurd (let q = st.so_far in let z : ⊥ = cc in z)
begun-step next t n given state commits p s _ _ b g k j (locked_write loc reg update v st) =
    absurd (let q = st.so_far in let z : ⊥ = cc in z)
begun-step next t n given state commits p s _ _ b g k j (unlock q l e) = absurd (let z : ⊥ = cc in z)
begun-step next t n given state commits p s _ _ b g k j (flush w rest free is) =
    own-flush next t n given state commits p s (with_progress (thread s) HasBegun) (with_progress (thread (drained s rest)) HasBegun) []
    w rest b g is j (begun k)
begun-step next t n given state commits p s _ _ b g k j (locked_read loc reg update v st free can) =
    let h : HardwareThread = with_progress (thread s) HasBegun in
    let q : v ≡ load_value state.memory s loc.0 = was-read (locked_by state p h) h loc.0 v can in
    let x : InLock t p s.place = in_lock t p s.place loc reg update st.instruction st.is st.does in
    let o : Machine = with_thread (locked_by state p h) p (with_progress (thread s) (HasRead v)) in
    subst (λ z. Tracks t n (given ++ (load_part t p s x v ∷ [])) z)
    (own-is state p s h (with_progress (thread s) (HasRead v)) o g refl refl refl)
    (held state commits p s (with_progress (thread s) (HasRead v)) (load_part t p s x v ∷ []) b g (has_read x v (sym q))
    (waits-joins given commits (load_part t p s x v) j refl))

-- ---- it has read

read-step : Nexts → (t : Litmus) (n : ℕ) (given : List Entry) (state : State) (commits : List Entry) (p : ℕ) (s : CoreState)
    (k : InLock t p s.place) (v : ℕ) (es : List Entry) (o : Machine) → Base t n state commits → slice_get state.cores p ≡ Some s
    → load_value state.memory s k.loc.0 ≡ v → Joins given commits (load_part t p s k v ∷ [])
    → ThreadStep t (locked_by state p (with_progress (thread s) (HasRead v))) p (with_progress (thread s) (HasRead v)) es o
    → Tracks t n (given ++ es) o
read-step next t n given state commits p s k v _ _ b g e j (read reg loc u st free can) = absurd (let q = st.so_far in let z : ⊥ = cc in z)
read-step next t n given state commits p s k v _ _ b g e j (write loc operand st) = absurd (let q = st.so_far in let z : ⊥ = cc in z)
read-step next t n given state commits p s k v _ _ b g e j (move change st) = absurd (let q = st.so_far in let z : ⊥ = cc in z)
read-step next t n given state commits p s k v _ _ b g e j (mfence st none) = absurd (let q = st.so_far in let z : ⊥ = cc in z)
read-step next t n given state commits p s k v _ _ b g e j (lock loc reg update st free) = absurd (let q = st.so_far in let z : ⊥ = cc in z)
read-step next t n given state commits p s k v _ _ b g e j (locked_read loc reg update u st free can) =
    absurd (let q = st.so_far in let z : ⊥ = cc in z)
read-step next t n given state commits p s k v _ _ b g e j (unlock q l a) = absurd (let z : ⊥ = cc in z)
read-step next t n given state commits p s k v _ _ b g e j (flush w rest free is) =
    own-flush next t n given state commits p s (with_progress (thread s) (HasRead v)) (with_progress (thread (drained s rest)) (HasRead v))
    (load_part t p s k v ∷ []) w rest b g is j (has_read k v (load-kept t n state commits p s w rest k.loc.0 b g is ∙ e))
read-step next t n given state commits p s k v _ _ b g e j (locked_write loc reg update u st) =
    let two : Lock loc reg update ≡ Lock k.loc k.reg k.update =
    sym st.does ∙ ap action_of (let i = st.is in let l = k.is in let z : st.instruction ≡ k.instruction = cc in z) ∙ k.does in
    let same_loc : k.loc ≡ loc = cc in
    let same_reg : k.reg ≡ reg = cc in
    let same_update : k.update ≡ update = cc in
    let same_value : v ≡ u = let q = st.so_far in let z : v ≡ u = cc in z in
    let x : InLock t p s.place = in_lock t p s.place loc reg update st.instruction st.is st.does in
    let h : HardwareThread = with_progress (thread s) (HasRead v) in
    let o : Machine = with_thread (locked_by state p h) p (writer t p s x u) in
    let f : load_value state.memory s loc.0 ≡ u = subst (λ z. load_value state.memory s z.0 ≡ u) same_loc (e ∙ same_value) in
    let parts : load_part t p s k v ≡ load_part t p s x u = rw (same_loc, same_value) refl in
    subst (λ z. Tracks t n z o) (sym (append-nil given))
    (subst (λ z. Tracks t n given z) (own-is state p s h (writer t p s x u) o g refl refl refl)
    (held state commits p s (writer t p s x u) (load_part t p s x u ∷ []) b g (written x u f)
    (subst (λ z. Joins given commits (z ∷ [])) parts j)))

-- ---- it has written

-- its write leaves the buffer, and the flat machine makes the locked instruction
own-leaves : Nexts → (t : Litmus) (n : ℕ) (given : List Entry) (state : State) (commits : List Entry) (p : ℕ) (s : CoreState)
    (k : InLock t p s.place) (v : ℕ) → Base t n state commits → slice_get state.cores p ≡ Some s → load_value state.memory s k.loc.0 ≡ v
    → Joins given commits (load_part t p s k v ∷ []) → s.pending ≡ []
    → Tracks t n (given ++ (store_part t p s k v ∷ []))
    (with_thread (with_write (locked_by state p (writer t p s k v)) (store_part t p s k v)) p (with_buffer (writer t p s k v) []))
own-leaves next t n given state commits p s k v b g e j none =
    subst (λ z. Tracks t n (given ++ (store_part t p s k v ∷ [])) z)
    (own-applied state p f (writer t p s k v) (leaver s.place after.registers)
    (with_thread (with_write (locked_by state p (writer t p s k v)) (store_part t p s k v)) p (with_buffer (writer t p s k v) []))
    refl refl refl)
    (held (applied state p f) (commits ++ f.commits) p after (leaver s.place after.registers) []
    (base-step next t n state commits p s k.instruction (Lock k.loc k.reg k.update) b g k.is k.does f made
    (sound.0, let l = sound.1 in omega arith))
    (set-get state.cores p after (within state.cores p s g)) (left s.place k none refl)
    (pair-joins given commits (load_part t p s k v) (store_part t p s k v) j (record { core = refl; place = refl; kind = refl })))
  where
    after : CoreState
    after = advanced_taking s k.reg v

    f : Effect
    f = record { outcome = Committed; after = after; commits = load_part t p s k v ∷ (store_part t p s k v ∷ []) }

    sound : IsSound t s
    sound = each-at (IsSound t) state.cores p s b.sound g

    from_memory : load_value state.memory s k.loc.0 ≡ slice_index state.memory k.loc.0
    from_memory = rw none refl

    word : slice_index state.memory k.loc.0 ≡ v
    word = sym from_memory ∙ e

    made : effect_by (suc n) state.memory p (Lock k.loc k.reg k.update) s ≡ f
    made = rw (none, word) refl

written-step : Nexts → (t : Litmus) (n : ℕ) (given : List Entry) (state : State) (commits : List Entry) (p : ℕ) (s : CoreState)
    (k : InLock t p s.place) (v : ℕ) (es : List Entry) (o : Machine) → Base t n state commits → slice_get state.cores p ≡ Some s
    → load_value state.memory s k.loc.0 ≡ v → Joins given commits (load_part t p s k v ∷ [])
    → ThreadStep t (locked_by state p (writer t p s k v)) p (writer t p s k v) es o → Tracks t n (given ++ es) o
written-step next t n given state commits p s k v _ _ b g e j (read reg loc u st free can) =
    absurd (let q = st.so_far in let z : ⊥ = cc in z)
written-step next t n given state commits p s k v _ _ b g e j (write loc operand st) = absurd (let q = st.so_far in let z : ⊥ = cc in z)
written-step next t n given state commits p s k v _ _ b g e j (move change st) = absurd (let q = st.so_far in let z : ⊥ = cc in z)
written-step next t n given state commits p s k v _ _ b g e j (mfence st none) = absurd (let q = st.so_far in let z : ⊥ = cc in z)
written-step next t n given state commits p s k v _ _ b g e j (lock loc reg update st free) =
    absurd (let q = st.so_far in let z : ⊥ = cc in z)
written-step next t n given state commits p s k v _ _ b g e j (locked_read loc reg update u st free can) =
    absurd (let q = st.so_far in let z : ⊥ = cc in z)
written-step next t n given state commits p s k v _ _ b g e j (locked_write loc reg update u st) =
    absurd (let q = st.so_far in let z : ⊥ = cc in z)
written-step next t n given state commits p s k v _ _ b g e j (unlock q l a) = absurd (not-empty s.pending (store_part t p s k v) a)
written-step next t n given state commits p s k v _ _ b g e j (flush w rest free is) = go s.pending refl is
  where
    h : HardwareThread
    h = writer t p s k v

    y : Entry
    y = store_part t p s k v

    flushed : Entry → List Entry → Machine
    flushed w rest = with_thread (with_write (locked_by state p h) w) p (with_buffer h rest)

    go : (q : List Entry) → s.pending ≡ q → q ++ (y ∷ []) ≡ w ∷ rest → Tracks t n (given ++ (w ∷ [])) (flushed w rest)
    go [] none a =
        let one : y ≡ w = cc in
        let two : [] ≡ rest = cc in
        subst (λ z. Tracks t n (given ++ (w ∷ [])) (flushed w z)) two
        (subst (λ z. Tracks t n (given ++ (z ∷ [])) (flushed z [])) one
        (own-leaves next t n given state commits p s k v b g e j none))
    go (x ∷ xs) some a =
        let one : x ≡ w = cc in
        let two : xs ++ (y ∷ []) ≡ rest = cc in
        subst (λ z. Tracks t n (given ++ (w ∷ [])) (flushed w z)) two
        (subst (λ z. Tracks t n (given ++ (z ∷ [])) (flushed z (xs ++ (y ∷ [])))) one
        (own-flush next t n given state commits p s h (writer t p (drained s xs) k v) (load_part t p s k v ∷ []) x xs b g some j
        (written k v (load-kept t n state commits p s x xs k.loc.0 b g some ∙ e))))

-- ---- its write has left the buffer

left-step : (t : Litmus) (n : ℕ) (given : List Entry) (state : State) (commits : List Entry) (p : ℕ) (s : CoreState) (place : ℕ)
    (es : List Entry) (o : Machine) → Base t n state commits → slice_get state.cores p ≡ Some s → s.pending ≡ [] → s.place ≡ place + 1
    → Joins given commits [] → ThreadStep t (locked_by state p (leaver place s.registers)) p (leaver place s.registers) es o
    → Tracks t n (given ++ es) o
left-step t n given state commits p s place _ _ b g a c j (read reg loc v st free can) = absurd (let q = st.so_far in let z : ⊥ = cc in z)
left-step t n given state commits p s place _ _ b g a c j (write loc operand st) = absurd (let q = st.so_far in let z : ⊥ = cc in z)
left-step t n given state commits p s place _ _ b g a c j (move change st) = absurd (let q = st.so_far in let z : ⊥ = cc in z)
left-step t n given state commits p s place _ _ b g a c j (mfence st none) = absurd (let q = st.so_far in let z : ⊥ = cc in z)
left-step t n given state commits p s place _ _ b g a c j (lock loc reg update st free) = absurd (let q = st.so_far in let z : ⊥ = cc in z)
left-step t n given state commits p s place _ _ b g a c j (locked_read loc reg update v st free can) =
    absurd (let q = st.so_far in let z : ⊥ = cc in z)
left-step t n given state commits p s place _ _ b g a c j (locked_write loc reg update v st) =
    absurd (let q = st.so_far in let z : ⊥ = cc in z)
left-step t n given state commits p s place _ _ b g a c j (flush w rest free is) = absurd (let z : ⊥ = cc in z)
left-step t n given state commits p s place _ _ b g a c j (unlock q l e) =
    let h : HardwareThread = leaver place s.registers in
    let r : HardwareThread = record { place = place + 1; registers = s.registers; buffer = []; progress = NotLocked } in
    let o : Machine = record { memory = state.memory; threads = slice_set (slice_set (map thread state.cores) p h) p r; lock = None } in
    let same : thread s ≡ r = rw (a, c) refl in
    let threads : map thread state.cores ≡ slice_set (slice_set (map thread state.cores) p h) p r =
    sym (set-same (map thread state.cores) p (thread s) (map-get thread state.cores p s g))
    ∙ ap (λ z. slice_set (map thread state.cores) p z) same ∙ sym (set-set (map thread state.cores) p h r) in
    subst (λ z. Tracks t n z o) (sym (append-nil given))
    (subst (λ z. Tracks t n given z) (machine-is o state.memory (map thread state.cores) None refl threads refl) (unheld state commits b j))

-- ---- however far it is

pub own-step : Nexts → (t : Litmus) (n : ℕ) (given : List Entry) (state : State) (commits : List Entry) (p : ℕ) (s : CoreState)
    (h : HardwareThread) (waits es : List Entry) (o : Machine) → Base t n state commits → slice_get state.cores p ≡ Some s
    → Tied t state.memory p s h waits → Joins given commits waits → ThreadStep t (locked_by state p h) p h es o → Tracks t n (given ++ es) o
own-step next t n given state commits p s _ _ es o b g (begun k) j st = begun-step next t n given state commits p s es o b g k j st
own-step next t n given state commits p s _ _ es o b g (has_read k v e) j st =
    read-step next t n given state commits p s k v es o b g e j st
own-step next t n given state commits p s _ _ es o b g (written k v e) j st =
    written-step next t n given state commits p s k v es o b g e j st
own-step next t n given state commits p s _ _ es o b g (left place k none at) j st =
    left-step t n given state commits p s place es o b g none at j st
