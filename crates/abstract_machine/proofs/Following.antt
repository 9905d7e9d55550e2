-- A choice of the flat machine is followed by a run of the abstract machine.
use Rattle.tso_terms.specs.Thread.{with_taken}
use Rattle.abstract_machine.proofs.Vocabulary.{◌≡◌, ◌<◌, ℕ, ◌+◌, suc, Bool, true, false, List, [], ◌∷◌, ◌++◌, length, map, Option, None}
use Rattle.abstract_machine.proofs.Vocabulary.{Some, slice_get, slice_set, slice_index, slice_index_or, arith, ap, sym, ◌∙◌, refl, inl, inr}
use Rattle.abstract_machine.proofs.Vocabulary.{subst, if◌then◌else◌, nat_lt, slice_get-get_or, Litmus, action_of, entry, fence, value_in}
use Rattle.abstract_machine.proofs.Vocabulary.{value_of, with_value, updated, is_write, CoreState, State, Effect, is_none_pending, stalled}
use Rattle.abstract_machine.proofs.Vocabulary.{effect_by, step_of, drain_of, idle, program_of, core_of, chosen, effect_of, memory_after}
use Rattle.abstract_machine.proofs.Vocabulary.{applied, after_choice, Reg, Loc, Instr, Update, Action, Store, Load, Move, Fence, Lock}
use Rattle.abstract_machine.proofs.Vocabulary.{Entry, W, LR, LW, Choice, Stall, Buffered, NotLocked, HasBegun, HasRead, HasWritten}
use Rattle.abstract_machine.proofs.Vocabulary.{HardwareThread, Machine, with_thread, with_write, with_buffer, from_memory, read, write}
use Rattle.abstract_machine.proofs.Vocabulary.{flush, move, mfence, lock, locked_read, locked_write, unlock, Runs, rests, goes_on, Each}
use Rattle.abstract_machine.proofs.Vocabulary.{each-append, each-at, map-set, set-set, length-set, length-map}
use Rattle.tso_terms.specs.declared.choice.Choice.TheVariants as choice
use Rattle.tso_terms.specs.declared.choice.Stall.TheVariants as stall
use Rattle.abstract_machine.proofs.Lists.{map-get, set-get, set-same, each-set}
use Rattle.abstract_machine.proofs.Reading.{can-read}
use Rattle.abstract_machine.proofs.States.{thread, lifted}

-- the effect of a core is a run of the abstract machine
abbrev Followed : Litmus → State → ℕ → Effect → Type 0
Followed t state p f = Runs t (lifted state) f.commits (lifted (applied state p f))

-- where it ends
abbrev target : State → ℕ → Effect → Machine
target state p f = record {
  memory = memory_after f.commits state.memory;
  threads = slice_set (map thread state.cores) p (thread f.after);
  lock = None;
}

to-target : (t : Litmus) (state : State) (p : ℕ) (f : Effect) → Runs t (lifted state) f.commits (target state p f)
    → Followed t state p f
to-target t state p f h =
    subst (λ z. Runs t (lifted state) f.commits (record { memory = memory_after f.commits state.memory; threads = z; lock = None }))
    (sym (map-set thread state.cores p f.after)) h

stays : (t : Litmus) (state : State) (p : ℕ) (s : CoreState) (why : Stall) → slice_get state.cores p ≡ Some s
    → Followed t state p (stalled why s)
stays t state p s why g =
    subst (λ z. Runs t (lifted state) [] (lifted (record { memory = state.memory; cores = z }))) (sym (set-same state.cores p s g))
    (rests (lifted state))

-- ---- a locked instruction, from its lock to its unlock

locked-runs : (t : Litmus) (p place : ℕ) (registers memory : List ℕ) (threads : List HardwareThread) (loc : Loc) (reg : Option Reg)
    (update : Update) (i : Instr)
    → slice_get threads p ≡ Some (record { place = place; registers = registers; buffer = []; progress = NotLocked })
    → p < length threads → slice_get (slice_index_or t.programs p []) place ≡ Some i → action_of i ≡ Lock loc reg update
    → Runs t (record { memory = memory; threads = threads; lock = None })
    (entry p place LR loc (slice_index memory loc.0)
    ∷ (entry p place LW loc (updated update registers (slice_index memory loc.0)) ∷ []))
    (record {
      memory = slice_set memory loc.0 (updated update registers (slice_index memory loc.0));
      threads = slice_set threads p (record {
        place = place + 1;
        registers = with_taken registers reg (slice_index memory loc.0);
        buffer = [];
        progress = NotLocked;
      });
      lock = None;
    })
locked-runs t p place registers memory threads loc reg update i g l is does =
    goes_on m0 m1 m5 p h0 [] (e ∷ (w ∷ [])) g
    (lock loc reg update (record { instruction = i; is = is; does = does; so_far = refl }) refl)
    (goes_on m1 m2 m5 p h1 (e ∷ []) (w ∷ []) (there threads h1 l)
    (locked_read loc reg update v (record { instruction = i; is = is; does = does; so_far = refl }) (inr refl) (from_memory refl))
    (goes_on m2 m3 m5 p h2 [] (w ∷ []) (there m1.threads h2 l1)
    (locked_write loc reg update v (record { instruction = i; is = is; does = does; so_far = refl }))
    (goes_on m3 m4 m5 p h3 (w ∷ []) [] (there m2.threads h3 l2) (flush w [] (inr refl) refl)
    (goes_on m4 n5 m5 p h4 [] [] (there m3.threads h4 l3) (unlock refl refl refl)
    (subst (λ z. Runs t n5 [] z) last (rests n5))))))
  where
    v : ℕ
    v = slice_index memory loc.0

    e : Entry
    e = entry p place LR loc v

    w : Entry
    w = entry p place LW loc (updated update registers v)

    h0 : HardwareThread
    h0 = record { place = place; registers = registers; buffer = []; progress = NotLocked }

    h1 : HardwareThread
    h1 = record { place = place; registers = registers; buffer = []; progress = HasBegun }

    h2 : HardwareThread
    h2 = record { place = place; registers = registers; buffer = []; progress = HasRead v }

    h3 : HardwareThread
    h3 = record { place = place; registers = with_taken registers reg v; buffer = w ∷ []; progress = HasWritten }

    h4 : HardwareThread
    h4 = record { place = place; registers = with_taken registers reg v; buffer = []; progress = HasWritten }

    h5 : HardwareThread
    h5 = record { place = place + 1; registers = with_taken registers reg v; buffer = []; progress = NotLocked }

    m0 : Machine
    m0 = record { memory = memory; threads = threads; lock = None }

    m1 : Machine
    m1 = record { memory = memory; threads = slice_set threads p h1; lock = Some p }

    m2 : Machine
    m2 = record { memory = memory; threads = slice_set m1.threads p h2; lock = Some p }

    m3 : Machine
    m3 = record { memory = memory; threads = slice_set m2.threads p h3; lock = Some p }

    m4 : Machine
    m4 = record { memory = slice_set memory loc.0 w.value; threads = slice_set m3.threads p h4; lock = Some p }

    n5 : Machine
    n5 = record { memory = m4.memory; threads = slice_set m4.threads p h5; lock = None }

    m5 : Machine
    m5 = record { memory = m4.memory; threads = slice_set threads p h5; lock = None }

    there : (ts : List HardwareThread) (h : HardwareThread) → p < length ts → slice_get (slice_set ts p h) p ≡ Some h
    there ts h l = set-get ts p h l

    l1 : p < length m1.threads
    l1 = let q = length-set threads p h1 in omega arith

    l2 : p < length m2.threads
    l2 = let q = length-set m1.threads p h2 in let r = l1 in omega arith

    l3 : p < length m3.threads
    l3 = let q = length-set m2.threads p h3 in let r = l2 in omega arith

    last : n5 ≡ m5
    last = ap (λ z. record { memory = m4.memory; threads = z; lock = None })
        (set-set m3.threads p h4 h5 ∙ set-set m2.threads p h3 h5 ∙ set-set m1.threads p h2 h5 ∙ set-set threads p h1 h5)

-- ---- one choice

by-action : (t : Litmus) (n : ℕ) (state : State) (p place : ℕ) (registers : List ℕ) (pending : List Entry) (i : Instr) (a : Action)
    → p < length state.cores → slice_get state.cores p ≡ Some (record { place = place; registers = registers; pending = pending })
    → slice_get (program_of t p) place ≡ Some i → action_of i ≡ a
    → Followed t state p (effect_by (suc n) state.memory p a (record { place = place; registers = registers; pending = pending }))
by-action t n state p place registers pending i (Store loc operand) l g is does = go (nat_lt (length pending) (suc n))
  where
    s : CoreState
    s = record { place = place; registers = registers; pending = pending }

    e : Entry
    e = entry p place W loc (value_of registers operand)

    buffered : Effect
    buffered = record {
      outcome = Buffered;
      after = record { place = place + 1; registers = registers; pending = pending ++ (e ∷ []) };
      commits = [];
    }

    go : (b : Bool) → Followed t state p (if b then buffered else stalled stall.Full s)
    go true = to-target t state p buffered
        (goes_on (lifted state) _ _ p (thread s) [] [] (map-get thread state.cores p s g)
        (write loc operand (record { instruction = i; is = is; does = does; so_far = refl })) (rests _))
    go false = stays t state p s stall.Full g
by-action t n state p place registers pending i (Load reg loc) l g is does =
    let s : CoreState = record { place = place; registers = registers; pending = pending } in
    to-target t state p (effect_by (suc n) state.memory p (Load reg loc) s)
    (goes_on (lifted state) _ _ p (thread s) (_ ∷ []) [] (map-get thread state.cores p s g)
    (read reg loc _ (record { instruction = i; is = is; does = does; so_far = refl }) (inl refl)
    (can-read (lifted state) (thread s) loc.0)) (rests _))
by-action t n state p place registers pending i (Move change) l g is does =
    let s : CoreState = record { place = place; registers = registers; pending = pending } in
    to-target t state p (effect_by (suc n) state.memory p (Move change) s)
    (goes_on (lifted state) _ _ p (thread s) [] [] (map-get thread state.cores p s g)
    (move change (record { instruction = i; is = is; does = does; so_far = refl })) (rests _))
by-action t n state p place registers [] i Fence l g is does =
    let s : CoreState = record { place = place; registers = registers; pending = [] } in
    to-target t state p (effect_by (suc n) state.memory p Fence s)
    (goes_on (lifted state) _ _ p (thread s) (fence p place ∷ []) [] (map-get thread state.cores p s g)
    (mfence (record { instruction = i; is = is; does = does; so_far = refl }) refl) (rests _))
by-action t n state p place registers (x ∷ pending) i Fence l g is does =
    stays t state p (record { place = place; registers = registers; pending = x ∷ pending }) stall.Fence g
by-action t n state p place registers [] i (Lock loc reg update) l g is does =
    let s : CoreState = record { place = place; registers = registers; pending = [] } in
    to-target t state p (effect_by (suc n) state.memory p (Lock loc reg update) s)
    (locked-runs t p place registers state.memory (map thread state.cores) loc reg update i (map-get thread state.cores p s g)
    (let q = length-map state.cores thread in omega arith) is does)
by-action t n state p place registers (x ∷ pending) i (Lock loc reg update) l g is does =
    stays t state p (record { place = place; registers = registers; pending = x ∷ pending }) stall.Lock g

by-step : (t : Litmus) (n : ℕ) (state : State) (p : ℕ) (s : CoreState) → p < length state.cores → slice_get state.cores p ≡ Some s
    → Followed t state p (step_of (suc n) state.memory p (slice_get (program_of t p) s.place) s)
by-step t n state p s l g = go (slice_get (program_of t p) s.place) refl
  where
    go : (i : Option Instr) → slice_get (program_of t p) s.place ≡ i → Followed t state p (step_of (suc n) state.memory p i s)
    go None q = stays t state p s stall.Done g
    go (Some i) q = by-action t n state p s.place s.registers s.pending i (action_of i) l g q refl

by-drain : (t : Litmus) (state : State) (p place : ℕ) (registers : List ℕ) (pending : List Entry)
    → slice_get state.cores p ≡ Some (record { place = place; registers = registers; pending = pending })
    → Each (λ e. is_write e ≡ true) pending
    → Followed t state p (drain_of (record { place = place; registers = registers; pending = pending }))
by-drain t state p place registers [] g w =
    stays t state p (record { place = place; registers = registers; pending = [] }) stall.Empty g
by-drain t state p place registers (x ∷ rest) g w =
    let s : CoreState = record { place = place; registers = registers; pending = x ∷ rest } in
    let threads : List HardwareThread = slice_set (map thread state.cores) p (thread (drain_of s).after) in
    to-target t state p (drain_of s)
    (goes_on (lifted state) _ _ p (thread s) (x ∷ []) [] (map-get thread state.cores p s g) (flush x rest (inl refl) refl)
    (subst (λ z. Runs t (with_thread (with_write (lifted state) x) p (with_buffer (thread s) rest)) []
    (record { memory = if z then slice_set state.memory x.loc.0 x.value else state.memory; threads = threads; lock = None }))
    (sym w.0) (rests _)))

-- ---- what is pending are writes

abbrev pub AreWrites : List Entry → Type 0
AreWrites q = Each (λ e. is_write e ≡ true) q

abbrev pub OnlyWrites : State → Type 0
OnlyWrites state = Each (λ s. AreWrites s.pending) state.cores

writes-waiting : (b : Bool) (why : Stall) (s : CoreState) (f : Effect) → AreWrites s.pending → AreWrites f.after.pending
    → AreWrites (if b then f else stalled why s).after.pending
writes-waiting true why s f h k = k
writes-waiting false why s f h k = h

writes-by : (n : ℕ) (memory : List ℕ) (p : ℕ) (a : Action) (s : CoreState) → AreWrites s.pending
    → AreWrites (effect_by (suc n) memory p a s).after.pending
writes-by n memory p (Store loc operand) s h =
    let e : Entry = entry p s.place W loc (value_of s.registers operand) in
    writes-waiting (nat_lt (length s.pending) (suc n)) stall.Full s _ h
    (each-append (λ e. is_write e ≡ true) s.pending (e ∷ []) h (refl, tt))
writes-by n memory p (Load reg loc) s h = h
writes-by n memory p (Move change) s h = h
writes-by n memory p Fence s h = writes-waiting (is_none_pending s.pending) stall.Fence s _ h h
writes-by n memory p (Lock loc reg update) s h = writes-waiting (is_none_pending s.pending) stall.Lock s _ h h

writes-step : (n : ℕ) (memory : List ℕ) (p : ℕ) (i : Option Instr) (s : CoreState) → AreWrites s.pending
    → AreWrites (step_of (suc n) memory p i s).after.pending
writes-step n memory p None s h = h
writes-step n memory p (Some i) s h = writes-by n memory p (action_of i) s h

writes-drain : (place : ℕ) (registers : List ℕ) (pending : List Entry) → AreWrites pending
    → AreWrites (drain_of (record { place = place; registers = registers; pending = pending })).after.pending
writes-drain place registers [] h = h
writes-drain place registers (x ∷ rest) h = h.1

-- ---- choices

pub by-choice : (t : Litmus) (n : ℕ) (state : State) (c : Choice) → chosen c < length state.cores → OnlyWrites state
    → Followed t state (chosen c) (effect_of t (suc n) state c)
by-choice t n state (choice.Step core) l w =
    by-step t n state core.0 (core_of state core.0) l (slice_get-get_or state.cores core.0 idle l)
by-choice t n state (choice.Drain core) l w =
    let g = slice_get-get_or state.cores core.0 idle l in
    let s : CoreState = core_of state core.0 in
    by-drain t state core.0 s.place s.registers s.pending g (each-at (λ s. AreWrites s.pending) state.cores core.0 s w g)

pub writes-choice : (t : Litmus) (n : ℕ) (state : State) (c : Choice) → chosen c < length state.cores → OnlyWrites state
    → OnlyWrites (after_choice t (suc n) state c)
writes-choice t n state (choice.Step core) l w =
    let s : CoreState = core_of state core.0 in
    let h = each-at (λ s. AreWrites s.pending) state.cores core.0 s w (slice_get-get_or state.cores core.0 idle l) in
    each-set (λ s. AreWrites s.pending) state.cores core.0 _ w
    (writes-step n state.memory core.0 (slice_get (program_of t core.0) s.place) s h)
writes-choice t n state (choice.Drain core) l w =
    let s : CoreState = core_of state core.0 in
    let h = each-at (λ s. AreWrites s.pending) state.cores core.0 s w (slice_get-get_or state.cores core.0 idle l) in
    each-set (λ s. AreWrites s.pending) state.cores core.0 _ w (writes-drain s.place s.registers s.pending h)
