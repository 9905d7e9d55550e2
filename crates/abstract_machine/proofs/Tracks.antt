-- How far a run of the flat machine has come where the abstract machine stands: a locked instruction is made when its write
-- leaves the buffer.
use Rattle.tso_terms.specs.Thread.{with_taken}
use Rattle.abstract_machine.proofs.Vocabulary.{◌≡◌, ◌≢◌, ℕ, ◌+◌, List, [], ◌∷◌, ◌++◌, map, Option, Some, None, slice_get, slice_set, ap}
use Rattle.abstract_machine.proofs.Vocabulary.{sym, ◌∙◌, refl, inl, inr, subst, Litmus, action_of, entry, value_in, with_value, updated}
use Rattle.abstract_machine.proofs.Vocabulary.{CoreState, State, load_value, program_of, memory_after, applied, Reg, Loc, Instr, Update}
use Rattle.abstract_machine.proofs.Vocabulary.{Lock, Entry, LR, LW, HasBegun, HasRead, HasWritten, HardwareThread, Machine, IsNotBlocked}
use Rattle.abstract_machine.proofs.Vocabulary.{with_progress, ThreadStep, read, write, flush, move, mfence, lock, locked_read, locked_write}
use Rattle.abstract_machine.proofs.Vocabulary.{unlock, append-nil, map-set, set_comm}
use Rattle.abstract_machine.proofs.Lists.{get-map, get-other}
use Rattle.abstract_machine.proofs.States.{thread, lifted}
use Rattle.abstract_machine.proofs.Joining.{Joins, plain-joins}
use Rattle.abstract_machine.proofs.FlatStates.{Nexts, HasRoom, IsKnown, Base}
use Rattle.abstract_machine.proofs.Unlocked.{Does, acts, locks, thread-does}

-- ---- the thread that holds the lock

-- the locked instruction at a place of its program
pub record InLock (t : Litmus) (p place : ℕ) : Type 0 where
  pub loc : Loc
  pub reg : Option Reg
  pub update : Update
  pub instruction : Instr
  pub is : slice_get (program_of t p) place ≡ Some instruction
  pub does : action_of instruction ≡ Lock loc reg update

abbrev pub in_lock : (t : Litmus) (p place : ℕ) (loc : Loc) (reg : Option Reg) (update : Update) (i : Instr)
    → slice_get (program_of t p) place ≡ Some i → action_of i ≡ Lock loc reg update → InLock t p place
in_lock t p place loc reg update i is does = record { loc = loc; reg = reg; update = update; instruction = i; is = is; does = does }

-- its parts, where it reads this value
abbrev pub load_part : (t : Litmus) (p : ℕ) (s : CoreState) → InLock t p s.place → ℕ → Entry
load_part t p s k v = entry p s.place LR k.loc v

abbrev pub store_part : (t : Litmus) (p : ℕ) (s : CoreState) → InLock t p s.place → ℕ → Entry
store_part t p s k v = entry p s.place LW k.loc (updated k.update s.registers v)

-- the thread when it has written, and when its write has left the buffer
abbrev pub writer : (t : Litmus) (p : ℕ) (s : CoreState) → InLock t p s.place → ℕ → HardwareThread
writer t p s k v = record {
  place = s.place;
  registers = with_taken s.registers k.reg v;
  buffer = s.pending ++ (store_part t p s k v ∷ []);
  progress = HasWritten;
}

abbrev pub leaver : ℕ → List ℕ → HardwareThread
leaver place registers = record { place = place; registers = registers; buffer = []; progress = HasWritten }

-- how it stands against its core, and the load part that waits
pub data Tied (t : Litmus) (memory : List ℕ) (p : ℕ) (s : CoreState) : HardwareThread → List Entry → Type 0 where
  begun : InLock t p s.place → Tied t memory p s (with_progress (thread s) HasBegun) []
  has_read : (k : InLock t p s.place) (v : ℕ) → load_value memory s k.loc.0 ≡ v
      → Tied t memory p s (with_progress (thread s) (HasRead v)) (load_part t p s k v ∷ [])
  written : (k : InLock t p s.place) (v : ℕ) → load_value memory s k.loc.0 ≡ v
      → Tied t memory p s (writer t p s k v) (load_part t p s k v ∷ [])
  left : (place : ℕ) → InLock t p place → s.pending ≡ [] → s.place ≡ place + 1 → Tied t memory p s (leaver place s.registers) []

-- memory and threads as in a state of the flat machine, but for thread p, which holds the lock
abbrev pub locked_by : State → ℕ → HardwareThread → Machine
locked_by state p h = record { memory = state.memory; threads = slice_set (map thread state.cores) p h; lock = Some p }

-- the machine is a state of the flat machine, or one but for the thread that holds the lock; and what it has given, put
-- together, is what the flat machine has committed, but for a load part that waits
pub data Tracks (t : Litmus) (n : ℕ) (given : List Entry) : Machine → Type 0 where
  unheld : (state : State) (commits : List Entry) → Base t n state commits → Joins given commits [] → Tracks t n given (lifted state)
  held : (state : State) (commits : List Entry) (p : ℕ) (s : CoreState) (h : HardwareThread) (waits : List Entry) → Base t n state commits
      → slice_get state.cores p ≡ Some s → Tied t state.memory p s h waits → Joins given commits waits
      → Tracks t n given (locked_by state p h)

pub machine-is : (o : Machine) (memory : List ℕ) (threads : List HardwareThread) (l : Option ℕ) → memory ≡ o.memory → threads ≡ o.threads
    → l ≡ o.lock → record { memory = memory; threads = threads; lock = l } ≡ o
machine-is o memory threads l a b c = rw (a, b, c) refl

-- ---- a step where nobody holds the lock

pub open-step : Nexts → (t : Litmus) (n : ℕ) → HasRoom t n → IsKnown t → (given : List Entry) (state : State) (commits : List Entry) (q : ℕ)
    (h : HardwareThread) (es : List Entry) (o : Machine) → Base t n state commits → Joins given commits []
    → slice_get (map thread state.cores) q ≡ Some h → ThreadStep t (lifted state) q h es o → Tracks t n (given ++ es) o
open-step next t n room known given state commits q h es o b j get st =
    let x = get-map thread state.cores q h get in
    go x.0 x.1 (thread-does next t n room known state commits q x.0 (lifted state) es o b x.1 refl
    (subst (λ z. ThreadStep t (lifted state) q z es o) (sym x.2) st))
  where
    go : (s : CoreState) → slice_get state.cores q ≡ Some s → Does t n state commits q s (lifted state) es o → Tracks t n (given ++ es) o
    go s g (acts f c plain mem thr lck) =
        subst (λ z. Tracks t n (given ++ es) z)
        (machine-is o (memory_after f.commits state.memory) (map thread (slice_set state.cores q f.after)) None mem
        (map-set thread state.cores q f.after ∙ sym thr) (sym lck))
        (unheld (applied state q f) (commits ++ es) c (plain-joins given commits [] es j plain))
    go s g (locks loc reg update stands free none is) =
        subst (λ z. Tracks t n (given ++ es) z) (sym is)
        (held state commits q s (with_progress (thread s) HasBegun) [] b g
        (begun (in_lock t q s.place loc reg update stands.instruction stands.is stands.does))
        (subst (λ z. Joins (given ++ z) commits []) (sym none) (subst (λ z. Joins z commits []) (sym (append-nil given)) j)))

-- ---- a step of another thread than the one that holds the lock

-- a blocked thread leaves memory
blocked-keeps : (t : Litmus) (m : Machine) (q : ℕ) (h : HardwareThread) (es : List Entry) (o : Machine) → (IsNotBlocked m q → ⊥)
    → ThreadStep t m q h es o → o.memory ≡ m.memory
blocked-keeps t m q h _ _ n (read reg loc v st free can) = refl
blocked-keeps t m q h _ _ n (write loc operand st) = refl
blocked-keeps t m q h _ _ n (flush w rest free is) = absurd (n free)
blocked-keeps t m q h _ _ n (move change st) = refl
blocked-keeps t m q h _ _ n (mfence st none) = refl
blocked-keeps t m q h _ _ n (lock loc reg update st free) = refl
blocked-keeps t m q h _ _ n (locked_read loc reg update v st free can) = refl
blocked-keeps t m q h _ _ n (locked_write loc reg update v st) = refl
blocked-keeps t m q h _ _ n (unlock a b c) = refl

pub other-step : Nexts → (t : Litmus) (n : ℕ) → HasRoom t n → IsKnown t → (given : List Entry) (state : State) (commits : List Entry)
    (p : ℕ) (s : CoreState) (h : HardwareThread) (waits : List Entry) (q : ℕ) (k : HardwareThread) (es : List Entry) (o : Machine) → p ≢ q
    → Base t n state commits → slice_get state.cores p ≡ Some s → Tied t state.memory p s h waits → Joins given commits waits
    → slice_get (slice_set (map thread state.cores) p h) q ≡ Some k → ThreadStep t (locked_by state p h) q k es o → Tracks t n (given ++ es) o
other-step next t n room known given state commits p s h waits q k es o apart b at_p tied j get st =
    let x = get-map thread state.cores q k (sym (get-other (map thread state.cores) p q h apart) ∙ get) in
    go x.0 x.1 (thread-does next t n room known state commits q x.0 (locked_by state p h) es o b x.1 refl
    (subst (λ z. ThreadStep t (locked_by state p h) q z es o) (sym x.2) st))
  where
    keeps : o.memory ≡ state.memory
    keeps = blocked-keeps t (locked_by state p h) q k es o (λ b. elim b [ inl e ↦ let z : ⊥ = cc in z | inr e ↦ apart (let z : p ≡ q = cc in z) ]) st

    go : (r : CoreState) → slice_get state.cores q ≡ Some r → Does t n state commits q r (locked_by state p h) es o
        → Tracks t n (given ++ es) o
    go r g (acts f c plain mem thr lck) =
        subst (λ z. Tracks t n (given ++ es) z)
        (machine-is o (memory_after f.commits state.memory) (slice_set (map thread (slice_set state.cores q f.after)) p h) (Some p) mem
        (ap (λ z. slice_set z p h) (map-set thread state.cores q f.after)
        ∙ sym (set_comm (map thread state.cores) p q h (thread f.after) apart) ∙ sym thr) (sym lck))
        (held (applied state q f) (commits ++ es) p s h waits c (get-other state.cores q p f.after (λ e. apart (sym e)) ∙ at_p)
        (subst (λ z. Tied t z p s h waits) (sym keeps ∙ sym mem) tied) (plain-joins given commits waits es j plain))
    go r g (locks loc reg update stands free none is) = absurd (let z : ⊥ = cc in z)
