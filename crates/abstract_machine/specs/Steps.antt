-- The steps of the abstract machine, rule by rule; R, W, F, L, U and τ are the paper's names of their events.
-- (Sewell and others, "x86-TSO", Communications of the ACM, 2010, section 3, the machine's transitions.)
use Rattle.std.specs.Prelude.{ℕ, ◌≡◌, true, List, [], ◌∷◌, ◌++◌, filter, Option, Some, None, slice_get, slice_index, slice_index_or}
use Rattle.tso_terms.specs.Litmus.{Litmus}
use Rattle.tso_terms.specs.Actions.{action_of}
use Rattle.tso_terms.specs.Thread.{entry, fence, value_of, changed, updated}
use Rattle.tso_terms.specs.ProgramOrder.{writes_to}
use Rattle.basic_laws.specs.Types.{Reg, Loc, Instr, Operand, Update, Change, Action, Entry, R, W, LR, LW}
use Rattle.tso_terms.specs.declared.action.Action.TheVariants.{Store, Load, Move, Fence, Lock}
use Rattle.abstract_machine.specs.Machine.{Progress, NotLocked, HasBegun, HasRead, HasWritten, HardwareThread, Machine, IsNotBlocked}
use Rattle.abstract_machine.specs.Machine.{with_thread, with_lock, with_write, passed, taking, with_register, with_registers, with_buffer, with_progress}

-- thread p is at an instruction with this action, and is so far with it
pub record StandsAt (t : Litmus) (p : ℕ) (h : HardwareThread) (progress : Progress) (action : Action) : Type 0 where
  pub instruction : Instr
  pub is : slice_get (slice_index_or t.programs p []) h.place ≡ Some instruction
  pub does : action_of instruction ≡ action
  pub so_far : h.progress ≡ progress

-- the value that a thread can read at a location
pub data CanRead (m : Machine) (h : HardwareThread) (loc : ℕ) : ℕ → Type 0 where
  -- from memory, where its buffer has no write to the location
  from_memory : filter (writes_to loc) h.buffer ≡ [] → CanRead m h loc (slice_index m.memory loc)
  -- from its buffer, of the newest write to the location
  from_buffer : (older newer : List Entry) (w : Entry) → h.buffer ≡ older ++ (w ∷ newer) → writes_to loc w ≡ true
      → filter (writes_to loc) newer ≡ [] → CanRead m h loc w.value

-- a step of thread p, which is h, with the entries that it gives to the memory order: a read and a fence when they are made, a
-- write when it leaves the buffer
pub data ThreadStep (t : Litmus) (m : Machine) (p : ℕ) (h : HardwareThread) : List Entry → Machine → Type 0 where
  -- R: a load reads, where the thread is not blocked
  read : (reg : Reg) (loc : Loc) (v : ℕ) → StandsAt t p h NotLocked (Load reg loc) → IsNotBlocked m p → CanRead m h loc.0 v
      → ThreadStep t m p h (entry p h.place R loc v ∷ []) (with_thread m p (passed (with_register h reg v)))
  -- W: a store goes to the write buffer, at any time
  write : (loc : Loc) (operand : Operand) → StandsAt t p h NotLocked (Store loc operand)
      → ThreadStep t m p h [] (with_thread m p (passed (with_buffer h
      (h.buffer ++ (entry p h.place W loc (value_of h.registers operand) ∷ [])))))
  -- τ: the oldest write of the buffer goes to memory, silently, where the thread is not blocked
  flush : (w : Entry) (rest : List Entry) → IsNotBlocked m p → h.buffer ≡ w ∷ rest
      → ThreadStep t m p h (w ∷ []) (with_thread (with_write m w) p (with_buffer h rest))
  -- a register move, at any time
  move : (change : Change) → StandsAt t p h NotLocked (Move change)
      → ThreadStep t m p h [] (with_thread m p (passed (with_registers h (changed change h.registers))))
  -- F: a fence, where the buffer is empty
  mfence : StandsAt t p h NotLocked Fence → h.buffer ≡ []
      → ThreadStep t m p h (fence p h.place ∷ []) (with_thread m p (passed h))
  -- L: a locked instruction begins, where nobody holds the lock, whatever the buffer has; the thread holds it from then on
  lock : (loc : Loc) (reg : Option Reg) (update : Update) → StandsAt t p h NotLocked (Lock loc reg update) → m.lock ≡ None
      → ThreadStep t m p h [] (with_lock (with_thread m p (with_progress h HasBegun)) (Some p))
  -- R: it reads, as a load does
  locked_read : (loc : Loc) (reg : Option Reg) (update : Update) (v : ℕ) → StandsAt t p h HasBegun (Lock loc reg update)
      → IsNotBlocked m p → CanRead m h loc.0 v
      → ThreadStep t m p h (entry p h.place LR loc v ∷ []) (with_thread m p (with_progress h (HasRead v)))
  -- W: it writes, as a store does, and its register, if it has one, takes the value that was read
  locked_write : (loc : Loc) (reg : Option Reg) (update : Update) (v : ℕ) → StandsAt t p h (HasRead v) (Lock loc reg update)
      → ThreadStep t m p h [] (with_thread m p (with_progress (taking (with_buffer h
      (h.buffer ++ (entry p h.place LW loc (updated update h.registers v) ∷ []))) reg v) HasWritten))
  -- U: it ends, where the thread holds the lock and its buffer is empty; nobody holds the lock then
  unlock : h.progress ≡ HasWritten → m.lock ≡ Some p → h.buffer ≡ []
      → ThreadStep t m p h [] (with_lock (with_thread m p (passed h)) None)

-- steps of the threads in any order, with all that they give to the memory order
pub data Runs (t : Litmus) : Machine → List Entry → Machine → Type 0 where
  rests : (m : Machine) → Runs t m [] m
  goes_on : (m n o : Machine) (p : ℕ) (h : HardwareThread) (es fs : List Entry) → slice_get m.threads p ≡ Some h
      → ThreadStep t m p h es n → Runs t n fs o → Runs t m (es ++ fs) o
