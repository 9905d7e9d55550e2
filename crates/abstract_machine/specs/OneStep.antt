-- What one step can do in any machine, whether a run leads to it or not: the lock keeps other threads out.
-- (Sewell and others, "x86-TSO", Communications of the ACM, 2010, section 3, the machine's transitions: R and τ have "the thread
-- is not blocked" as their condition, L "the lock is not held", and U "the thread holds the lock, and its buffer is empty".)
use Rattle.std.specs.Prelude.{ℕ, ◌≡◌, ◌≢◌, ◌⊎◌, List, [], ◌∷◌, ◌++◌, Option, Some, None, slice_get}
use Rattle.tso_terms.specs.Litmus.{Litmus}
use Rattle.tso_terms.specs.Thread.{fence}
use Rattle.basic_laws.specs.Types.{Reg, Loc, Operand, Update, Change, Entry}
use Rattle.tso_terms.specs.declared.action.Action.TheVariants.{Store, Move, Lock}
use Rattle.abstract_machine.specs.Machine.{NotLocked, HasRead, HasWritten, HardwareThread, Machine}
use Rattle.abstract_machine.specs.Steps.{StandsAt, ThreadStep}

-- a thread is blocked where another one holds the lock
abbrev pub IsBlocked : Machine → ℕ → Type 0
IsBlocked m p = (q : ℕ) × (m.lock ≡ Some q) × (q ≢ p)

-- this buffer has all that the other one has, and perhaps newer writes after it
abbrev pub KeepsBuffer : List Entry → List Entry → Type 0
KeepsBuffer old new = (newer : List Entry) × (new ≡ old ++ newer)

-- a step of thread p, which was h, reads nothing and flushes nothing: it gives nothing, or a fence alone; memory is as it was,
-- and what the thread's buffer had is still there; and the lock is held as it was
pub record ReadsAndFlushesNothing (m : Machine) (p : ℕ) (h : HardwareThread) (es : List Entry) (o : Machine) : Type 0 where
  pub given : (es ≡ []) ⊎ (es ≡ fence p h.place ∷ [])
  pub memory : o.memory ≡ m.memory
  pub buffer : (after : HardwareThread) → slice_get o.threads p ≡ Some after → KeepsBuffer h.buffer after.buffer
  pub lock : o.lock ≡ m.lock

-- R and τ: a thread that is blocked reads nothing, from memory or from its own buffer, and flushes nothing
abbrev pub BlockedThreadsReadAndFlushNothing : Type 0
BlockedThreadsReadAndFlushNothing =
    (t : Litmus) (m : Machine) (p : ℕ) (h : HardwareThread) (es : List Entry) (o : Machine)
    → IsBlocked m p → ThreadStep t m p h es o → ReadsAndFlushesNothing m p h es o

-- thread p, which was h, held the lock with its buffer empty, and nobody holds it any more
pub record Unlocks (m : Machine) (p : ℕ) (h : HardwareThread) (o : Machine) : Type 0 where
  pub holder : m.lock ≡ Some p
  pub drained : h.buffer ≡ []
  pub free : o.lock ≡ None

-- L and U: the lock that a thread holds stays with it, unless this very thread frees it; a lock that nobody holds stays free, or
-- the thread that makes the step takes it; and a locked instruction that has written ends with the unlocking alone
pub record OnlyTheHolderUnlocks : Type 0 where
  pub held : (t : Litmus) (m : Machine) (p : ℕ) (h : HardwareThread) (es : List Entry) (o : Machine) (q : ℕ)
      → ThreadStep t m p h es o → m.lock ≡ Some q → (o.lock ≡ Some q) ⊎ Unlocks m p h o
  pub free : (t : Litmus) (m : Machine) (p : ℕ) (h : HardwareThread) (es : List Entry) (o : Machine)
      → ThreadStep t m p h es o → m.lock ≡ None → (o.lock ≡ None) ⊎ (o.lock ≡ Some p)
  pub ends : (t : Litmus) (m : Machine) (p : ℕ) (h : HardwareThread) (es : List Entry) (o : Machine) (after : HardwareThread)
      → ThreadStep t m p h es o → h.progress ≡ HasWritten → slice_get o.threads p ≡ Some after → after.progress ≡ NotLocked
      → Unlocks m p h o

-- ---- what the rules leave free

-- thread p, which is h, can make a step that gives nothing to the memory order and leaves memory and the lock as they were
abbrev pub CanGoOn : Litmus → Machine → ℕ → HardwareThread → Type 0
CanGoOn t m p h = (o : Machine) × ThreadStep t m p h [] o × (o.memory ≡ m.memory) × (o.lock ≡ m.lock)

-- W: a store, and the write of a locked instruction, go to the write buffer at any time, blocked or not, whatever the buffer has;
-- and a register is moved at any time
pub record StoresAndMovesAreMadeAtAnyTime : Type 0 where
  pub store : (t : Litmus) (m : Machine) (p : ℕ) (h : HardwareThread) (loc : Loc) (operand : Operand)
      → StandsAt t p h NotLocked (Store loc operand) → CanGoOn t m p h
  pub locked_write : (t : Litmus) (m : Machine) (p : ℕ) (h : HardwareThread) (loc : Loc) (reg : Option Reg) (update : Update) (v : ℕ)
      → StandsAt t p h (HasRead v) (Lock loc reg update) → CanGoOn t m p h
  pub move : (t : Litmus) (m : Machine) (p : ℕ) (h : HardwareThread) (change : Change)
      → StandsAt t p h NotLocked (Move change) → CanGoOn t m p h

-- L: a locked instruction begins where nobody holds the lock, whatever the buffer has; memory stays as it was, and the thread holds
-- the lock
abbrev pub LockedInstructionsBeginWhateverTheBufferHas : Type 0
LockedInstructionsBeginWhateverTheBufferHas =
    (t : Litmus) (m : Machine) (p : ℕ) (h : HardwareThread) (loc : Loc) (reg : Option Reg) (update : Update)
    → StandsAt t p h NotLocked (Lock loc reg update) → m.lock ≡ None
    → (o : Machine) × ThreadStep t m p h [] o × (o.memory ≡ m.memory) × (o.lock ≡ Some p)
