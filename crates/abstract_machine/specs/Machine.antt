-- The state of the abstract machine of x86-TSO: one memory, a write buffer for each hardware thread, and a global lock.
-- (Sewell, Sarkar, Owens, Zappa Nardelli, Myreen, "x86-TSO", Communications of the ACM, 2010, section 3.)
use Rattle.std.specs.Prelude.{ℕ, ◌+◌, ◌≡◌, ◌⊎◌, List, [], ◌∷◌, Option, Some, None, slice_index_or, slice_set}
use Rattle.tso_terms.specs.Litmus.{Litmus}
use Rattle.tso_terms.specs.Thread.{with_value, with_taken}
use Rattle.basic_laws.specs.Types.{Reg, Instr, Entry}

-- how far a thread is with a locked instruction: it isn't in one; it has begun one; it has read this value; it has written
pub data Progress : Type 0 where
  NotLocked : Progress
  HasBegun : Progress
  HasRead : ℕ → Progress
  HasWritten : Progress

-- a hardware thread: the place in its program, its registers, its write buffer (oldest first; it has no bound), and how far
-- it is with a locked instruction
pub record HardwareThread : Type 0 where
  pub place : ℕ
  pub registers : List ℕ
  pub buffer : List Entry
  pub progress : Progress

-- memory, the hardware threads, and the one that holds the lock, if one does
pub record Machine : Type 0 where
  pub memory : List ℕ
  pub threads : List HardwareThread
  pub lock : Option ℕ

-- a thread is not blocked where nobody holds the lock, or it does itself
abbrev pub IsNotBlocked : Machine → ℕ → Type 0
IsNotBlocked m p = (m.lock ≡ None) ⊎ (m.lock ≡ Some p)

-- ---- what steps change

-- this thread in its place
abbrev pub with_thread : Machine → ℕ → HardwareThread → Machine
with_thread m p h = record { memory = m.memory; threads = slice_set m.threads p h; lock = m.lock }

abbrev pub with_lock : Machine → Option ℕ → Machine
with_lock m lock = record { memory = m.memory; threads = m.threads; lock = lock }

-- the value of this write in memory, at its location
abbrev pub with_write : Machine → Entry → Machine
with_write m w = record { memory = slice_set m.memory w.loc.0 w.value; threads = m.threads; lock = m.lock }

-- at the next instruction
abbrev pub passed : HardwareThread → HardwareThread
passed h = record { place = h.place + 1; registers = h.registers; buffer = h.buffer; progress = NotLocked }

-- this value in the register
-- the thread with this word in the register, if there is one
abbrev pub taking : HardwareThread → Option Reg → ℕ → HardwareThread
taking h target word =
    record { place = h.place; registers = with_taken h.registers target word; buffer = h.buffer; progress = h.progress }

abbrev pub with_register : HardwareThread → Reg → ℕ → HardwareThread
with_register h reg value =
    record { place = h.place; registers = with_value h.registers reg value; buffer = h.buffer; progress = h.progress }

abbrev pub with_registers : HardwareThread → List ℕ → HardwareThread
with_registers h registers = record { place = h.place; registers = registers; buffer = h.buffer; progress = h.progress }

abbrev pub with_buffer : HardwareThread → List Entry → HardwareThread
with_buffer h buffer = record { place = h.place; registers = h.registers; buffer = buffer; progress = h.progress }

abbrev pub with_progress : HardwareThread → Progress → HardwareThread
with_progress h progress = record { place = h.place; registers = h.registers; buffer = h.buffer; progress = progress }

-- ---- the first state

-- a thread for each program, from this number on
abbrev pub first_threads : ℕ → List (List Instr) → List (List ℕ) → List HardwareThread
first_threads p [] registers = []
first_threads p (program ∷ programs) registers =
    record { place = 0; registers = slice_index_or registers p []; buffer = []; progress = NotLocked }
    ∷ first_threads (p + 1) programs registers

-- each thread at the beginning of its program, all buffers empty, nobody holding the lock
abbrev pub first : Litmus → Machine
first t = record { memory = t.words; threads = first_threads 0 t.programs t.registers; lock = None }
