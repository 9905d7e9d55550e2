-- Runs of the abstract machine that end a test, and their memory orders.
-- (Sewell and others, "x86-TSO", 2010, section 3. The two parts of a locked instruction are put side by side, as this
-- project's orders have them.)
use Rattle.std.specs.Prelude.{ℕ, ◌≡◌, List, [], length, map, Some, slice_get, slice_index_or}
use Rattle.tso_terms.specs.Litmus.{Litmus}
use Rattle.tso_terms.specs.Together.{put_together}
use Rattle.tso_terms.specs.declared.execution.Entry.{Entry}
use Rattle.abstract_machine.specs.Machine.{HardwareThread, Machine, first}
use Rattle.abstract_machine.specs.Steps.{Runs}

-- a thread has come to the end of its program, and its buffer is empty
pub record IsFinished (t : Litmus) (p : ℕ) (h : HardwareThread) : Type 0 where
  pub place : h.place ≡ length (slice_index_or t.programs p [])
  pub buffer : h.buffer ≡ []

-- the test has ended: every thread is finished
abbrev pub AllAreFinished : Litmus → Machine → Type 0
AllAreFinished t m = (p : ℕ) (h : HardwareThread) → slice_get m.threads p ≡ Some h → IsFinished t p h

-- the registers of each thread
abbrev pub registers_of_threads : Machine → List (List ℕ)
registers_of_threads m = map (λ h. h.registers) m.threads

-- a run that ends the test in this machine, with this memory order: what its steps gave, the read of each locked instruction
-- put directly before its write
pub record EndsWith (t : Litmus) (order : List Entry) (m : Machine) : Type 0 where
  pub given : List Entry
  pub run : Runs t (first t) given m
  pub ended : AllAreFinished t m
  pub together : put_together given ≡ order

-- some run ends the test with this order
abbrev pub IsReachedFreely : Litmus → List Entry → Type 0
IsReachedFreely t order = (m : Machine) × EndsWith t order m
