-- The states of the flat machine as states of the abstract machine.
use Rattle.abstract_machine.proofs.Vocabulary.{◌≡◌, ℕ, ◌+◌, List, [], ◌∷◌, map, None, slice_index_or, ap, refl, CoreState, State, started}
use Rattle.abstract_machine.proofs.Vocabulary.{Instr, NotLocked, HardwareThread, Machine, first_threads}

-- a core of the flat machine, as a hardware thread that isn't in a locked instruction
abbrev pub thread : CoreState → HardwareThread
thread s = record { place = s.place; registers = s.registers; buffer = s.pending; progress = NotLocked }

-- a state of the flat machine, as one of the abstract machine where nobody holds the lock
abbrev pub lifted : State → Machine
lifted state = record { memory = state.memory; threads = map thread state.cores; lock = None }

pub first-lifted : (p : ℕ) (programs : List (List Instr)) (registers : List (List ℕ))
    → map thread (started p programs registers) ≡ first_threads p programs registers
first-lifted p [] registers = refl
first-lifted p (program ∷ programs) registers =
    ap (λ z. record { place = 0; registers = slice_index_or registers p []; buffer = []; progress = NotLocked } ∷ z)
    (first-lifted (p + 1) programs registers)
