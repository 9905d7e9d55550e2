-- Worked branching tests: a try-lock, a compare-and-exchange that succeeds and one that fails, a counter, a message that is read
-- under a branch, and a core that spins on its flag.
use Rattle.std.specs.Prelude.{ℕ, ◌==◌, if◌then◌else◌, zero, suc, List, [], ◌∷◌, codes}
use Rattle.tso_terms.specs.Examples.{loc_x, loc_y}
use Rattle.basic_laws.specs.Types.{Loc, Eax, Ebx}
use Rattle.branch_laws.specs.Trees.{Tree, Done, Cut, Reads, Stores, Locks, Writes, Adds}
use Rattle.branch_laws.specs.Branching.{Branching}
use Rattle.branch_laws.specs.Shown.{Keeping, InRegister, InLocation}

-- trees over x and y, both 0 at first
abbrev pub over_x_and_y : List Tree → Branching
over_x_and_y trees = record { name = codes "worked"; locations = codes "x" ∷ (codes "y" ∷ []); words = 0 ∷ (0 ∷ []); trees = trees }

-- a try-lock: both cores exchange 1 into x; who reads 0 has the lock, and goes on to y
abbrev pub try_lock : Branching
try_lock = over_x_and_y (
    Locks loc_x (Writes (λ v. 1)) (λ v. if v == 0 then Reads loc_y (λ w. Done (v ∷ (w ∷ []))) else Done (v ∷ []))
    ∷ (Locks loc_x (Writes (λ v. 1)) (λ v. if v == 0 then Stores loc_y 2 (Done (v ∷ [])) else Done (v ∷ [])) ∷ [])
    )

-- LOCK CMPXCHG of x from 0 to a number: where x holds another word, it writes that word back
abbrev pub exchange_if_0 : ℕ → Tree
exchange_if_0 number = Locks loc_x (Writes (λ v. if v == 0 then number else v)) (λ v. Done (v ∷ []))

abbrev pub compare_and_exchange : Branching
compare_and_exchange = over_x_and_y (exchange_if_0 1 ∷ (exchange_if_0 2 ∷ []))

-- both cores add 1 to x
abbrev pub counter : Branching
counter = over_x_and_y (Locks loc_x (Adds 1) (λ v. Done (v ∷ [])) ∷ (Locks loc_x (Adds 1) (λ v. Done (v ∷ [])) ∷ []))

-- a message in x, and its flag y
abbrev pub sender : Tree
sender = Stores loc_x 1 (Stores loc_y 1 (Done []))

-- who sees the flag reads the message
abbrev pub message : Branching
message = over_x_and_y (sender ∷ (Reads loc_y (λ v. if v == 0 then Done (v ∷ []) else Reads loc_x (λ w. Done (v ∷ (w ∷ [])))) ∷ []))

-- a core that waits for the flag, at most so many rounds, and then reads the message
abbrev pub waiter : ℕ → Tree
waiter zero = Cut
waiter (suc n) = Reads loc_y (λ v. if v == 0 then waiter n else Reads loc_x (λ w. Done (w ∷ [])))

abbrev pub spin : ℕ → Branching
spin n = over_x_and_y (sender ∷ (waiter n ∷ []))

-- a location of the reader's own, and where its two reads are found: the flag there, the message in a register
abbrev pub loc_z : Loc
loc_z = record { 0 = 2 }

abbrev pub message_keeps : List (List Keeping)
message_keeps = [] ∷ ((InLocation Eax loc_z ∷ (InRegister Ebx ∷ [])) ∷ [])
