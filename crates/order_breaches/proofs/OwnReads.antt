-- Each read that the programs make has the value that the order itself gives it.
use Rattle.order_breaches.proofs.Vocabulary.{◌≡◌, ℕ, ◌+◌, List, [], ◌∷◌, ◌++◌, slice_index, slice_index_or, true, false, refl, action_of}
use Rattle.order_breaches.proofs.Vocabulary.{entry, fence, entries_by, registers_by, values_after, entries_of, value_in, value_of, updated}
use Rattle.order_breaches.proofs.Vocabulary.{Litmus, is_read, read_value, values_by, made_by, made_from, made, read_values, Instr, Action}
use Rattle.order_breaches.proofs.Vocabulary.{Store, Load, Move, Fence, Lock, Entry, W, LR, LW, Each, each-append}

abbrev pub ReadsOwn : List Entry → Entry → Type 0
ReadsOwn order e = is_read e ≡ true → e.value ≡ read_value e.core.0 e.place e.kind order

no_read : (order : List Entry) (e : Entry) → is_read e ≡ false → ReadsOwn order e
no_read order e n h = absurd (let z : ⊥ = cc in z)

read-by : (core place : ℕ) (a : Action) (rest : List Instr) (registers values : List ℕ) (order : List Entry)
    → ((next : List ℕ) → Each (ReadsOwn order) (entries_of core (place + 1) rest next values))
    → Each (ReadsOwn order) (entries_by core place a registers (slice_index (values_by core place a order ++ values) 0)
    ++ entries_of core (place + 1) rest
    (registers_by a registers (slice_index (values_by core place a order ++ values) 0))
    (values_after a (values_by core place a order ++ values)))
read-by core place (Store loc operand) rest registers values order h = (no_read order (entry core place W loc (value_of registers operand)) refl, h _)
read-by core place (Load reg loc) rest registers values order h = (λ _. refl, h _)
read-by core place (Move change) rest registers values order h = h _
read-by core place Fence rest registers values order h = (no_read order (fence core place) refl, h _)
read-by core place (Lock loc reg update) rest registers values order h =
    (λ _. refl, (no_read order (entry core place LW loc (updated update registers (read_value core place LR order))) refl, h _))

entries-read : (core place : ℕ) (program : List Instr) (registers : List ℕ) (order : List Entry)
    → Each (ReadsOwn order) (entries_of core place program registers (read_values core place program order))
entries-read core place [] registers order = tt
entries-read core place (i ∷ rest) registers order =
    read-by core place (action_of i) rest registers (read_values core (place + 1) rest order) order (λ next. entries-read core (place + 1) rest next order)

made_from-read : (core : ℕ) (programs : List (List Instr)) (registers : List (List ℕ)) (order : List Entry)
    → Each (ReadsOwn order) (made_from core programs registers order)
made_from-read core [] registers order = tt
made_from-read core (p ∷ ps) registers order =
    each-append (ReadsOwn order) (made_by core p (slice_index_or registers core []) order) (made_from (core + 1) ps registers order)
    (entries-read core 0 p (slice_index_or registers core []) order) (made_from-read (core + 1) ps registers order)

pub made-read : (t : Litmus) (order : List Entry) → Each (ReadsOwn order) (made t order)
made-read t order = made_from-read 0 t.programs t.registers order
