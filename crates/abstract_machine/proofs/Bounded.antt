-- What this project's machine reaches with bounded buffers, and what the abstract machine does.
use Rattle.abstract_machine.proofs.Vocabulary.{◌≤◌, ◌<◌, ◌↔◌, ℕ, suc, List, [], ◌∷◌, length, slice_index_or, arith, subst, Litmus, IsTest, well-formed}
use Rattle.abstract_machine.proofs.Vocabulary.{action_of, IsTsoExecution, Instr, Action, Entry, store_count, stores_in, most_stores, needed}
use Rattle.abstract_machine.proofs.Vocabulary.{choices_along, IsReached, max-within, Machine, EndsWith, IsReachedFreely}
use Rattle.abstract_machine.proofs.Leading.{Reaches}
use Rattle.abstract_machine.proofs.Returning.{Executions}

-- each TSO execution is reached without a bound
abbrev pub Freely : Type 0
Freely = (t : Litmus) (order : List Entry) → IsTest t → IsTsoExecution t order → IsReachedFreely t order

-- and what is reached so is one
abbrev pub Returns : Type 0
Returns = (t : Litmus) (order : List Entry) (m : Machine) → IsTest t → EndsWith t order m → IsTsoExecution t order

-- it needs no more depth than the most plain stores of a program
abbrev pub Enough : Type 0
Enough = (t : Litmus) (order : List Entry) → IsTsoExecution t order → needed order ≤ most_stores t.programs

pub bounded-is-free : Executions → Reaches → Enough → Freely → Returns → (t : Litmus) (depth : ℕ) (order : List Entry) → IsTest t
    → most_stores t.programs ≤ depth → IsReached t depth order ↔ IsReachedFreely t order
bounded-is-free executions reaches enough freely returns t depth order test l = (
  λ r. freely t order test (subst (IsTsoExecution t) r.commits (executions t depth r.choices (well-formed t test) r.ended).order),
  λ f.
      let tso = returns t order f.0 test f.1 in
      let least = enough t order tso in
      let w = reaches t depth order (well-formed t test) tso (omega arith) in
      record { choices = choices_along t order; cores = w.cores; ended = w.ended; commits = w.commits },
)

-- ---- no program of a test has more than 32 plain stores

stores-length : (p : List Instr) → stores_in p ≤ length p
stores-length [] = omega arith
stores-length (x ∷ p) = let h = stores-length p in let w = one (action_of x) in omega arith
  where
    one : (a : Action) → store_count a ≤ 1
    one a = grind arith

most-within : (ps : List (List Instr)) (n : ℕ) → ((k : ℕ) → k < length ps → length (slice_index_or ps k []) ≤ n) → most_stores ps ≤ n
most-within [] n f = omega arith
most-within (p ∷ ps) n f =
    let first = f 0 (omega arith) in
    let l = stores-length p in
    max-within (stores_in p) (most_stores ps) n (omega arith) (most-within ps n (λ k i. f (suc k) (omega arith)))

pub most-stores-few : (t : Litmus) → IsTest t → most_stores t.programs ≤ 32
most-stores-few t test = most-within t.programs 32 (λ k l. (test.programs_fit k [] l).size)
