-- The greatest depth is enough, and what runs end with are exactly the executions.
use Rattle.tso_laws.proofs.Vocabulary.{◌<◌, ◌≤◌, ◌↔◌, ◌≢◌, ap, ℕ, suc, List, [], ◌∷◌, length, slice_index_or, arith, subst, Litmus, IsTest, IsWellFormed}
use Rattle.tso_laws.proofs.Vocabulary.{action_of, IsTsoExecution, Instr, Action, Store, Entry, run, Choice, max-within, store_count}
use Rattle.tso_laws.proofs.Vocabulary.{stores_in, most_stores, needed, choices_along, LeadTo, IsReached}
use Rattle.tso_laws.proofs.WellFormed.{well-formed}
use Rattle.tso_laws.proofs.Folds.{needed-is}
use Rattle.tso_laws.proofs.Along.{witness-leads}
use Rattle.tso_laws.proofs.Whole.{tso-good}
use Rattle.tso_laws.proofs.Beginnings.{run-is-execution, run-needs}
use Rattle.tso_laws.proofs.Most.{most-is-enough}
use Rattle.tso_laws.proofs.SoFar.{test-locations}

pub execution-leads : (t : Litmus) (d : ℕ) (order : List Entry)
    → IsWellFormed t
    → IsTsoExecution t order
    → needed order ≤ d
    → LeadTo t d (choices_along t order) order
execution-leads t d order test tso n = witness-leads d t order (tso-good d t order (test-locations t test) tso (subst (λ z. z ≤ d) (needed-is order) n))

stores-length : (p : List Instr) → stores_in p ≤ length p
stores-length [] = omega arith
stores-length (x ∷ p) = let h = stores-length p in let w = one (action_of x) in omega arith
  where
    one : (a : Action) → store_count a ≤ 1
    one (Store loc operand) = omega arith
    one _ = omega arith

most-within : (ps : List (List Instr)) (n : ℕ) → ((k : ℕ) → k < length ps → length (slice_index_or ps k []) ≤ n) → most_stores ps ≤ n
most-within [] n f = omega arith
most-within (p ∷ ps) n f =
    max-within (stores_in p) (most_stores ps) n
    (let a = stores-length p in let b = f 0 (omega arith) in omega arith)
    (most-within ps n (λ k l. f (suc k) (omega arith)))

pub greatest-is-enough : (t : Litmus) (order : List Entry) → IsTest t → IsTsoExecution t order → needed order ≤ 32
greatest-is-enough t order test tso =
    let a = most-is-enough t order tso in let b = most-within t.programs 32 (λ k l. (test.programs_fit k [] l).size) in omega arith

reached-execution : (t : Litmus) (d : ℕ) (order : List Entry) → IsWellFormed t → IsReached t d order → IsTsoExecution t order
reached-execution t d order test r = subst (λ z. IsTsoExecution t z) r.commits (run-is-execution t d r.choices (test-locations t test) r.ended).order

pub never : (t : Litmus) (d : ℕ) (order : List Entry) (cs : List Choice) → IsWellFormed t → 0 < d → d < needed order → (run t d cs).commits ≢ order
never t d order cs test p l q = let n = run-needs t d cs p (test-locations t test) in let m = ap needed q in omega arith

execution-reached : (t : Litmus) (d : ℕ) (order : List Entry) → IsWellFormed t → IsTsoExecution t order → needed order ≤ d → IsReached t d order
execution-reached t d order test tso n =
    let w = execution-leads t d order test tso n in
    record { choices = choices_along t order; cores = w.cores; ended = w.ended; commits = w.commits }

pub reached-exactly : (t : Litmus) (d : ℕ) (order : List Entry) → IsWellFormed t → 0 < d → IsReached t d order ↔ (IsTsoExecution t order × (needed order ≤ d))
reached-exactly t d order test p = (
  λ r. (
    reached-execution t d order test r,
    subst (λ z. needed z ≤ d) r.commits (run-needs t d r.choices p (test-locations t test)),
  ),
  λ h. execution-reached t d order test h.0 h.1,
)

pub greatest-exactly : (t : Litmus) (order : List Entry) → IsTest t → IsReached t 32 order ↔ IsTsoExecution t order
greatest-exactly t order test =
    (λ r. reached-execution t 32 order (well-formed t test) r, λ h. execution-reached t 32 order (well-formed t test) h (greatest-is-enough t order test h))
