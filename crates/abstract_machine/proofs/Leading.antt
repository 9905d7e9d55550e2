-- A run of the flat machine that ends the test is followed by one of the abstract machine that ends it too.
use Rattle.abstract_machine.proofs.Vocabulary.{◌≡◌, ◌<◌, ◌≤◌, ◌==◌, ℕ, ◌+◌, zero, suc, Bool, true, false, List, [], ◌∷◌, ◌++◌, length, None}
use Rattle.abstract_machine.proofs.Vocabulary.{Some, slice_get, slice_index_or, arith, sym, ◌∙◌, refl, subst, if◌then◌else◌, append_assoc}
use Rattle.abstract_machine.proofs.Vocabulary.{nat_tests, Litmus, IsTest, IsWellFormed, well-formed, IsAdjacent, IsTsoExecution, CoreState}
use Rattle.abstract_machine.proofs.Vocabulary.{State, is_none_pending}
use Rattle.abstract_machine.proofs.Vocabulary.{program_of, chosen, effect_of, after_choice, started, start, is_done, all_done, has_ended}
use Rattle.abstract_machine.proofs.Vocabulary.{Run, resting, then_run, run_from, run, CoresExist, Instr, Entry, Choice, needed}
use Rattle.abstract_machine.proofs.Vocabulary.{choices_along, LeadTo, Machine, Runs, rests, goes_on, IsFinished, AllAreFinished}
use Rattle.abstract_machine.proofs.Vocabulary.{IsReachedFreely, and-left, and-right, Each, length-set, length-starts, is_none-is}
use Rattle.abstract_machine.proofs.Together.{already-together}
use Rattle.abstract_machine.proofs.Lists.{get-map}
use Rattle.abstract_machine.proofs.States.{thread, lifted, first-lifted}
use Rattle.abstract_machine.proofs.Following.{AreWrites, OnlyWrites, by-choice, writes-choice}

runs-append : (t : Litmus) (a b c : Machine) (es fs : List Entry) → Runs t a es b → Runs t b fs c → Runs t a (es ++ fs) c
runs-append t a b c es fs (rests _) r = r
runs-append t a b c es fs (goes_on _ n _ p h xs ys get step rest) r =
    subst (λ z. Runs t a z c) (sym (append_assoc xs ys fs)) (goes_on a n c p h xs (ys ++ fs) get step (runs-append t n b c ys fs rest r))

-- a run that has ended
record Led (t : Litmus) (state : State) (r : Run) : Type 0 where
  pub runs : Runs t (lifted state) r.commits (lifted r.state)
  pub ended : has_ended t r.state ≡ true

leads : (t : Litmus) (n : ℕ) (state : State) (cs : List Choice) → length state.cores ≡ length t.programs → OnlyWrites state
    → CoresExist (length t.programs) cs → (run_from t (suc n) state cs).ended ≡ true → Led t state (run_from t (suc n) state cs)
leads t n state [] size w exist ended = record { runs = rests (lifted state); ended = ended }
leads t n state (c ∷ cs) size w exist ended =
    go (has_ended t state) refl
    (λ h. leads t n (after_choice t (suc n) state c) cs (length-set state.cores (chosen c) _ ∙ size)
    (writes-choice t n state c l w) exist.1 h)
    ended
  where
    l : chosen c < length state.cores
    l = let k = exist.0 in omega arith

    rest : Run
    rest = run_from t (suc n) (after_choice t (suc n) state c) cs

    chosen_run : Bool → Run
    chosen_run b = if b then resting true state (length (c ∷ cs)) else then_run (effect_of t (suc n) state c) rest

    go : (b : Bool) → has_ended t state ≡ b → (rest.ended ≡ true → Led t (after_choice t (suc n) state c) rest)
        → (chosen_run b).ended ≡ true → Led t state (chosen_run b)
    go true q h e = record { runs = rests (lifted state); ended = q }
    go false q h e =
        let r = h e in
        record {
          runs =
              runs-append t (lifted state) (lifted (after_choice t (suc n) state c)) (lifted rest.state) _ _
              (by-choice t n state c l w) r.runs;
          ended = r.ended;
        }

-- ---- the first state and the end

first-writes : (p : ℕ) (programs : List (List Instr)) (registers : List (List ℕ))
    → Each (λ s. AreWrites s.pending) (started p programs registers)
first-writes p [] registers = tt
first-writes p (program ∷ programs) registers = (tt, first-writes (p + 1) programs registers)

done-at : (ps : List (List Instr)) (ss : List CoreState) (k : ℕ) (s : CoreState) → all_done ps ss ≡ true → slice_get ss k ≡ Some s
    → is_done (slice_index_or ps k []) s ≡ true
done-at ps [] k s h g = absurd (let z : ⊥ = cc in z)
done-at [] (x ∷ ss) zero s h g = let q : x ≡ s = cc in subst (λ z. is_done [] z ≡ true) q (and-left (is_done [] x) (all_done [] ss) h)
done-at [] (x ∷ ss) (suc k) s h g = done-at [] ss k s (and-right (is_done [] x) (all_done [] ss) h) g
done-at (p ∷ ps) (x ∷ ss) zero s h g =
    let q : x ≡ s = cc in subst (λ z. is_done p z ≡ true) q (and-left (is_done p x) (all_done ps ss) h)
done-at (p ∷ ps) (x ∷ ss) (suc k) s h g = done-at ps ss k s (and-right (is_done p x) (all_done ps ss) h) g

done-finished : (t : Litmus) (p : ℕ) (s : CoreState) → is_done (program_of t p) s ≡ true → IsFinished t p (thread s)
done-finished t p s h =
    let e : (length (program_of t p) == s.place) ≡ true = and-left (length (program_of t p) == s.place) (is_none_pending s.pending) h in
    record {
      place = let z : s.place ≡ length (program_of t p) = grind (arith, nat_tests) in z;
      buffer = is_none-is s.pending (and-right (length (program_of t p) == s.place) (is_none_pending s.pending) h);
    }

ended-has : (t : Litmus) (state : State) → has_ended t state ≡ true → AllAreFinished t (lifted state)
ended-has t state e p h g =
    let x = get-map thread state.cores p h g in
    subst (λ z. IsFinished t p z) x.2 (done-finished t p x.0 (done-at t.programs state.cores p x.0 e x.1))

-- a run of the flat machine that ends the test, of cores that are there
run-leads : (t : Litmus) (n : ℕ) (order : List Entry) (choices : List Choice) → CoresExist (length t.programs) choices
    → (run t (suc n) choices).ended ≡ true → (run t (suc n) choices).commits ≡ order → IsAdjacent order → IsReachedFreely t order
run-leads t n order choices exist ended commits pairs =
    let r = leads t n (start t) choices (length-starts 0 t.programs t.registers) (first-writes 0 t.programs t.registers) exist ended in
    let m : Machine = lifted (run t (suc n) choices).state in (
      m,
      record {
        given = order;
        run =
            subst (λ z. Runs t (record { memory = t.words; threads = z; lock = None }) order m) (first-lifted 0 t.programs t.registers)
            (subst (λ z. Runs t (lifted (start t)) z m) commits r.runs);
        ended = ended-has t (run t (suc n) choices).state r.ended;
        together = already-together order pairs;
      },
    )

-- each execution is reached by a run of the flat machine at each depth that is enough
abbrev pub Reaches : Type 0
Reaches =
    (t : Litmus) (depth : ℕ) (order : List Entry) → IsWellFormed t → IsTsoExecution t order → needed order ≤ depth
    → LeadTo t depth (choices_along t order) order

pub execution-runs : Reaches → (t : Litmus) (order : List Entry) → IsTest t → IsTsoExecution t order → IsReachedFreely t order
execution-runs reaches t order test tso =
    let w = reaches t (suc (needed order)) order (well-formed t test) tso (omega arith) in
    run-leads t (needed order) order (choices_along t order) w.cores w.ended w.commits tso.adjacent
