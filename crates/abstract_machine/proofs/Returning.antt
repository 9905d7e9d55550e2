-- A run of the abstract machine that ends the test leads to a state of the flat machine that has ended it too.
use Rattle.abstract_machine.proofs.Vocabulary.{◌≡◌, ◌<◌, ℕ, suc, true, List, [], ◌∷◌, ◌++◌, length, map, None, Some, slice_get, slice_set}
use Rattle.abstract_machine.proofs.Vocabulary.{slice_index_or, arith, ap, sym, ◌∙◌, refl, inl, inr, subst, append_assoc, Litmus, IsTest}
use Rattle.abstract_machine.proofs.Vocabulary.{IsWellFormed, well-formed}
use Rattle.abstract_machine.proofs.Vocabulary.{IsTsoExecution, final_words, final_registers, CoreState, State, program_of, registers_in}
use Rattle.abstract_machine.proofs.Vocabulary.{start, is_done, all_done, has_ended, run, put_together, Instr, Entry, Choice, IsPossible}
use Rattle.abstract_machine.proofs.Vocabulary.{End, IsExecution, StopsAtTheEnd, HardwareThread, Machine, first, ThreadStep, Runs, rests}
use Rattle.abstract_machine.proofs.Vocabulary.{goes_on, IsFinished, AllAreFinished, registers_of_threads, EndsWith, decide, test-true}
use Rattle.abstract_machine.proofs.Vocabulary.{append-nil}
use Rattle.abstract_machine.proofs.Lists.{map-get, map-map, set-get, within}
use Rattle.abstract_machine.proofs.States.{thread, lifted, first-lifted}
use Rattle.abstract_machine.proofs.FlatStates.{Nexts, HasRoom, IsKnown, test-room, test-known, first-base}
use Rattle.abstract_machine.proofs.Tracks.{Tied, begun, has_read, written, left, locked_by, Tracks, unheld, held, open-step, other-step}
use Rattle.abstract_machine.proofs.Holder.{own-step}

-- ---- steps and runs

within-threads : (state : State) (p : ℕ) (s : CoreState) → slice_get state.cores p ≡ Some s → p < length (map thread state.cores)
within-threads state p s g = within (map thread state.cores) p (thread s) (map-get thread state.cores p s g)

track-step : Nexts → (t : Litmus) (n : ℕ) → HasRoom t n → IsKnown t → (given : List Entry) (m : Machine) (q : ℕ) (h : HardwareThread)
    (es : List Entry) (o : Machine) → Tracks t n given m → slice_get m.threads q ≡ Some h → ThreadStep t m q h es o → Tracks t n (given ++ es) o
track-step next t n room known given _ q h es o (unheld state commits b j) get st =
    open-step next t n room known given state commits q h es o b j get st
track-step next t n room known given _ q h es o (held state commits p s k waits b g tied j) get st = elim (decide p q) [
  | inl same ↦ own same
  | inr apart ↦ other-step next t n room known given state commits p s k waits q h es o apart b g tied j get st
]
  where
    own : p ≡ q → Tracks t n (given ++ es) o
    own same =
        let there = set-get (map thread state.cores) p k (within-threads state p s g) in
        let at : slice_get (slice_set (map thread state.cores) p k) p ≡ Some h =
        subst (λ z. slice_get (slice_set (map thread state.cores) p k) z ≡ Some h) (sym same) get in
        let is : h ≡ k = cc in
        own-step next t n given state commits p s k waits es o b g tied j
        (subst (λ z. ThreadStep t (locked_by state p k) p z es o) is (subst (λ z. ThreadStep t (locked_by state p k) z h es o) (sym same) st))

track-run : Nexts → (t : Litmus) (n : ℕ) → HasRoom t n → IsKnown t → (given : List Entry) (m : Machine) (es : List Entry) (o : Machine)
    → Tracks t n given m → Runs t m es o → Tracks t n (given ++ es) o
track-run next t n room known given m _ _ tracks (rests _) = subst (λ z. Tracks t n z m) (sym (append-nil given)) tracks
track-run next t n room known given m _ o tracks (goes_on _ x _ q h es fs get st rest) =
    subst (λ z. Tracks t n z o) (append_assoc given es fs)
    (track-run next t n room known (given ++ es) x fs o (track-step next t n room known given m q h es x tracks get st) rest)

first-tracks : (t : Litmus) (n : ℕ) → Tracks t n [] (first t)
first-tracks t n =
    subst (λ z. Tracks t n [] (record { memory = t.words; threads = z; lock = None })) (first-lifted 0 t.programs t.registers)
    (unheld (start t) [] (first-base t n) (λ ys. refl))

-- ---- the end

-- a thread that holds the lock has an instruction before it
holder-inside : (t : Litmus) (memory : List ℕ) (p : ℕ) (s : CoreState) (h : HardwareThread) (waits : List Entry) → Tied t memory p s h waits
    → h.place < length (program_of t p)
holder-inside t memory p s _ _ (begun k) = within (program_of t p) s.place k.instruction k.is
holder-inside t memory p s _ _ (has_read k v e) = within (program_of t p) s.place k.instruction k.is
holder-inside t memory p s _ _ (written k v e) = within (program_of t p) s.place k.instruction k.is
holder-inside t memory p s _ _ (left place k none at) = within (program_of t p) place k.instruction k.is

finished-done : (t : Litmus) (p : ℕ) (s : CoreState) → IsFinished t p (thread s) → is_done (program_of t p) s ≡ true
finished-done t p s h = rw (test-true (length (program_of t p)) s.place (sym h.place), h.buffer) refl

all-done : (programs : List (List Instr)) (cores : List CoreState)
    → ((k : ℕ) (s : CoreState) → slice_get cores k ≡ Some s → is_done (slice_index_or programs k []) s ≡ true)
    → all_done programs cores ≡ true
all-done [] [] f = refl
all-done (p ∷ ps) [] f = refl
all-done [] (s ∷ ss) f = rw (f 0 s refl) (all-done [] ss (λ k x g. f (suc k) x g))
all-done (p ∷ ps) (s ∷ ss) f = rw (f 0 s refl) (all-done ps ss (λ k x g. f (suc k) x g))

-- the flat state at the end
record Ends (t : Litmus) (n : ℕ) (given : List Entry) (m : Machine) : Type 0 where
  state : State
  possible : IsPossible t (suc n) (put_together given) state
  ended : has_ended t state ≡ true
  is : lifted state ≡ m

ends : (t : Litmus) (n : ℕ) (given : List Entry) (m : Machine) → Tracks t n given m → AllAreFinished t m → Ends t n given m
ends t n given _ (unheld state commits b j) end =
    let same : put_together given ≡ commits = ap put_together (sym (append-nil given)) ∙ j [] ∙ append-nil commits in
    record {
      state = state;
      possible = subst (λ z. IsPossible t (suc n) z state) (sym same) b.possible;
      ended =
          all-done t.programs state.cores (λ k s g. finished-done t k s (end k (thread s) (map-get thread state.cores k s g)));
      is = refl;
    }
ends t n given _ (held state commits p s h waits b g tied j) end =
    let place = (end p h (set-get (map thread state.cores) p h (within-threads state p s g))).place in
    let inside = holder-inside t state.memory p s h waits tied in
    absurd (omega arith)

-- ---- the law

abbrev pub Stops : Type 0
Stops = (t : Litmus) (depth : ℕ) (choices : List Choice) → StopsAtTheEnd t depth choices (run t depth choices)

abbrev pub Executions : Type 0
Executions = (t : Litmus) (depth : ℕ) (choices : List Choice) → IsWellFormed t → End t depth choices → IsExecution t (run t depth choices)

-- the order is a TSO execution, and the machine is left in its final state
pub record Returned (t : Litmus) (order : List Entry) (m : Machine) : Type 0 where
  pub order_is : IsTsoExecution t order
  pub memory : m.memory ≡ final_words t order
  pub registers : registers_of_threads m ≡ final_registers t order

possible-returned : Stops → Executions → (t : Litmus) (depth : ℕ) (order : List Entry) (state : State) → IsTest t
    → IsPossible t depth order state → has_ended t state ≡ true → Returned t order (lifted state)
possible-returned stops executions t depth order state test way ended =
    let stop = stops t depth way.choices in
    let state_is : (run t depth way.choices).state ≡ state = stop.all_state ∙ way.state_is in
    let commits_are : (run t depth way.choices).commits ≡ order = stop.all_commits ∙ way.commits_are in
    let end : End t depth way.choices = stop.ended ∙ ap (has_ended t) state_is ∙ ended in
    let execution = executions t depth way.choices (well-formed t test) end in
    record {
      order_is = subst (IsTsoExecution t) commits_are execution.order;
      memory = sym (ap (λ z. z.memory) state_is) ∙ execution.memory ∙ ap (final_words t) commits_are;
      registers =
          map-map (λ h. h.registers) thread state.cores ∙ sym (ap registers_in state_is) ∙ execution.registers
          ∙ ap (final_registers t) commits_are;
    }

pub run-returns : Nexts → Stops → Executions → (t : Litmus) (order : List Entry) (m : Machine) → IsTest t → EndsWith t order m
    → Returned t order m
run-returns next stops executions t order m test e =
    let tracks = track-run next t 31 (test-room t test) (test-known t test) [] (first t) e.given m (first-tracks t 31) e.run in
    let end = ends t 31 e.given m tracks e.ended in
    subst (λ z. Returned t z m) e.together
    (subst (λ z. Returned t (put_together e.given) z) end.is
    (possible-returned stops executions t 32 (put_together e.given) end.state test end.possible end.ended))
