-- The changes of a step, laid into the states before it.
use Rattle.trace_report.proofs.Vocabulary.{◌≡◌, ◌≢◌, ◌∙◌, ℕ, zero, suc, ◌+◌, ◌<◌, ◌==◌, ◌&&◌, Bool, true, false, if◌then◌else◌, List, []}
use Rattle.trace_report.proofs.Vocabulary.{◌∷◌, ◌++◌, length, map, All, refl, sym, ap, subst, arith, ◌⊎◌, inl, inr, div_ceil, nat_tests}
use Rattle.trace_report.proofs.Vocabulary.{All-nil, All-cons, All-append, All-weaker, test-true, test-false, and-false, Each, each-append}
use Rattle.trace_report.proofs.Vocabulary.{Litmus, Choice, IsD, ImD, SmD, Running, machine_after, trace_step_of, placed, line_states}
use Rattle.trace_report.proofs.Vocabulary.{placed_states_from, number_of_lines, states_of, number_of_state, change_of, changes_in, is_of}
use Rattle.trace_report.proofs.Vocabulary.{laid_in, with_changes, ChangesOne, ChangesLeadFromStatesToStates, LineState, StateChange}
use Rattle.trace_report.proofs.Vocabulary.{PlacedState}
use Rattle.protocol_tables.specs.declared.state.State.TheVariants as tag
use Rattle.trace_report.specs.declared.step.LineState.TheVariants as state
use Rattle.trace_report.proofs.Whole.{words-kept}

-- ---- the states of lines

-- a state of another line
abbrev pub IsOther : PlacedState → PlacedState → Type 0
IsOther p q = (p.core.0 ≢ q.core.0) ⊎ (p.line ≢ q.line)

apart : (a b x y : ℕ) → (a ≢ b) ⊎ (x ≢ y) → ((a == b) && (x == y)) ≡ false
apart a b x y (inl n) = rw (test-false a b n) refl
apart a b x y (inr n) = rw (test-false x y n) (and-false (a == b))

-- two lists of states of the same lines, none of which comes twice
abbrev pub Aligned : List PlacedState → List PlacedState → Type 0
Aligned [] [] = Unit {0}
Aligned [] (a ∷ afters) = ⊥
Aligned (b ∷ bs) [] = ⊥
Aligned (b ∷ bs) (a ∷ afters) = ((b.core ≡ a.core) × (b.line ≡ a.line)) × (Each (IsOther b) bs × Aligned bs afters)

-- the number tells the state
abbrev numbered : ℕ → LineState
numbered zero = state.Stable tag.I
numbered (suc zero) = state.Stable tag.S
numbered (suc (suc zero)) = state.Stable tag.E
numbered (suc (suc (suc zero))) = state.Stable tag.O
numbered (suc (suc (suc (suc zero)))) = state.Stable tag.M
numbered (suc (suc (suc (suc (suc zero))))) = state.Transient IsD
numbered (suc (suc (suc (suc (suc (suc zero)))))) = state.Transient ImD
numbered _ = state.Transient SmD

round : (x : LineState) → numbered (number_of_state x) ≡ x
round (state.Stable tag.I) = refl
round (state.Transient IsD) = refl
round _ = refl

-- ---- changes laid in

-- a change of one line leaves the others
map-others : (c : StateChange) (ps : List PlacedState) → Each (λ (p : PlacedState). (c.core.0 ≢ p.core.0) ⊎ (c.line ≢ p.line)) ps → map (laid_in c) ps ≡ ps
map-others c [] h = refl
map-others c (p ∷ ps) h = rw (apart c.core.0 p.core.0 c.line p.line h.0) (ap (λ qs. p ∷ qs) (map-others c ps h.1))

-- changes of other lines leave one
with-other : (cs : List StateChange) (b : PlacedState) (ps : List PlacedState)
    → Each (λ (c : StateChange). is_of c b ≡ false) cs
    → with_changes cs (b ∷ ps) ≡ b ∷ with_changes cs ps
with-other [] b ps h = refl
with-other (c ∷ cs) b ps h = rw h.0 (with-other cs b (map (laid_in c) ps) h.1)

-- the changes of these lines are of none but these
flipped : (p q : PlacedState) → IsOther p q → IsOther q p
flipped p q (inl n) = inl (λ e. n (sym e))
flipped p q (inr n) = inr (λ e. n (sym e))

elsewhere : (b : PlacedState) (bs afters : List PlacedState) → Each (IsOther b) bs → Each (λ (c : StateChange). is_of c b ≡ false) (changes_in bs afters)
elsewhere b [] afters h = tt
elsewhere b (q ∷ qs) [] h = tt
elsewhere b (q ∷ qs) (a ∷ afters) h =
    each-append (λ (c : StateChange). is_of c b ≡ false) (change_of q a) (changes_in qs afters)
    (one (number_of_state q.state == number_of_state a.state)) (elsewhere b qs afters h.1)
  where
    one : (t : Bool)
        → Each (λ (c : StateChange). is_of c b ≡ false)
        (if t then [] else record { core = q.core; line = q.line; before = q.state; after = a.state } ∷ [])
    one true = tt
    one false = (apart q.core.0 b.core.0 q.line b.line (flipped b q h.0), tt)

same-place : (b a : PlacedState) → b.core ≡ a.core → b.line ≡ a.line → b.state ≡ a.state → b ≡ a
same-place b a p q r =
    ap (λ k. record { core = k; line = b.line; state = b.state }) p ∙ (ap (λ n. record { core = a.core; line = n; state = b.state }) q
    ∙ ap (λ x. record { core = a.core; line = a.line; state = x }) r)

own : (b : PlacedState) → ((b.core.0 == b.core.0) && (b.line == b.line)) ≡ true
own b = rw (test-true b.core.0 b.core.0 refl, test-true b.line b.line refl) refl

pub laid : (bs afters : List PlacedState) → Aligned bs afters → with_changes (changes_in bs afters) bs ≡ afters
laid [] [] h = refl
laid [] (a ∷ afters) h = absurd h
laid (b ∷ bs) [] h = absurd h
laid (b ∷ bs) (a ∷ afters) h = go (number_of_state b.state == number_of_state a.state) refl (laid bs afters h.1.1)
  where
    go : (t : Bool) → (number_of_state b.state == number_of_state a.state) ≡ t → with_changes (changes_in bs afters) bs ≡ afters
        → with_changes
        ((if t then [] else record { core = b.core; line = b.line; before = b.state; after = a.state } ∷ [])
        ++ changes_in bs afters)
        (b ∷ bs)
        ≡ a ∷ afters
    go true q rest =
        let same : number_of_state b.state ≡ number_of_state a.state = grind (arith, nat_tests) in
        with-other (changes_in bs afters) b bs (elsewhere b bs afters h.1.0) ∙ (ap (λ ps. b ∷ ps) rest
        ∙ ap (λ p. p ∷ afters) (same-place b a h.0.0 h.0.1 (sym (round b.state) ∙ (ap numbered same ∙ round a.state))))
    go false q rest =
        let c : StateChange = record { core = b.core; line = b.line; before = b.state; after = a.state } in
        let now : PlacedState = record { core = b.core; line = b.line; state = a.state } in
        let first : laid_in c b ≡ now = rw (own b) refl in
        ap (λ p. with_changes (changes_in bs afters) (p ∷ map (laid_in c) bs)) first
        ∙ (ap (λ ps. with_changes (changes_in bs afters) (now ∷ ps)) (map-others c bs h.1.0)
        ∙ (with-other (changes_in bs afters) now bs (elsewhere b bs afters h.1.0)
        ∙ (ap (λ ps. now ∷ ps) rest ∙ ap (λ p. p ∷ afters) (same-place now a h.0.0 h.0.1 refl))))

-- ---- each change is one

there : (b : PlacedState) (bs : List PlacedState) (c : StateChange) → ChangesOne bs c → ChangesOne (b ∷ bs) c
there b bs c h = record { was = (suc h.was.0, (let l = h.was.1 in omega arith), h.was.2); differs = h.differs }

pub changes-one : (bs afters : List PlacedState) → All (ChangesOne bs) (changes_in bs afters)
changes-one [] afters = All-nil (ChangesOne [])
changes-one (b ∷ bs) [] = All-nil (ChangesOne (b ∷ bs))
changes-one (b ∷ bs) (a ∷ afters) =
    All-append (ChangesOne (b ∷ bs)) (change_of b a) (changes_in bs afters) (one (number_of_state b.state == number_of_state a.state) refl)
    (All-weaker (ChangesOne bs) (ChangesOne (b ∷ bs)) (there b bs) (changes_in bs afters) (changes-one bs afters))
  where
    one : (t : Bool)
        → (number_of_state b.state == number_of_state a.state) ≡ t
        → All (ChangesOne (b ∷ bs)) (if t then [] else record { core = b.core; line = b.line; before = b.state; after = a.state } ∷ [])
    one true q = All-nil (ChangesOne (b ∷ bs))
    one false q =
        let differ : number_of_state b.state ≢ number_of_state a.state = λ same. (let z : ⊥ = grind (arith, nat_tests) in z) in
        All-cons (ChangesOne (b ∷ bs)) (record { core = b.core; line = b.line; before = b.state; after = a.state }) []
        (record { was = (0, omega arith, refl); differs = differ }) (All-nil (ChangesOne (b ∷ bs)))

-- ---- the lines of two machines

-- core by core, so many lines each
abbrev pub grid : Running → ℕ → ℕ → ℕ → List PlacedState
grid m lines core zero = []
grid m lines core (suc count) = line_states m core 0 lines ++ grid m lines (core + 1) count

pub grid-is : (m : Running) (core count : ℕ) → placed_states_from m core count ≡ grid m (number_of_lines m) core count
grid-is m core zero = refl
grid-is m core (suc count) = ap (λ ps. line_states m core 0 (number_of_lines m) ++ ps) (grid-is m (core + 1) count)

later-lines : (p : PlacedState) (m : Running) (core line count : ℕ) → p.line < line → Each (IsOther p) (line_states m core line count)
later-lines p m core line zero h = tt
later-lines p m core line (suc count) h = (inr (λ e. omega arith), later-lines p m core (line + 1) count (omega arith))

other-core : (p : PlacedState) (m : Running) (core line count : ℕ) → p.core.0 < core → Each (IsOther p) (line_states m core line count)
other-core p m core line zero h = tt
other-core p m core line (suc count) h = (inl (λ e. omega arith), other-core p m core (line + 1) count h)

later-cores : (p : PlacedState) (m : Running) (lines core count : ℕ) → p.core.0 < core → Each (IsOther p) (grid m lines core count)
later-cores p m lines core zero h = tt
later-cores p m lines core (suc count) h =
    each-append (IsOther p) (line_states m core 0 lines) (grid m lines (core + 1) count) (other-core p m core 0 lines h)
    (later-cores p m lines (core + 1) count (omega arith))

-- the lines of one core before those of others
beside : (m n : Running) (core line count : ℕ) (bs afters : List PlacedState) → ((p : PlacedState) → p.core.0 ≡ core → Each (IsOther p) bs) → Aligned bs afters
    → Aligned (line_states m core line count ++ bs) (line_states n core line count ++ afters)
beside m n core line zero bs afters other h = h
beside m n core line (suc count) bs afters other h = (
  (refl, refl),
  (
    each-append (IsOther (placed m core line)) (line_states m core (line + 1) count) bs
        (later-lines (placed m core line) m core (line + 1) count (omega arith)) (other (placed m core line) refl),
    beside m n core (line + 1) count bs afters other h,
  ),
)

grids : (m n : Running) (lines core count : ℕ) → Aligned (grid m lines core count) (grid n lines core count)
grids m n lines core zero = tt
grids m n lines core (suc count) =
    beside m n core 0 lines (grid m lines (core + 1) count) (grid n lines (core + 1) count)
    (λ p is. later-cores p m lines (core + 1) count (omega arith)) (grids m n lines (core + 1) count)

pub aligned : (m n : Running) → n.test ≡ m.test → number_of_lines n ≡ number_of_lines m → Aligned (states_of m) (states_of n)
aligned m n test lines =
    let cores = length m.test.programs in
    let second : grid n (number_of_lines m) 0 cores ≡ states_of n =
    sym (ap (λ k. grid n k 0 cores) lines)
    ∙ (sym (ap (λ (t : Litmus). grid n (number_of_lines n) 0 (length t.programs)) test)
    ∙ sym (grid-is n 0 (length n.test.programs))) in
    subst (λ b. Aligned b (states_of n)) (sym (grid-is m 0 cores))
    (subst (λ a. Aligned (grid m (number_of_lines m) 0 cores) a) second (grids m n (number_of_lines m) 0 cores))

lead : (m : Running) (choice : Choice) → with_changes (trace_step_of m choice).changes (states_of m) ≡ states_of (machine_after m choice)
unfolding trace_step_of
lead m choice =
    laid (states_of m) (states_of (machine_after m choice))
    (aligned m (machine_after m choice) refl (ap (λ n. div_ceil (length m.test.locations) n) (words-kept m choice)))

real : (m : Running) (choice : Choice) → All (ChangesOne (states_of m)) (trace_step_of m choice).changes
unfolding trace_step_of
real m choice = changes-one (states_of m) (states_of (machine_after m choice))

pub changes-lead : ChangesLeadFromStatesToStates
changes-lead = record { lead = lead; real = real }
