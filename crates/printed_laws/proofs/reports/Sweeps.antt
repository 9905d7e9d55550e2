-- The lines of a sweep tell what was counted.
use Rattle.printed_laws.proofs.Vocabulary.{◌≡◌, ℕ, ◌^◌, ◌<◌, Bool, true, false, List, [], ◌∷◌, ◌++◌, get_or, drop, refl, sym, ap, ◌∙◌, suc}
use Rattle.printed_laws.proofs.Vocabulary.{Option, arith, ◌+◌, length, All, Some, None, is_some, ◌==◌, cond, map, decimal, list_all}
use Rattle.printed_laws.proofs.Vocabulary.{append_cancel_left, append_assoc, length-map, codes, sum, line, head, SweepsTellTheirCounts}
use Rattle.printed_laws.proofs.Vocabulary.{Litmus, All-cons, All-nil, Condition, IsWord, name_of, IsStateOf, sum_by-cons, Named, Register}
use Rattle.printed_laws.proofs.Vocabulary.{Location, RunCounts, looked_at, ended_in, printed_value, printed_values, counted_state_lines}
use Rattle.printed_laws.proofs.Vocabulary.{sweep_line, frequency, observed_line, observation, tally_text}
use Rattle.std.specs.Prelude.{slice_index_or}
use Rattle.std.specs.Map.{values_of}
use Rattle.printed_laws.proofs.texts.Cutting.{Stops, unlike, is_label, filled, filled-cut, labels-are, words-small}
use Rattle.printed_laws.proofs.reports.Lines.{labelled-flat}
use Rattle.printed_laws.proofs.texts.Lists.{Tells, list-cut, all-told, both-fit}

-- ---- the values of a state

-- what is printed before a value
abbrev value_label : Litmus → Named → List ℕ
value_label t (Register core reg) = codes " " ++ (decimal core.0 ++ (codes ":" ++ (name_of reg ++ codes "=")))
value_label t (Location loc) = codes " " ++ (slice_index_or t.locations loc.0 [] ++ codes "=")

register-flat : (core name value more rest : List ℕ) → ((codes " " ++ (core ++ (codes ":" ++ (name ++ (codes "=" ++ value))))) ++ more) ++ rest
    ≡ (codes " " ++ (core ++ (codes ":" ++ (name ++ codes "=")))) ++ (value ++ (more ++ rest))
register-flat core name value more rest = simp append_assoc

value-flat : (t : Litmus) (named : Named) (value : ℕ) (more rest : List ℕ)
    → (printed_value t named value ++ more) ++ rest ≡ value_label t named ++ (decimal value ++ (more ++ rest))
value-flat t (Register core reg) value more rest = register-flat (decimal core.0) (name_of reg) (decimal value) more rest
value-flat t (Location loc) value more rest = labelled-flat (slice_index_or t.locations loc.0 []) (decimal value) more rest

values-filled : (t : Litmus) (names : List Named) (values rest : List ℕ)
    → printed_values t names values ++ rest ≡ filled (map (value_label t) names) values rest
values-filled t (named ∷ names) (value ∷ values) rest =
    value-flat t named value (printed_values t names values) rest
    ∙ ap (λ (l : List ℕ). value_label t named ++ (decimal value ++ l)) (values-filled t names values rest)
values-filled t [] values rest = refl
values-filled t (named ∷ names) [] rest = refl

value-labels : (t : Litmus) (names : List Named) → list_all is_label (map (value_label t) names) ≡ true
value-labels t names = labels-are (value_label t) names each
  where
    each : (named : Named) → is_label (value_label t named) ≡ true
    each (Register core reg) = refl
    each (Location loc) = refl

pub values-cut : (t : Litmus) (names : List Named) (xs ys rest other : List ℕ)
    → length xs ≡ length names
    → length ys ≡ length names
    → All IsWord xs
    → All IsWord ys
    → Stops rest → Stops other → printed_values t names xs ++ rest ≡ printed_values t names ys ++ other → (xs ≡ ys) × (rest ≡ other)
values-cut t names xs ys rest other m n p q stops stops' e =
    let size = sym (length-map names (value_label t)) in
    filled-cut (map (value_label t) names) xs ys rest other (value-labels t names) (m ∙ size) (n ∙ size) (words-small xs p) (words-small ys q) stops stops'
    (sym (values-filled t names xs rest) ∙ (e ∙ values-filled t names ys other))

-- ---- the states

-- the text doesn't begin as the line of a state does
abbrev pub NoState : List ℕ → Type 0
NoState rest = (83 == get_or rest 0 0) ≡ false

-- a state of the test, and how many runs ended in it
abbrev StateFits : Litmus → List ℕ × ℕ → Type 0
StateFits t state = IsStateOf t state.0 × (state.1 < 2 ^ 64)

abbrev state_text : Litmus → List ℕ × ℕ → List ℕ
state_text t state = codes "State " ++ (decimal state.1 ++ line (printed_values t (looked_at t) state.0))

state-flat : (count values rest : List ℕ) → (codes "State " ++ (count ++ line values)) ++ rest ≡ codes "State " ++ (count ++ (values ++ 10 ∷ rest))
state-flat count values rest = simp append_assoc

state-cut : (t : Litmus) → Tells (StateFits t) (λ rest. Unit) (state_text t) (λ state. state)
state-cut t x y rest other p q f f' e =
    let names = looked_at t in
    let numbers = λ (state : List ℕ × ℕ). state.1 ∷ state.0 in
    let labels = codes "State " ∷ map (value_label t) names in
    let split = λ (state : List ℕ × ℕ) (after : List ℕ). state-flat (decimal state.1) (printed_values t names state.0) after
    ∙ ap (λ (l : List ℕ). codes "State " ++ (decimal state.1 ++ l)) (values-filled t names state.0 (10 ∷ after)) in
    let size = length-map names (value_label t) in
    let cut =
    filled-cut labels (numbers x) (numbers y) (10 ∷ rest) (10 ∷ other) (value-labels t names)
    (ap suc (p.0.each ∙ sym size)) (ap suc (q.0.each ∙ sym size))
    (p.1, words-small x.0 p.0.words) (q.1, words-small y.0 q.0.words) refl refl (sym (split x rest) ∙ (e ∙ split y other)) in
    ((λ i. (drop 1 (cut.0 i), get_or (cut.0 i) 0 0)), append_cancel_left (10 ∷ []) rest other cut.1)

counts-few : (states : List (List ℕ × ℕ)) → sum (values_of states) < 2 ^ 64 → All (λ state. state.1 < 2 ^ 64) states
counts-few [] few = All-nil (λ (state : List ℕ × ℕ). state.1 < 2 ^ 64)
counts-few (state ∷ states) few =
    let all = sum_by-cons (λ (n : ℕ). n) state.1 (values_of states) in
    All-cons (λ (state : List ℕ × ℕ). state.1 < 2 ^ 64) state states (omega (arith, few, all)) (counts-few states (omega (arith, few, all)))

states-cut : (t : Litmus) (xs ys : List (List ℕ × ℕ)) (rest other : List ℕ) → All (λ state. IsStateOf t state.0) xs → All (λ state. IsStateOf t state.0) ys
    → sum (values_of xs) < 2 ^ 64 → sum (values_of ys) < 2 ^ 64 → NoState rest → NoState other
    → counted_state_lines t xs ++ rest ≡ counted_state_lines t ys ++ other → (xs ≡ ys) × (rest ≡ other)
states-cut t xs ys rest other p q m n f f' e =
    let fit = λ (states : List (List ℕ × ℕ)) (are : All (λ state. IsStateOf t state.0) states) (few : sum (values_of states) < 2 ^ 64).
    both-fit (λ (state : List ℕ × ℕ). IsStateOf t state.0) (λ (state : List ℕ × ℕ). state.1 < 2 ^ 64) states are (counts-few states few) in
    let cut =
    list-cut (StateFits t) (λ rest. Unit) NoState (λ n. state_text t) (λ n. counted_state_lines t) (λ state. state)
    (λ n. refl) (λ n x xs. refl) (λ n. state-cut t) (λ n xs rest all f. tt)
    (λ n x more rest fits f e. unlike 0 _ rest f e) 0 xs ys rest other (fit xs p m) (fit ys q n) f f' e in
    (all-told xs ys cut.0, cut.1)

-- ---- the first line

sweep-filled : (from seeds size ended unfinished rest : List ℕ)
    → (codes "Sweep from="
    ++ (from
    ++ (codes " seeds="
    ++ (seeds
    ++ (codes " length=" ++ (size ++ line (codes " ended=" ++ (ended ++ (codes " unfinished=" ++ unfinished)))))))))
    ++ rest
    ≡ (codes "Sweep from=" ++ (from ++ codes " seeds="))
    ++ (seeds
    ++ ((codes " length=" ++ (size ++ codes " ended="))
    ++ (ended ++ (codes " unfinished=" ++ (unfinished ++ 10 ∷ rest)))))
sweep-filled from seeds size ended unfinished rest = simp append_assoc

sweep-line-cut : (e u e' u' from size : ℕ) (rest other : List ℕ) → e + u < 2 ^ 64 → e' + u' < 2 ^ 64
    → sweep_line e u from size ++ rest ≡ sweep_line e' u' from size ++ other → (u ≡ u') × (rest ≡ other)
sweep-line-cut e u e' u' from size rest other p q same =
    let flat = λ (ended unfinished : ℕ) (after : List ℕ).
    sweep-filled (decimal from) (decimal (ended + unfinished)) (decimal size) (decimal ended) (decimal unfinished) after in
    let labels =
    (codes "Sweep from=" ++ (decimal from ++ codes " seeds="))
    ∷ (codes " length=" ++ (decimal size ++ codes " ended=")) ∷ codes " unfinished=" ∷ [] in
    let cut =
    filled-cut labels ((e + u) ∷ e ∷ u ∷ []) ((e' + u') ∷ e' ∷ u' ∷ []) (10 ∷ rest) (10 ∷ other) refl refl refl
    (p, (omega (arith, p), (omega (arith, p), tt))) (q, (omega (arith, q), (omega (arith, q), tt))) refl refl
    (sym (flat e u rest) ∙ (same ∙ flat e' u' other)) in
    (ap (λ (l : List ℕ). get_or l 2 0) cut.0, append_cancel_left (10 ∷ []) rest other cut.1)

-- ---- the verdicts

-- of the three words each begins with another byte
word-cut : (never always never' always' : Bool) (rest other : List ℕ)
    → cond never (codes "Never") (cond always (codes "Always") (codes "Sometimes")) ++ rest
    ≡ cond never' (codes "Never") (cond always' (codes "Always") (codes "Sometimes")) ++ other
    → rest ≡ other
word-cut true a true b rest other e = append_cancel_left (codes "Never") rest other e
word-cut false true false true rest other e = append_cancel_left (codes "Always") rest other e
word-cut false false false false rest other e = append_cancel_left (codes "Sometimes") rest other e
word-cut true a false true rest other e = unlike 0 (codes "Never" ++ rest) (codes "Always" ++ other) refl e
word-cut true a false false rest other e = unlike 0 (codes "Never" ++ rest) (codes "Sometimes" ++ other) refl e
word-cut never always never' always' rest other e = unlike 0 _ _ refl e

observed-flat : (name word held failed : List ℕ)
    → codes "Observation " ++ (name ++ line (codes " " ++ (word ++ (codes " " ++ (held ++ (codes " " ++ failed))))))
    ≡ (codes "Observation " ++ (name ++ codes " ")) ++ (word ++ (codes " " ++ (held ++ (codes " " ++ (failed ++ 10 ∷ [])))))
observed-flat name word held failed = simp append_assoc

pub observed-told : (name : List ℕ) (h f h' f' : ℕ)
    → h < 2 ^ 64
    → f < 2 ^ 64
    → h' < 2 ^ 64
    → f' < 2 ^ 64
    → observed_line name h f ≡ observed_line name h' f'
    → (h ≡ h') × (f ≡ f')
observed-told name h f h' f' p q p' q' e =
    let labels = codes " " ∷ codes " " ∷ [] in
    let flat = sym (observed-flat name (frequency h f) (decimal h) (decimal f)) ∙ (e ∙ observed-flat name (frequency h' f') (decimal h') (decimal f')) in
    let counts = word-cut (h == 0) (f == 0) (h' == 0) (f' == 0) (filled labels (h ∷ f ∷ []) (10 ∷ [])) (filled labels (h' ∷ f' ∷ []) (10 ∷ []))
    (append_cancel_left (codes "Observation " ++ (name ++ codes " ")) _ _ flat) in
    let cut = filled-cut labels (h ∷ f ∷ []) (h' ∷ f' ∷ []) (10 ∷ []) (10 ∷ []) refl refl refl (p, (q, tt)) (p', (q', tt)) refl refl counts in
    (ap (λ (l : List ℕ). get_or l 0 0) cut.0, ap (λ (l : List ℕ). get_or l 1 0) cut.0)

no-state : (name : List ℕ) (condition : Option Condition) (held failed : ℕ) → NoState (observation name condition held failed)
no-state name None held failed = refl
no-state name (Some c) held failed = refl

verdicts-told : (name : List ℕ) (condition : Option Condition) (h f h' f' ended ended' : ℕ)
    → h + f ≡ cond (is_some condition) ended 0
    → h' + f' ≡ cond (is_some condition) ended' 0
    → ended < 2 ^ 64 → ended' < 2 ^ 64 → observation name condition h f ≡ observation name condition h' f' → (h ≡ h') × (f ≡ f')
verdicts-told name None h f h' f' ended ended' p q m n e = (omega (arith, p, q), omega (arith, p, q))
verdicts-told name (Some c) h f h' f' ended ended' p q m n e =
    observed-told name h f h' f' (omega (arith, p)) (omega (arith, p)) (omega (arith, q)) (omega (arith, q)) e

-- ---- all lines

pub counts-told : SweepsTellTheirCounts
counts-told t kind c plan a b p q e =
    let seen = λ (r : RunCounts). observation t.name t.condition r.held r.failed in
    let states = λ (r : RunCounts). counted_state_lines t r.states ++ seen r in
    let tallied = append_cancel_left (head t kind c) (tally_text t a plan.from plan.length) (tally_text t b plan.from plan.length) e in
    let first = sweep-line-cut (ended_in a) a.unfinished (ended_in b) b.unfinished plan.from plan.length (states a) (states b) p.few q.few tallied in
    let few = p.few in
    let few' = q.few in
    let second = states-cut t a.states b.states (seen a) (seen b) p.states q.states (omega (arith, few)) (omega (arith, few'))
    (no-state t.name t.condition a.held a.failed) (no-state t.name t.condition b.held b.failed) first.1 in
    let third =
    verdicts-told t.name t.condition a.held a.failed b.held b.failed (ended_in a) (ended_in b) p.verdicts q.verdicts
    (omega (arith, few)) (omega (arith, few')) second.1 in
    λ i. record { states = second.0 i; held = third.0 i; failed = third.1 i; unfinished = first.0 i }
