-- The states that two cores with a store each can reach: how far the one is, and how far the other.
use Rattle.std.proofs.Common.{◌≡◌, ◌∙◌, ◌<◌, ◌+◌, ◌-◌, ℕ, zero, suc, Bool, true, false, ◌||◌, List, [], ◌∷◌, ◌++◌, map, length, Some}
use Rattle.std.proofs.Common.{slice_get, slice_index_or, refl, sym, ap, subst, arith}
use Rattle.std.specs.List.{IsDistinct, AllByRecursion, list_any}
use Rattle.std.proofs.Math.Dec.{eqb}
use Rattle.std.proofs.lemmas.Bool.{ne_eqb, eqb-true}
use Rattle.std.proofs.lemmas.List.{length-map}
use Rattle.std.proofs.lemmas.Map.Keys.{IsDistinct-cons}
use Rattle.std.proofs.lemmas.Map.Steps.{length-le_from_distinct_below}
use Rattle.tso_terms.specs.Runs.{CoresExist}
use Rattle.tso_terms.specs.FlatMachine.{CoreState, State, start, after_choice, chosen, core_of}
use Rattle.basic_laws.specs.Types.{Choice, Step, Drain, W}
use Rattle.tso_laws.specs.Choices.{state_after}
use Rattle.explorer.specs.FinalStates.{IsReachable, HasMoreStates}
use Rattle.worked_examples.specs.Written.{loc_x, loc_y, step, drain, memory_action, core_at}
use Rattle.worked_examples.specs.ReachableStates.{two_stores}
use Rattle.worked_examples.specs.inner.SharedBus.{first_of_p0, first_of_p1}

-- the core's store is still to come, pending, or in memory
data Stage : Type 0 where
  to_come : Stage
  pending : Stage
  stored : Stage

abbrev p0 : Stage → CoreState
p0 to_come = core_at 0 first_of_p0 []
p0 pending = core_at 1 first_of_p0 (memory_action 0 0 W loc_x 7 ∷ [])
p0 stored = core_at 1 first_of_p0 []

abbrev p1 : Stage → CoreState
p1 to_come = core_at 0 first_of_p1 []
p1 pending = core_at 1 first_of_p1 (memory_action 1 0 W loc_y 8 ∷ [])
p1 stored = core_at 1 first_of_p1 []

abbrev word : ℕ → ℕ → Stage → ℕ
word old new to_come = old
word old new pending = old
word old new stored = new

abbrev at : Stage → Stage → State
at a b = record { memory = word 3 7 a ∷ word 4 8 b ∷ []; cores = p0 a ∷ p1 b ∷ [] }

record IsOneOfNine (s : State) : Type 0 where
  first : Stage
  second : Stage
  is : s ≡ at first second

-- ---- no choice leads to another

abbrev stepped : Stage → Stage
stepped to_come = pending
stepped pending = pending
stepped stored = stored

abbrev drained : Stage → Stage
drained to_come = to_come
drained pending = stored
drained stored = stored

step-p0 : (a b : Stage) → after_choice two_stores 1 (at a b) (step 0) ≡ at (stepped a) b
step-p0 to_come b = refl
step-p0 a b = refl

drain-p0 : (a b : Stage) → after_choice two_stores 1 (at a b) (drain 0) ≡ at (drained a) b
drain-p0 to_come b = refl
drain-p0 a b = refl

step-p1 : (a b : Stage) → after_choice two_stores 1 (at a b) (step 1) ≡ at a (stepped b)
step-p1 a to_come = refl
step-p1 a b = refl

drain-p1 : (a b : Stage) → after_choice two_stores 1 (at a b) (drain 1) ≡ at a (drained b)
drain-p1 a to_come = refl
drain-p1 a b = refl

of-step : (core : ℕ) → core < 2 → (a b : Stage) → IsOneOfNine (after_choice two_stores 1 (at a b) (step core))
of-step zero small a b = record { first = stepped a; second = b; is = step-p0 a b }
of-step (suc zero) small a b = record { first = a; second = stepped b; is = step-p1 a b }
of-step (suc (suc core)) small a b = absurd (omega (arith, small))

of-drain : (core : ℕ) → core < 2 → (a b : Stage) → IsOneOfNine (after_choice two_stores 1 (at a b) (drain core))
of-drain zero small a b = record { first = drained a; second = b; is = drain-p0 a b }
of-drain (suc zero) small a b = record { first = a; second = drained b; is = drain-p1 a b }
of-drain (suc (suc core)) small a b = absurd (omega (arith, small))

of-choice : (c : Choice) → chosen c < 2 → (a b : Stage) → IsOneOfNine (after_choice two_stores 1 (at a b) c)
of-choice (Step core) small a b = of-step core.0 small a b
of-choice (Drain core) small a b = of-drain core.0 small a b

of-choices : (choices : List Choice) (s : State) → CoresExist 2 choices → IsOneOfNine s → IsOneOfNine (state_after two_stores 1 s choices)
of-choices [] s cores is = is
of-choices (c ∷ cs) s cores is =
    of-choices cs (after_choice two_stores 1 s c) cores.1
    (subst (λ z. IsOneOfNine (after_choice two_stores 1 z c)) (sym is.is) (of-choice c cores.0 is.first is.second))

reached-is : (s : State) → IsReachable two_stores 1 s → IsOneOfNine s
reached-is s r = subst IsOneOfNine r.state_is (of-choices r.choices (start two_stores) r.cores (record { first = to_come; second = to_come; is = refl }))

-- ---- they have numbers from 0 to 8

abbrev progress : CoreState → ℕ
progress c = (c.place + c.place) - length c.pending

abbrev number : State → ℕ
number s = progress (core_of s 0) + (progress (core_of s 0) + (progress (core_of s 0) + progress (core_of s 1)))

nine : List State
nine =
    at to_come to_come ∷ at to_come pending ∷ at to_come stored ∷ at pending to_come ∷ at pending pending
    ∷ at pending stored ∷ at stored to_come ∷ at stored pending ∷ at stored stored ∷ []

numbered : (a b : Stage) → (slice_index_or nine (number (at a b)) (start two_stores) ≡ at a b) × (number (at a b) < 9)
unfolding nine
numbered to_come to_come = (refl, omega arith)
numbered a to_come = (refl, omega arith)
numbered a b = (refl, omega arith)

known : (s : State) → IsOneOfNine s → (slice_index_or nine (number s) (start two_stores) ≡ s) × (number s < 9)
known s is = subst (λ z. (slice_index_or nine (number z) (start two_stores) ≡ z) × (number z < 9)) (sym is.is) (numbered is.first is.second)

one-number : (s z : State) → IsOneOfNine s → IsOneOfNine z → number s ≡ number z → s ≡ z
one-number s z is too same = sym (known s is).0 ∙ ap (λ n. slice_index_or nine n (start two_stores)) same ∙ (known z too).0

-- ---- so many states that differ are nine at most

abbrev AreOfNine : List State → Type 0
AreOfNine states = (i : ℕ) (s : State) → slice_get states i ≡ Some s → IsOneOfNine s

others-differ : (s : State) (states : List State) → IsOneOfNine s → AreOfNine states → ((i : ℕ) → slice_get states i ≡ Some s → ⊥)
    → AllByRecursion (λ n. eqb (number s) n ≡ false) (map number states)
others-differ s [] is each never = tt
others-differ s (z ∷ states) is each never = (
  ne_eqb (number s) (number z) (λ same. never 0 (ap Some (sym (one-number s z is (each 0 z refl) same)))),
  others-differ s states is (λ i. each (suc i)) (λ i. never (suc i)),
)

numbers-differ : (states : List State) → AreOfNine states → ((i j : ℕ) (s : State) → slice_get states i ≡ Some s → slice_get states j ≡ Some s → i ≡ j)
    → IsDistinct eqb (map number states)
unfolding IsDistinct
numbers-differ [] each distinct = tt
numbers-differ (s ∷ states) each distinct =
    IsDistinct-cons eqb (number s) (map number states)
    (others-differ s states (each 0 s refl) (λ i. each (suc i)) (λ i there. let same = distinct 0 (suc i) s refl there in omega (arith, same)))
    (numbers-differ states (λ i. each (suc i)) (λ i j z p q. let same = distinct (suc i) (suc j) z p q in omega (arith, same)))

below-nine : (states : List State) → AreOfNine states → (n : ℕ) → list_any (eqb n) (map number states) ≡ true → n < 9
below-nine [] each n there = absurd (let no : ⊥ = cc in no)
below-nine (s ∷ states) each n there = by (eqb n (number s)) refl there (below-nine states (λ i. each (suc i)) n)
  where
    by : (b : Bool) → eqb n (number s) ≡ b → (b || list_any (eqb n) (map number states)) ≡ true → (list_any (eqb n) (map number states) ≡ true → n < 9) → n < 9
    by true same there further = let is = eqb-true n (number s) same in let small = (known s (each 0 s refl)).1 in omega (arith, is, small)
    by false differ there further = further there

pub no-tenth : HasMoreStates two_stores 1 9 → ⊥
no-tenth more =
    let each : AreOfNine more.states = λ i s there. reached-is s (more.reachable i s there) in
    let few = length-le_from_distinct_below (map number more.states) 9 (numbers-differ more.states each more.distinct) (below-nine more.states each) in
    let size = length-map more.states number in
    let many = more.more in
    omega (arith, few, size, many)

-- ---- each of them is reached

abbrev way_of : ℕ → Stage → List Choice
way_of core to_come = []
way_of core pending = step core ∷ []
way_of core stored = step core ∷ drain core ∷ []

at-reached : (a b : Stage) → IsReachable two_stores 1 (at a b)
at-reached a b = record { choices = way_of 0 a ++ way_of 1 b; cores = cores a b; state_is = leads a b }
  where
    of-second : (b : Stage) → CoresExist 2 (way_of 1 b)
    of-second to_come = tt
    of-second pending = (omega arith, tt)
    of-second stored = (omega arith, (omega arith, tt))

    cores : (a b : Stage) → CoresExist 2 (way_of 0 a ++ way_of 1 b)
    cores to_come b = of-second b
    cores pending b = (omega arith, of-second b)
    cores stored b = (omega arith, (omega arith, of-second b))

    leads : (a b : Stage) → state_after two_stores 1 (start two_stores) (way_of 0 a ++ way_of 1 b) ≡ at a b
    leads to_come to_come = refl
    leads a to_come = refl
    leads a b = refl

-- which is at a place
at-place : (i : ℕ) (s : State) → slice_get nine i ≡ Some s → (a : Stage) × (b : Stage) × (at a b ≡ s) × (number (at a b) ≡ i)
unfolding nine
at-place zero s there = (to_come, to_come, (let is : at to_come to_come ≡ s = cc in is), refl)
at-place (suc zero) s there = (to_come, pending, (let is : at to_come pending ≡ s = cc in is), refl)
at-place (suc (suc zero)) s there = (to_come, stored, (let is : at to_come stored ≡ s = cc in is), refl)
at-place (suc (suc (suc zero))) s there = (pending, to_come, (let is : at pending to_come ≡ s = cc in is), refl)
at-place (suc (suc (suc (suc zero)))) s there = (pending, pending, (let is : at pending pending ≡ s = cc in is), refl)
at-place (suc (suc (suc (suc (suc zero))))) s there = (pending, stored, (let is : at pending stored ≡ s = cc in is), refl)
at-place (suc (suc (suc (suc (suc (suc zero)))))) s there = (stored, to_come, (let is : at stored to_come ≡ s = cc in is), refl)
at-place (suc (suc (suc (suc (suc (suc (suc zero))))))) s there = (stored, pending, (let is : at stored pending ≡ s = cc in is), refl)
at-place (suc (suc (suc (suc (suc (suc (suc (suc zero)))))))) s there = (stored, stored, (let is : at stored stored ≡ s = cc in is), refl)
at-place (suc (suc (suc (suc (suc (suc (suc (suc (suc i))))))))) s there = absurd (let no : ⊥ = cc in no)

placed : (i : ℕ) (s : State) → slice_get nine i ≡ Some s → number s ≡ i
placed i s there = let found = at-place i s there in ap number (sym found.2) ∙ found.3

pub nine-states : HasMoreStates two_stores 1 8
unfolding nine
nine-states = record {
  states = nine;
  reachable = λ i s there. let found = at-place i s there in subst (IsReachable two_stores 1) found.2 (at-reached found.0 found.1);
  distinct = λ i j s p q. sym (placed i s p) ∙ placed j s q;
  more = omega arith;
}
