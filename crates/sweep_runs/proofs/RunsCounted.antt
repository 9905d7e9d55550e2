-- What one more run adds to what is counted of a sweep: the lists of values stay in ascending order, and each run is counted once.
use Rattle.sweep_runs.proofs.Vocabulary.{◌≡◌, ◌<◌, ◌≤◌, ◌⊎◌, inl, inr, ◌==◌, ◌&&◌, ◌+◌, ℕ, Bool, true, false, not, cond, List, Option, Some}
use Rattle.sweep_runs.proofs.Vocabulary.{None, refl, sym, ap, subst, ◌∙◌, arith, sum, values_of, registers_in, Litmus, Run, ProtocolKind}
use Rattle.sweep_runs.proofs.Vocabulary.{Configuration, RunCounts, with_state_counted, with_verdict, values_in, runs_in, AnswersFit}
use Rattle.sweep_runs.proofs.Vocabulary.{verdict, choices_of, with_one_run, AnswersFitFrom}
use Rattle.std.proofs.lemmas.Bool.Decides.{nat_tests}
use Rattle.sweep_runs.proofs.StateLemmas.{States, Ascend, EachGiven, ascend-with, given-with, sum-with}

abbrev pub values-left : Litmus → Run → List ℕ
values-left t r = values_in t (registers_in r.state) r.state.memory

abbrev pub one : Bool → ℕ
one b = cond b 1 0

-- ---- a verdict leaves the states, and the runs that didn't end

pub states-judged : (o : Option Bool) (c : RunCounts) → (with_verdict o c).states ≡ c.states
states-judged None c = refl
states-judged (Some true) c = refl
states-judged (Some false) c = refl

pub unfinished-judged : (o : Option Bool) (c : RunCounts) → (with_verdict o c).unfinished ≡ c.unfinished
unfinished-judged None c = refl
unfinished-judged (Some true) c = refl
unfinished-judged (Some false) c = refl

pub held-judged : (b : Bool) (c : RunCounts) → (with_verdict (Some b) c).held ≡ c.held + one b
held-judged true c = refl
held-judged false c = omega arith

pub failed-judged : (b : Bool) (c : RunCounts) → (with_verdict (Some b) c).failed ≡ c.failed + one (not b)
failed-judged true c = omega arith
failed-judged false c = refl

-- ---- one more run

pub ascend-run : (t : Litmus) (r : Run) (c : RunCounts) → Ascend c.states → Ascend (with_one_run t r c).states
ascend-run t r c s = by_end r.ended
  where
    by_end : (b : Bool)
        → Ascend (cond b
        (with_verdict (verdict t (registers_in r.state) r.state.memory) (with_state_counted (values-left t r) c))
        (record c { unfinished = c.unfinished + 1 })).states
    by_end true =
        subst Ascend
        (sym (states-judged (verdict t (registers_in r.state) r.state.memory) (with_state_counted (values-left t r) c)))
        (ascend-with (values-left t r) c.states s)
    by_end false = s

pub given-run : (t : Litmus) (r : Run) (c : RunCounts) → EachGiven c.states → EachGiven (with_one_run t r c).states
given-run t r c s = by_end r.ended
  where
    by_end : (b : Bool)
        → EachGiven (cond b
        (with_verdict (verdict t (registers_in r.state) r.state.memory) (with_state_counted (values-left t r) c))
        (record c { unfinished = c.unfinished + 1 })).states
    by_end true =
        subst EachGiven
        (sym (states-judged (verdict t (registers_in r.state) r.state.memory) (with_state_counted (values-left t r) c)))
        (given-with (values-left t r) c.states s)
    by_end false = s

pub runs-with : (t : Litmus) (r : Run) (c : RunCounts) → Ascend c.states → runs_in (with_one_run t r c) ≡ runs_in c + 1
runs-with t r c s = by_end r.ended
  where
    by_end : (b : Bool)
        → runs_in (cond b
        (with_verdict (verdict t (registers_in r.state) r.state.memory) (with_state_counted (values-left t r) c))
        (record c { unfinished = c.unfinished + 1 }))
        ≡ runs_in c + 1
    by_end true =
        let o = verdict t (registers_in r.state) r.state.memory in
        let d = with_state_counted (values-left t r) c in
        let states : sum (values_of (with_verdict o d).states) ≡ sum (values_of c.states) + 1 =
        ap (λ (s : States). sum (values_of s)) (states-judged o d) ∙ sum-with (values-left t r) c.states s in
        let unfinished : (with_verdict o d).unfinished ≡ c.unfinished = unfinished-judged o d in
        omega arith
    by_end false = omega arith

-- whether all runs ended so far
pub ended-with : (t : Litmus) (r : Run) (c : RunCounts) (b : Bool) → b ≡ (c.unfinished == 0) → (b && r.ended) ≡ ((with_one_run t r c).unfinished == 0)
ended-with t r c b is = by_end r.ended
  where
    by_end : (e : Bool)
        → (b && e) ≡ ((cond e
        (with_verdict (verdict t (registers_in r.state) r.state.memory) (with_state_counted (values-left t r) c))
        (record c { unfinished = c.unfinished + 1 })).unfinished
        == 0)
    by_end true =
        kept b
        ∙ is
        ∙ ap (λ (n : ℕ). n == 0) (sym (unfinished-judged (verdict t (registers_in r.state) r.state.memory) (with_state_counted (values-left t r) c)))
      where
        kept : (b : Bool) → (b && true) ≡ b
        kept true = refl
        kept false = refl
    by_end false = lost b ∙ sym (some c.unfinished)
      where
        lost : (b : Bool) → (b && false) ≡ false
        lost true = refl
        lost false = refl

        some : (n : ℕ) → (n + 1 == 0) ≡ false
        some n = grind (arith, nat_tests)

le-cases : (a b : ℕ) → a ≤ b → (a < b) ⊎ (a ≡ b)
le-cases a b h = grind arith

-- the answers fit for one more seed
pub fit-more : (t : Litmus) (kind : ProtocolKind) (c : Configuration) (count from seeds length seed : ℕ) → AnswersFitFrom t kind c count from seeds
    → length ≡ count → seed ≡ from + seeds → AnswersFit t kind c (choices_of t length seed) → AnswersFitFrom t kind c count from (seeds + 1)
fit-more t kind c count from seeds length seed before same_length same_seed last = λ n l. by_place n (le-cases n seeds (omega arith))
  where
    by_place : (n : ℕ) → (n < seeds) ⊎ (n ≡ seeds) → AnswersFit t kind c (choices_of t count (from + n))
    by_place n (inl below) = before n below
    by_place n (inr is) =
        subst (λ (k : ℕ). AnswersFit t kind c (choices_of t count (from + k))) (sym is)
        (subst (λ (k : ℕ). AnswersFit t kind c (choices_of t count k)) same_seed
        (subst (λ (k : ℕ). AnswersFit t kind c (choices_of t k seed)) same_length last))
