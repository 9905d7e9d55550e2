-- What is counted of a sweep, and what that means: the final states of TSO executions.
use Rattle.tso_cli.proofs.Vocabulary.{◌≡◌, ◌<◌, ◌≤◌, ◌⊎◌, inl, inr, ◌+◌, ℕ, zero, suc, Bool, true, false, not, cond, List, Option, Some}
use Rattle.tso_cli.proofs.Vocabulary.{None, IfSome, is_none, All, Contains, refl, sym, ap, subst, ◌∙◌, arith, bytes_eq-Decides, option_map}
use Rattle.tso_cli.proofs.Vocabulary.{keys_of, registers_in, Litmus, IsTsoExecution, KeepsAllOrder, Condition, truth_of, final_words}
use Rattle.tso_cli.proofs.Vocabulary.{final_registers, Run, Atomic, Choice, Entry, IsExecution, ProtocolKind, Configuration, RunCounts}
use Rattle.tso_cli.proofs.Vocabulary.{with_state_counted, with_verdict, values_in, count_of_runs, runs_in, counted_state_line, Plan}
use Rattle.tso_cli.proofs.Vocabulary.{run_under, AnswersFit, verdict, IsSweepAnswer, choices_of, seeded_run, with_one_run, counts_from}
use Rattle.tso_cli.proofs.Vocabulary.{sweep_counts, final_values, has_values, has_truth, seeds_from, HasPart, PrintsSweep, Status, States}
use Rattle.tso_cli.proofs.Vocabulary.{Ascend, EachGiven, count-with, ascend-none, each-counted, counted-there, values-left, one}
use Rattle.tso_cli.proofs.Vocabulary.{states-judged, unfinished-judged, held-judged, failed-judged, ascend-run, given-run, runs-with}
use Rattle.std.specs.Prelude.{bytes_eq}
use Rattle.tso_cli.proofs.SweptLines.{each-line}

-- the order of a run that ended
abbrev order_in : Run → Option (List Entry)
order_in r = cond r.ended (Some r.commits) None

-- ---- one more run

states-with : (t : Litmus) (r : Run) (c : RunCounts) (v : List ℕ) → (r.ended ≡ true → IsExecution t r)
    → count_of_runs v (with_one_run t r c).states ≡ count_of_runs v c.states + one (has_values t v (order_in r))
states-with t r c v law = by_end r.ended law
  where
    by_end : (b : Bool) → (b ≡ true → IsExecution t r)
        → count_of_runs v (cond b
        (with_verdict (verdict t (registers_in r.state) r.state.memory) (with_state_counted (values-left t r) c))
        (record c { unfinished = c.unfinished + 1 })).states
        ≡ count_of_runs v c.states + one (has_values t v (cond b (Some r.commits) None))
    by_end true law =
        let e = law refl in
        ap (λ (s : States). count_of_runs v s) (states-judged (verdict t (registers_in r.state) r.state.memory) (with_state_counted (values-left t r) c))
        ∙ count-with v (values-left t r) c.states
        ∙ ap (λ (w : List ℕ). count_of_runs v c.states + one (bytes_eq v w))
        (ap (λ (g : List (List ℕ)). values_in t g r.state.memory) e.registers
        ∙ ap (λ (m : List ℕ). values_in t (final_registers t r.commits) m) e.memory)
    by_end false law = omega arith

unfinished-with : (t : Litmus) (r : Run) (c : RunCounts) → (with_one_run t r c).unfinished ≡ c.unfinished + one (is_none (order_in r))
unfinished-with t r c = by_end r.ended
  where
    by_end : (b : Bool)
        → (cond b
        (with_verdict (verdict t (registers_in r.state) r.state.memory) (with_state_counted (values-left t r) c))
        (record c { unfinished = c.unfinished + 1 })).unfinished
        ≡ c.unfinished + one (is_none (cond b (Some r.commits) None))
    by_end true =
        let same : (with_verdict (verdict t (registers_in r.state) r.state.memory)
        (with_state_counted (values-left t r) c)).unfinished
        ≡ c.unfinished =
        unfinished-judged _ _ in
        omega arith
    by_end false = refl

-- the truth of the condition where a run ended
abbrev truth-left : Condition → Run → Bool
truth-left k r = truth_of (registers_in r.state) r.state.memory k.claim

same-truth : (t : Litmus) (k : Condition) (r : Run)
    → IsExecution t r
    → truth-left k r ≡ truth_of (final_registers t r.commits) (final_words t r.commits) k.claim
same-truth t k r e =
    ap (λ (g : List (List ℕ)). truth_of g r.state.memory k.claim) e.registers ∙ ap (λ (m : List ℕ). truth_of (final_registers t r.commits) m k.claim) e.memory

held-with : (t : Litmus) (r : Run) (c : RunCounts) (k : Condition) → t.condition ≡ Some k → (r.ended ≡ true → IsExecution t r)
    → (with_one_run t r c).held ≡ c.held + one (has_truth t k.claim true (order_in r))
held-with t r c k is law = by_end r.ended law
  where
    by_end : (b : Bool) → (b ≡ true → IsExecution t r)
        → (cond b
        (with_verdict (verdict t (registers_in r.state) r.state.memory) (with_state_counted (values-left t r) c))
        (record c { unfinished = c.unfinished + 1 })).held
        ≡ c.held + one (has_truth t k.claim true (cond b (Some r.commits) None))
    by_end true law =
        ap (λ (o : Option Condition). (with_verdict (option_map (λ (k : Condition). truth-left k r) o) (with_state_counted (values-left t r) c)).held) is
        ∙ held-judged (truth-left k r) (with_state_counted (values-left t r) c) ∙ ap (λ (b : Bool). c.held + one b) (same-truth t k r (law refl))
    by_end false law = omega arith

failed-with : (t : Litmus) (r : Run) (c : RunCounts) (k : Condition) → t.condition ≡ Some k → (r.ended ≡ true → IsExecution t r)
    → (with_one_run t r c).failed ≡ c.failed + one (has_truth t k.claim false (order_in r))
failed-with t r c k is law = by_end r.ended law
  where
    by_end : (b : Bool) → (b ≡ true → IsExecution t r)
        → (cond b
        (with_verdict (verdict t (registers_in r.state) r.state.memory) (with_state_counted (values-left t r) c))
        (record c { unfinished = c.unfinished + 1 })).failed
        ≡ c.failed + one (has_truth t k.claim false (cond b (Some r.commits) None))
    by_end true law =
        ap (λ (o : Option Condition). (with_verdict (option_map (λ (k : Condition). truth-left k r) o) (with_state_counted (values-left t r) c)).failed) is
        ∙ failed-judged (truth-left k r) (with_state_counted (values-left t r) c) ∙ ap (λ (b : Bool). c.failed + one (not b)) (same-truth t k r (law refl))
    by_end false law = omega arith

-- ---- all runs of a sweep

module _ (t : Litmus) (kind : ProtocolKind) (c : Configuration) (count from : ℕ) where
  abbrev after : ℕ → RunCounts
  after n = counts_from t kind c count from n

  ascend : (n : ℕ) → Ascend (after n).states
  ascend zero = ascend-none
  ascend (suc n) = ascend-run t (seeded_run t kind c count (from + n)) (after n) (ascend n)

  given : (n : ℕ) → EachGiven (after n).states
  given zero = λ k d l. absurd (omega arith)
  given (suc n) = given-run t (seeded_run t kind c count (from + n)) (after n) (given n)

  pub runs-are : (n : ℕ) → runs_in (after n) ≡ n
  runs-are zero = refl
  runs-are (suc n) = let one-more = runs-with t (seeded_run t kind c count (from + n)) (after n) (ascend n) in let before = runs-are n in omega arith

-- each run of the seeds that ended is a TSO execution of the test
abbrev AreExecutionsFrom : Litmus → ProtocolKind → Configuration → ℕ → ℕ → ℕ → Type 0
AreExecutionsFrom t kind c count from seeds =
    (n : ℕ) → n < seeds → (seeded_run t kind c count (from + n)).ended ≡ true → IsExecution t (seeded_run t kind c count (from + n))

fewer : (t : Litmus) (kind : ProtocolKind) (c : Configuration) (count from n : ℕ)
    → AreExecutionsFrom t kind c count from (suc n)
    → AreExecutionsFrom t kind c count from n
fewer t kind c count from n law = λ k l. law k (omega arith)

last : (t : Litmus) (kind : ProtocolKind) (c : Configuration) (count from n : ℕ) → AreExecutionsFrom t kind c count from (suc n)
    → (seeded_run t kind c count (from + n)).ended ≡ true → IsExecution t (seeded_run t kind c count (from + n))
last t kind c count from n law = law n (omega arith)

module _ (t : Litmus) (kind : ProtocolKind) (c : Configuration) (count from : ℕ) where
  abbrev order_of : ℕ → Option (List Entry)
  order_of seed = order_in (seeded_run t kind c count seed)

  found : (v : List ℕ) (n : ℕ) → AreExecutionsFrom t kind c count from n
      → count_of_runs v (after t kind c count from n).states ≡ seeds_from (λ seed. has_values t v (order_of seed)) from n
  found v zero law = refl
  found v (suc n) law =
      let one-more = states-with t (seeded_run t kind c count (from + n)) (after t kind c count from n) v (last t kind c count from n law) in
      let before = found v n (fewer t kind c count from n law) in omega arith

  unfinished-are : (n : ℕ) → (after t kind c count from n).unfinished ≡ seeds_from (λ seed. is_none (order_of seed)) from n
  unfinished-are zero = refl
  unfinished-are (suc n) =
      let one-more = unfinished-with t (seeded_run t kind c count (from + n)) (after t kind c count from n) in let before = unfinished-are n in omega arith

  held-are : (k : Condition) → t.condition ≡ Some k → (n : ℕ) → AreExecutionsFrom t kind c count from n
      → (after t kind c count from n).held ≡ seeds_from (λ seed. has_truth t k.claim true (order_of seed)) from n
  held-are k is zero law = refl
  held-are k is (suc n) law =
      let one-more = held-with t (seeded_run t kind c count (from + n)) (after t kind c count from n) k is (last t kind c count from n law) in
      let before = held-are k is n (fewer t kind c count from n law) in omega arith

  failed-are : (k : Condition) → t.condition ≡ Some k → (n : ℕ) → AreExecutionsFrom t kind c count from n
      → (after t kind c count from n).failed ≡ seeds_from (λ seed. has_truth t k.claim false (order_of seed)) from n
  failed-are k is zero law = refl
  failed-are k is (suc n) law =
      let one-more = failed-with t (seeded_run t kind c count (from + n)) (after t kind c count from n) k is (last t kind c count from n law) in
      let before = failed-are k is n (fewer t kind c count from n law) in omega arith

-- a run that is an execution if it ended
execution-is : (t : Litmus) (r : Run) → (r.ended ≡ true → IsExecution t r) → IfSome (order_in r) (IsTsoExecution t)
execution-is t r law = by_end r.ended refl
  where
    by_end : (b : Bool) → r.ended ≡ b → IfSome (cond b (Some r.commits) None) (IsTsoExecution t)
    by_end true e = (law e).order
    by_end false e = tt

-- and whose order keeps program order without exception if it ended
all-order-is : (r : Run) → (r.ended ≡ true → KeepsAllOrder r.commits) → IfSome (order_in r) KeepsAllOrder
all-order-is r law = by_end r.ended refl
  where
    by_end : (b : Bool) → r.ended ≡ b → IfSome (cond b (Some r.commits) None) KeepsAllOrder
    by_end true e = law e
    by_end false e = tt

-- ---- the final state of each run that ended is among those that are counted

le-cases : (a b : ℕ) → a ≤ b → (a < b) ⊎ (a ≡ b)
le-cases a b h = grind arith

-- a seed that passes a test is counted
seeds-some : (test : ℕ → Bool) (from n seeds : ℕ) → n < seeds → test (from + n) ≡ true → 0 < seeds_from test from seeds
seeds-some test from n zero below passed = absurd (omega arith)
seeds-some test from n (suc seeds) below passed = by_place (le-cases n seeds (omega arith)) (λ less. seeds-some test from n seeds less passed)
  where
    by_place : (n < seeds) ⊎ (n ≡ seeds) → (n < seeds → 0 < seeds_from test from seeds) → 0 < seeds_from test from seeds + one (test (from + seeds))
    by_place (inl less) before = let earlier = before less in omega arith
    by_place (inr is) before =
        let here : test (from + seeds) ≡ true = subst (λ (k : ℕ). test (from + k) ≡ true) is passed in
        let counted : one (test (from + seeds)) ≡ 1 = ap (λ (b : Bool). one b) here in omega arith

among : (t : Litmus) (order_of : ℕ → Option (List Entry)) (states : States) (from n seeds : ℕ)
    → ((v : List ℕ) → count_of_runs v states ≡ seeds_from (λ seed. has_values t v (order_of seed)) from seeds) → n < seeds
    → IfSome (order_of (from + n)) (λ order. Contains (keys_of states) (final_values t order))
among t order_of states from n seeds counts below = by_end (order_of (from + n)) refl
  where
    by_end : (o : Option (List Entry)) → order_of (from + n) ≡ o → IfSome o (λ order. Contains (keys_of states) (final_values t order))
    by_end None e = tt
    by_end (Some order) e =
        let v = final_values t order in
        let has : has_values t v (order_of (from + n)) ≡ true =
        ap (λ (o : Option (List Entry)). has_values t v o) e ∙ (bytes_eq-Decides v v).1 refl in
        let some : 0 < seeds_from (λ seed. has_values t v (order_of seed)) from seeds =
        seeds-some (λ seed. has_values t v (order_of seed)) from n seeds below has in
        counted-there v states (subst (λ (k : ℕ). 0 < k) (sym (counts v)) some)

where-there-is : (o : Option Condition) (P : Condition → Type 0) → ((k : Condition) → o ≡ Some k → P k) → IfSome o P
where-there-is None P f = tt
where-there-is (Some k) P f = f k refl

pub sweep-means : (t : Litmus) (kind : ProtocolKind) (c : Configuration) (plan : Plan) (out : List ℕ) (status : Status)
    → ((choices : List Choice) → AnswersFit t kind c choices → (run_under t kind c choices).ended ≡ true → IsExecution t (run_under t kind c choices))
    → ((choices : List Choice)
    → c.depth ≡ 0
    → AnswersFit t kind c choices
    → (run_under t kind c choices).ended ≡ true
    → KeepsAllOrder (run_under t kind c choices).commits)
    → ((choices : List Choice) → c.bus ≡ Atomic → AnswersFit t kind c choices)
    → IsSweepAnswer t kind c plan out status → PrintsSweep t kind c plan (λ choices. run_under t kind c choices) out
sweep-means t kind c plan out status executions all fit is =
    let count = plan.length in
    let from = plan.from in
    let seeds = plan.seeds in
    let law : AreExecutionsFrom t kind c count from seeds = λ n l. executions (choices_of t count (from + n)) (is.answers n l) in
    record {
      counts = sweep_counts t kind c plan;
      printed = is.text;
      runs = runs-are t kind c count from seeds;
      executions = λ n l. execution-is t (seeded_run t kind c count (from + n)) (law n l);
      every_seed = λ atomic seed. execution-is t (seeded_run t kind c count seed) (executions (choices_of t count seed) (fit (choices_of t count seed) atomic));
      unbuffered = λ none n l. all-order-is (seeded_run t kind c count (from + n)) (all (choices_of t count (from + n)) none (is.answers n l));
      ascending = ascend t kind c count from seeds;
      lines =
          subst
          (λ (o : List ℕ). All (λ state. HasPart o (counted_state_line t state)) (sweep_counts t kind c plan).states)
          (sym is.text) (each-line t kind c plan (sweep_counts t kind c plan));
      complete = λ n l.
          among t (λ seed. order_in (seeded_run t kind c count seed)) (sweep_counts t kind c plan).states from n seeds
          (λ v. found t kind c count from v seeds law) l;
      states =
          each-counted (sweep_counts t kind c plan).states _ (ascend t kind c count from seeds)
          (given t kind c count from seeds) (λ v. found t kind c count from v seeds law);
      held = where-there-is t.condition _ (λ k there. held-are t kind c count from k there seeds law);
      failed = where-there-is t.condition _ (λ k there. failed-are t kind c count from k there seeds law);
      unfinished = unfinished-are t kind c count from seeds;
    }
