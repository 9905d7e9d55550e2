-- What is counted of a plan's runs fits their test.
use Rattle.tso_cli.proofs.Vocabulary.{◌≡◌, ℕ, zero, suc, ◌+◌, ◌<◌, Bool, true, false, cond, List, [], ◌∷◌, map, All, slice_index}
use Rattle.tso_cli.proofs.Vocabulary.{slice_index_or, Option, Some, None, is_some, refl, sym, subst, ◌∙◌, arith, option_map, nat_cmp}
use Rattle.tso_cli.proofs.Vocabulary.{match_ordering, slice_cmp, insert_entry, length-map, All-head, All-tail, All-cons, All-nil, All-map}
use Rattle.tso_cli.proofs.Vocabulary.{Litmus, IsTest, Condition, truth_of, registers_in, IsWord, AreRegisters, index_of, Run, table_of}
use Rattle.tso_cli.proofs.Vocabulary.{ProtocolKind, Configuration, Named, RunCounts, looked_at, shown_value, values_in, count_of_runs}
use Rattle.tso_cli.proofs.Vocabulary.{with_state_counted, with_verdict, ended_in, runs_in, AnswersFit, verdict, choices_of, seeded_run}
use Rattle.tso_cli.proofs.Vocabulary.{with_one_run, counts_from, Ascend, ascend-none, sum-with, ascend-run, runs-with, IsStateAt, IsStateOf}
use Rattle.tso_cli.proofs.Vocabulary.{SweptCountsFit}
use Rattle.std.specs.declared.cmp.Ordering.{Ordering}
use Rattle.std.specs.declared.cmp.Ordering.TheVariants.{Less, Equal, Greater}
use Rattle.tso_report.specs.declared.named.Named.TheVariants.{Register, Location}
use Rattle.tso_cli.proofs.HeadlineLemmas.{Runs}

-- ---- the values of a state are words

word-at : (xs : List ℕ) (i : ℕ) → All IsWord xs → IsWord (slice_index xs i)
word-at [] i all = omega arith
word-at (x ∷ xs) zero all = All-head IsWord x xs all
word-at (x ∷ xs) (suc i) all = word-at xs i (All-tail IsWord x xs all)

words-of-core : (all : List (List ℕ)) (i : ℕ) → All AreRegisters all → All IsWord (slice_index_or all i [])
words-of-core [] i are = All-nil IsWord
words-of-core (r ∷ rs) zero are = (All-head AreRegisters r rs are).words
words-of-core (r ∷ rs) (suc i) are = words-of-core rs i (All-tail AreRegisters r rs are)

value-is-word : (registers : List (List ℕ)) (memory : List ℕ) (named : Named)
    → All AreRegisters registers
    → All IsWord memory
    → IsWord (shown_value registers memory named)
value-is-word registers memory (Register core reg) are words = word-at (slice_index_or registers core.0 []) (index_of reg) (words-of-core registers core.0 are)
value-is-word registers memory (Location loc) are words = word-at memory loc.0 words

values-are-words : (registers : List (List ℕ)) (memory : List ℕ) (names : List Named)
    → All AreRegisters registers
    → All IsWord memory
    → All IsWord (map (shown_value registers memory) names)
values-are-words registers memory [] are words = All-nil IsWord
values-are-words registers memory (named ∷ names) are words =
    All-cons IsWord (shown_value registers memory named) (map (shown_value registers memory) names)
    (value-is-word registers memory named are words) (values-are-words registers memory names are words)

pub is-state-at : (names : List Named) (registers : List (List ℕ)) (memory : List ℕ) → All AreRegisters registers → All IsWord memory
    → IsStateAt names (map (shown_value registers memory) names)
is-state-at names registers memory are words = record {
  each = length-map names (shown_value registers memory);
  words = values-are-words registers memory names are words;
}

is-state : (t : Litmus) (registers : List (List ℕ)) (memory : List ℕ)
    → All AreRegisters registers
    → All IsWord memory
    → IsStateOf t (values_in t registers memory)
is-state t = is-state-at (looked_at t)

-- ---- one more run

AreStates : Litmus → List (List ℕ × ℕ) → Type 0
AreStates t states = All (λ state. IsStateOf t state.0) states

one-more : (t : Litmus) (values : List ℕ) (n : ℕ) (states : List (List ℕ × ℕ))
    → IsStateOf t values
    → AreStates t states
    → AreStates t (insert_entry (slice_cmp nat_cmp) states values n)
unfolding AreStates
one-more t values n [] is all = All-cons (λ (state : List ℕ × ℕ). IsStateOf t state.0) (values, n) [] is all
one-more t values n (s ∷ states) is all =
    by_order (slice_cmp nat_cmp values s.0) (one-more t values n states is (All-tail (λ (state : List ℕ × ℕ). IsStateOf t state.0) s states all))
  where
    by_order : (o : Ordering) → All (λ (state : List ℕ × ℕ). IsStateOf t state.0) (insert_entry (slice_cmp nat_cmp) states values n)
        → All (λ (state : List ℕ × ℕ). IsStateOf t state.0)
        (match_ordering o ((values, n) ∷ s ∷ states) ((s.0, n) ∷ states) (s ∷ insert_entry (slice_cmp nat_cmp) states values n))
    by_order Less further = All-cons (λ (state : List ℕ × ℕ). IsStateOf t state.0) (values, n) (s ∷ states) is all
    by_order Equal further =
        All-cons (λ (state : List ℕ × ℕ). IsStateOf t state.0) (s.0, n) states
        (All-head (λ (state : List ℕ × ℕ). IsStateOf t state.0) s states all)
        (All-tail (λ (state : List ℕ × ℕ). IsStateOf t state.0) s states all)
    by_order Greater further =
        All-cons (λ (state : List ℕ × ℕ). IsStateOf t state.0) s (insert_entry (slice_cmp nat_cmp) states values n)
        (All-head (λ (state : List ℕ × ℕ). IsStateOf t state.0) s states all) further

states-judged : (o : Option Bool) (c : RunCounts) → (with_verdict o c).states ≡ c.states
states-judged None c = refl
states-judged (Some true) c = refl
states-judged (Some false) c = refl

-- each run that ended made the proposition true or false, if there is one
abbrev AreJudged : Option Condition → RunCounts → Type 0
AreJudged condition c = c.held + c.failed ≡ cond (is_some condition) (ended_in c) 0

judged-one : (b : Bool) (c : RunCounts) (before : ℕ)
    → c.held + c.failed ≡ before
    → ended_in c ≡ before + 1
    → (with_verdict (Some b) c).held + (with_verdict (Some b) c).failed ≡ ended_in (with_verdict (Some b) c)
judged-one true c before h e = omega (arith, h, e)
judged-one false c before h e = omega (arith, h, e)

judged-with : (f : Condition → Bool) (condition : Option Condition) (c : RunCounts) (before : ℕ)
    → c.held + c.failed ≡ cond (is_some condition) before 0
    → ended_in c ≡ before + 1
    → AreJudged condition (with_verdict (option_map f condition) c)
judged-with f None c before h e = h
judged-with f (Some condition) c before h e = judged-one (f condition) c before h e

record Kept (t : Litmus) (c : RunCounts) (n : ℕ) : Type 0 where
  ascend : Ascend c.states
  states : AreStates t c.states
  verdicts : AreJudged t.condition c
  runs : runs_in c ≡ n

states-with : (t : Litmus) (r : Run) (c : RunCounts)
    → (r.ended ≡ true → IsStateOf t (values_in t (registers_in r.state) r.state.memory))
    → AreStates t c.states
    → AreStates t (with_one_run t r c).states
states-with t r c law all = by_end r.ended law
  where
    by_end : (b : Bool) → (b ≡ true → IsStateOf t (values_in t (registers_in r.state) r.state.memory))
        → AreStates t (cond b (with_verdict (verdict t (registers_in r.state) r.state.memory)
        (with_state_counted (values_in t (registers_in r.state) r.state.memory) c))
        (record c { unfinished = c.unfinished + 1 })).states
    by_end true law =
        let v = values_in t (registers_in r.state) r.state.memory in
        subst (AreStates t)
        (sym (states-judged (verdict t (registers_in r.state) r.state.memory) (with_state_counted v c)))
        (one-more t v (count_of_runs v c.states + 1) c.states (law refl) all)
    by_end false law = all

judged-run : (t : Litmus) (r : Run) (c : RunCounts) → Ascend c.states → AreJudged t.condition c → AreJudged t.condition (with_one_run t r c)
judged-run t r c s h = by_end r.ended
  where
    by_end : (b : Bool)
        → AreJudged t.condition (cond b
        (with_verdict (verdict t (registers_in r.state) r.state.memory) (with_state_counted (values_in t (registers_in r.state) r.state.memory) c))
        (record c { unfinished = c.unfinished + 1 }))
    by_end true =
        let v = values_in t (registers_in r.state) r.state.memory in
        judged-with
        (λ (k : Condition). truth_of (registers_in r.state) r.state.memory k.claim) t.condition (with_state_counted v c)
        (ended_in c) h (sum-with v c.states s)
    by_end false = h

kept-with : (t : Litmus) (r : Run) (c : RunCounts) (n : ℕ)
    → (r.ended ≡ true → IsStateOf t (values_in t (registers_in r.state) r.state.memory))
    → Kept t c n
    → Kept t (with_one_run t r c) (suc n)
kept-with t r c n law k = record {
  ascend = ascend-run t r c k.ascend;
  states = states-with t r c law k.states;
  verdicts = judged-run t r c k.ascend k.verdicts;
  runs = runs-with t r c k.ascend ∙ (let was = k.runs in omega (arith, was));
}

-- ---- all runs

either-way : (n : ℕ) (condition : Option Condition) → n ≡ cond (is_some condition) n n
either-way n None = refl
either-way n (Some condition) = refl

kept-from : Runs
    → (t : Litmus) (kind : ProtocolKind) (c : Configuration) (count from seeds : ℕ)
    → IsTest t
    → ((n : ℕ) → n < seeds → AnswersFit t kind c (choices_of t count (from + n)))
    → Kept t (counts_from t kind c count from seeds) seeds
unfolding AreStates
kept-from runs t kind c count from zero test fit = record {
  ascend = ascend-none;
  states = All-nil (λ (state : List ℕ × ℕ). IsStateOf t state.0);
  verdicts = either-way 0 t.condition;
  runs = refl;
}
kept-from runs t kind c count from (suc seeds) test fit =
    let r = seeded_run t kind c count (from + seeds) in
    kept-with t r (counts_from t kind c count from seeds) seeds
    (λ ended.
    let words = runs.words (table_of kind) c t (choices_of t count (from + seeds)) test (fit seeds (omega arith)) ended in
    is-state t (registers_in r.state) r.state.memory (All-map AreRegisters (λ core. core.registers) r.state.cores words.registers) words.memory)
    (kept-from runs t kind c count from seeds test (λ n small. fit n (omega (arith, small))))

pub counts-fit : Runs → SweptCountsFit
unfolding AreStates
counts-fit runs t kind c plan test few fit =
    let k = kept-from runs t kind c plan.length plan.from plan.seeds test fit in
    let all = k.runs in
    record { states = k.states; verdicts = k.verdicts; few = omega (arith, all, few) }
