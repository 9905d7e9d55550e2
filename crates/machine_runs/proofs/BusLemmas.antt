-- Runs on either bus: the choices with the caches' answers, and what an ended run leaves.
use Rattle.machine_runs.proofs.Vocabulary.{◌≡◌, ℕ, zero, suc, arith, true, List, [], ◌∷◌, ◌++◌, length, append-nil, refl, sym, ap, subst}
use Rattle.machine_runs.proofs.Vocabulary.{◌∙◌, Litmus, IsTest, IsWellFormed, well-formed, IsTsoExecution, KeepsAllOrder, State, start, Run, run, Free, Attempt}
use Rattle.machine_runs.proofs.Vocabulary.{BusState, BusRun, unheld, run_on, after_on, choices_in, HitsFit, put_together, together, Bus}
use Rattle.machine_runs.proofs.Vocabulary.{Atomic, Split, Choice, Entry, IsExecution, EndOn, waiting, IsFlatRun, Table, Caches, attempt_of}
use Rattle.machine_runs.proofs.Vocabulary.{use_on, Configuration, run_by, AnswersFitBy}
use Rattle.tso_terms.specs.FinalState.{final_words, final_registers}
use Rattle.tso_laws.specs.EndedRuns.{registers_in}
use Rattle.tso_laws.specs.Words.{HoldsWords}
use Rattle.tso_laws.specs.BusLaws.{AtomicRunsAreFlatRuns}
use Rattle.multiprocessor.specs.Answered.{answered, answered_from}

-- ---- the answers leave the choices as they are

choices-answered : (bus : Bus) (t : Litmus) (depth : ℕ) (state : BusState) (c : Caches) (choices : List Choice)
    → choices_in (answered_from bus t depth state c choices) ≡ choices
choices-answered bus t depth state c [] = refl
choices-answered bus t depth state c (x ∷ xs) =
    ap (λ (cs : List Choice). x ∷ cs)
    (choices-answered bus t depth (after_on bus t depth state (attempt_of t depth state.flat c x)) (use_on bus t depth state x c).caches xs)

pub length-answered : (bus : Bus) (t : Litmus) (depth : ℕ) (state : BusState) (c : Caches) (choices : List Choice)
    → length (answered_from bus t depth state c choices) ≡ length choices
length-answered bus t depth state c [] = refl
length-answered bus t depth state c (x ∷ xs) =
    ap suc (length-answered bus t depth (after_on bus t depth state (attempt_of t depth state.flat c x)) (use_on bus t depth state x c).caches xs)

-- the choices with their answers, and the run on the machine's bus
abbrev pub attempts_in : Table → Configuration → Litmus → List Choice → List Attempt
attempts_in table c t choices = answered c.bus table c.shape t c.depth choices

abbrev pub bus_run : Table → Configuration → Litmus → List Choice → BusRun
bus_run table c t choices = run_on c.bus t c.depth (attempts_in table c t choices)

pub choices-in : (table : Table) (c : Configuration) (t : Litmus) (choices : List Choice) → choices_in (attempts_in table c t choices) ≡ choices
choices-in table c t choices = choices-answered c.bus t c.depth _ _ choices

pub length-in : (table : Table) (c : Configuration) (t : Litmus) (choices : List Choice) → length (attempts_in table c t choices) ≡ length choices
length-in table c t choices = length-answered c.bus t c.depth _ _ choices

-- ---- the run on either bus, with the parts of locked instructions put together

together-same : (r : Run) → put_together r.commits ≡ r.commits → together r ≡ r
together-same r same =
    (λ i. record { ended = r.ended; state = r.state; commits = same i; used = r.used; stalled = r.stalled; unused = r.unused })

run-by : (bus : Bus) (table : Table) (c : Configuration) (t : Litmus) (choices : List Choice) → AtomicRunsAreFlatRuns
    → run_by bus table c t choices ≡ together (run_on bus t c.depth (answered bus table c.shape t c.depth choices)).run
run-by Atomic table c t choices laws =
    let attempts = answered Atomic table c.shape t c.depth choices in
    let same : (run_on Atomic t c.depth attempts).run ≡ run t c.depth choices =
    laws.atomic t c.depth attempts ∙ ap (λ (cs : List Choice). run t c.depth cs) (choices-answered Atomic t c.depth _ _ choices) in
    sym (ap together same ∙ together-same (run t c.depth choices) (laws.together t c.depth choices))
run-by Split table c t choices laws = refl

pub run-is : (table : Table) (c : Configuration) (t : Litmus) (choices : List Choice) → AtomicRunsAreFlatRuns
    → run_by c.bus table c t choices ≡ together (bus_run table c t choices).run
run-is table c t choices laws = run-by c.bus table c t choices laws

-- on the atomic bus it is the flat machine's run
pub atomic-run : (table : Table) (c : Configuration) (t : Litmus) (choices : List Choice)
    → c.bus ≡ Atomic
    → run_by c.bus table c t choices ≡ run t c.depth choices
atomic-run table c t choices is = ap (λ (b : Bus). run_by b table c t choices) is

-- ---- what an ended run leaves

-- what the laws of either bus, and those of the flat machine, say of ended runs
pub record EndedRuns : Type 0 where
  pub atomic : AtomicRunsAreFlatRuns
  pub flat : (bus : Bus) (t : Litmus) (depth : ℕ) (attempts : List Attempt)
      → HitsFit bus t depth (unheld (start t)) attempts
      → IsFlatRun bus t depth attempts (run_on bus t depth attempts)
  pub free : (bus : Bus) (t : Litmus) (depth : ℕ) (attempts : List Attempt) → EndOn bus t depth attempts → (run_on bus t depth attempts).holder ≡ Free
  pub executions : (t : Litmus) (depth : ℕ) (choices : List Choice) → IsWellFormed t → (run t depth choices).ended ≡ true → IsExecution t (run t depth choices)
  pub words : (t : Litmus) (depth : ℕ) (choices : List Choice) → IsWellFormed t → HoldsWords (run t depth choices).commits (run t depth choices).state

-- a run of the flat machine leaves the same
record Followed (t : Litmus) (depth : ℕ) (r : Run) : Type 0 where
  choices : List Choice
  ended : (run t depth choices).ended ≡ true
  state : (run t depth choices).state ≡ r.state
  commits : (run t depth choices).commits ≡ r.commits

followed : (table : Table) (c : Configuration) (t : Litmus) (choices : List Choice) → EndedRuns → AnswersFitBy table c t choices
    → (run_by c.bus table c t choices).ended ≡ true → Followed t c.depth (run_by c.bus table c t choices)
followed table c t choices laws fit ended =
    let attempts = attempts_in table c t choices in
    let is = run-is table c t choices laws.atomic in
    let over : EndOn c.bus t c.depth attempts = sym (ap (λ (r : Run). r.ended) is) ∙ ended in
    let flat = laws.flat c.bus t c.depth attempts fit in
    let alone : waiting (bus_run table c t choices).holder ≡ [] = ap waiting (laws.free c.bus t c.depth attempts over) in
    subst (λ (r : Run). Followed t c.depth r) (sym is)
    (record {
      choices = flat.choices;
      ended = flat.ended ∙ over;
      state = flat.state;
      commits =
          sym (ap (λ (es : List Entry). (run t c.depth flat.choices).commits ++ es) alone ∙ append-nil (run t c.depth flat.choices).commits)
          ∙ flat.commits;
    })

execution-of : (t : Litmus) (r u : Run) → r.state ≡ u.state → r.commits ≡ u.commits → IsExecution t r → IsExecution t u
execution-of t r u state commits e = record {
  order = subst (IsTsoExecution t) commits e.order;
  memory = sym (ap (λ (s : State). s.memory) state) ∙ e.memory ∙ ap (λ (es : List Entry). final_words t es) commits;
  registers = sym (ap (λ (s : State). registers_in s) state) ∙ e.registers ∙ ap (λ (es : List Entry). final_registers t es) commits;
}

pub ended-execution : (table : Table) (c : Configuration) (t : Litmus) (choices : List Choice) → EndedRuns → IsTest t → AnswersFitBy table c t choices
    → (run_by c.bus table c t choices).ended ≡ true → IsExecution t (run_by c.bus table c t choices)
ended-execution table c t choices laws test fit ended =
    let f = followed table c t choices laws fit ended in
    execution-of t (run t c.depth f.choices) (run_by c.bus table c t choices) f.state f.commits
    (laws.executions t c.depth f.choices (well-formed t test) f.ended)

pub ended-words : (table : Table) (c : Configuration) (t : Litmus) (choices : List Choice) → EndedRuns → IsTest t → AnswersFitBy table c t choices
    → (run_by c.bus table c t choices).ended ≡ true → HoldsWords (run_by c.bus table c t choices).commits (run_by c.bus table c t choices).state
ended-words table c t choices laws test fit ended =
    let r = run_by c.bus table c t choices in
    let f = followed table c t choices laws fit ended in
    subst (λ (s : State). HoldsWords r.commits s) f.state
    (subst (λ (es : List Entry). HoldsWords es (run t c.depth f.choices).state) f.commits (laws.words t c.depth f.choices (well-formed t test)))

-- without buffers its order keeps program order without exception
abbrev pub UnbufferedRuns : Type 0
UnbufferedRuns = (bus : Bus) (t : Litmus) (attempts : List Attempt) → IsWellFormed t → HitsFit bus t 0 (unheld (start t)) attempts → EndOn bus t 0 attempts
    → KeepsAllOrder (put_together (run_on bus t 0 attempts).run.commits)

at-depth : (bus : Bus) (t : Litmus) (depth : ℕ) (attempts : List Attempt)
    → UnbufferedRuns
    → depth ≡ 0
    → IsTest t
    → HitsFit bus t depth (unheld (start t)) attempts
    → EndOn bus t depth attempts → KeepsAllOrder (put_together (run_on bus t depth attempts).run.commits)
at-depth bus t zero attempts law none test fit over = law bus t attempts (well-formed t test) fit over
at-depth bus t (suc n) attempts law none test fit over = absurd (omega arith)

pub ended-all-order : (table : Table) (c : Configuration) (t : Litmus) (choices : List Choice)
    → AtomicRunsAreFlatRuns
    → UnbufferedRuns
    → c.depth ≡ 0
    → IsTest t
    → AnswersFitBy table c t choices
    → (run_by c.bus table c t choices).ended ≡ true → KeepsAllOrder (run_by c.bus table c t choices).commits
ended-all-order table c t choices atomic law none test fit ended =
    let is = run-is table c t choices atomic in
    let over : EndOn c.bus t c.depth (attempts_in table c t choices) = sym (ap (λ (r : Run). r.ended) is) ∙ ended in
    subst (λ (r : Run). KeepsAllOrder r.commits) (sym is) (at-depth c.bus t c.depth (attempts_in table c t choices) law none test fit over)

pub atomic-fit : (table : Table) (c : Configuration) (t : Litmus) (choices : List Choice)
    → ((t : Litmus) (depth : ℕ) (attempts : List Attempt) → HitsFit Atomic t depth (unheld (start t)) attempts)
    → c.bus ≡ Atomic
    → AnswersFitBy table c t choices
atomic-fit table c t choices fit is =
    subst (λ (b : Bus). HitsFit b t c.depth (unheld (start t)) (answered b table c.shape t c.depth choices)) (sym is) (fit t c.depth _)
