-- The report of a run is short, and what `check` answers to it.
use Rattle.tso_cli.proofs.Vocabulary.{Instructions, ◌≡◌, ◌+◌, ◌-◌, ◌*◌, ◌≤◌, ◌^◌, ℕ, suc, Bool, true, false, cond, List, [], ◌∷◌, ◌++◌}
use Rattle.tso_cli.proofs.Vocabulary.{length, All, slice_index, slice_index_or, length-append, codes, refl, sym, ap, subst, ◌∙◌}
use Rattle.tso_cli.proofs.Vocabulary.{arith, All-map, All-head, All-tail, All-weaker, SpellsOrder, Litmus, IsTest, well-formed, IsProgram, AreRegisters}
use Rattle.tso_cli.proofs.Vocabulary.{made_by, made_from, IsTsoExecution, read_values, registers_from, start, Run, has_ended, stall_count}
use Rattle.tso_cli.proofs.Vocabulary.{Bus, Instr, Entry, Choice, IsExecution, SpellsTest, Table, table_of, ProtocolKind, Configuration}
use Rattle.tso_cli.proofs.Vocabulary.{IsConfigurationWithinLimits, report, ShownRun, Parts, parts_of, joined_parts, valid_line, run_by}
use Rattle.tso_cli.proofs.Vocabulary.{run_under, AnswersFit, counts_under, shown_of, IsInputAnswer, too_large, answered, run_text}
use Rattle.tso_cli.proofs.Vocabulary.{run_status, IsRunAnswer, IsCheckAnswer, ran, Status, Good, Unended, attempts_in, length-in, run-is}
use Rattle.tso_cli.proofs.Vocabulary.{RunLaws, counts-each, counts-few, AreReadOneWay}
use Rattle.tso_terms.specs.Thread.{entries_of, entries_by, registers_by, values_after}
use Rattle.tso_terms.specs.Actions.{action_of}
use Rattle.tso_terms.specs.declared.action.Action.{Action}
use Rattle.tso_terms.specs.declared.action.Action.TheVariants.{Store, Load, Move, Fence, Lock}
use Rattle.tso_terms.specs.SplitMachine.{Attempt}
use Rattle.tso_terms.specs.EitherBus.{BusState, unheld, effect_on, after_on, run_on_from, resting_on, then_on}
use Rattle.basic_laws.specs.Types.{Outcome, Committed}
use Rattle.litmus_reader.specs.Spelling.{IsRefused as IsRefusedTest}
use Rattle.tso_report.specs.Limits.{longest_report, IsSmall}
use Rattle.tso_cli.specs.Answers.{refused}
use Rattle.tso_cli.specs.CommandAnswers.{refused}
use Rattle.command_line.specs.declared.settings.Settings.TheVariants as settings
use Rattle.tso_cli.proofs.CheckLemmas.{order-for, valid-answer}
use Rattle.tso_cli.proofs.HeadlineLemmas.{Runs, report-spells}

-- ---- how much a run leaves

made_by_one : (core place : ℕ) (a : Action) (registers : List ℕ) (word : ℕ) → length (entries_by core place a registers word) ≤ 2
made_by_one core place (Store loc operand) registers word = omega arith
made_by_one core place (Load reg loc) registers word = omega arith
made_by_one core place (Move change) registers word = omega arith
made_by_one core place Fence registers word = omega arith
made_by_one core place (Lock loc target update) registers word = omega arith

entries_few : (core place : ℕ) (program : List Instr) (registers reads : List ℕ) → length (entries_of core place program registers reads) ≤ 2 * length program
entries_few core place [] registers reads = omega arith
entries_few core place (i ∷ rest) registers reads =
    let here = made_by_one core place (action_of i) registers (slice_index reads 0) in
    let further = entries_few core (place + 1) rest (registers_by (action_of i) registers (slice_index reads 0)) (values_after (action_of i) reads) in
    let both = length-append (entries_by core place (action_of i) registers (slice_index reads 0))
    (entries_of core (place + 1) rest (registers_by (action_of i) registers (slice_index reads 0)) (values_after (action_of i) reads)) in
    omega (arith, here, further, both)

made_few : (core : ℕ) (programs : List (List Instr)) (registers : List (List ℕ)) (order : List Entry) → All (λ p. length p ≤ 32) programs
    → length (made_from core programs registers order) ≤ 64 * length programs
made_few core [] registers order h = omega arith
made_few core (p ∷ ps) registers order h =
    let here : length p ≤ 32 = All-head (λ (p : List Instr). length p ≤ 32) p ps h in
    let first = entries_few core 0 p (slice_index_or registers core []) (read_values core 0 p order) in
    let further = made_few (core + 1) ps registers order (All-tail (λ (p : List Instr). length p ≤ 32) p ps h) in
    omega (arith, length-append (made_by core p (slice_index_or registers core []) order) (made_from (core + 1) ps registers order))

order_few : (t : Litmus) (order : List Entry) → IsTest t → IsTsoExecution t order → length order ≤ 512
order_few t order test execution =
    let sizes : All (λ p. length p ≤ 32) t.programs =
    All-weaker (IsProgram (length t.locations)) (λ (p : List Instr). length p ≤ 32) (λ p fits. fits.size) t.programs test.programs_fit in
    let cores = test.cores in
    let count = execution.whole.count in
    let few = made_few 0 t.programs t.registers order sizes in
    omega arith

pub registers_each : (core : ℕ) (programs : List (List Instr)) (registers : List (List ℕ)) (order : List Entry)
    → length (registers_from core programs registers order) ≡ length programs
registers_each core [] registers order = refl
registers_each core (p ∷ ps) registers order = ap suc (registers_each (core + 1) ps registers order)

stall_few : (o : Outcome) → stall_count o ≤ 1
stall_few Committed = omega arith
stall_few o = omega arith

stalls_few : (bus : Bus) (t : Litmus) (depth : ℕ) (state : BusState) (xs : List Attempt)
    → (run_on_from bus t depth state xs).run.stalled ≤ (run_on_from bus t depth state xs).run.used
stalls_few bus t depth state [] = omega arith
stalls_few bus t depth state (x ∷ xs) = by_end (has_ended t state.flat) (stalls_few bus t depth (after_on bus t depth state x) xs)
  where
    by_end : (b : Bool)
        → (run_on_from bus t depth (after_on bus t depth state x) xs).run.stalled
        ≤ (run_on_from bus t depth (after_on bus t depth state x) xs).run.used
        → (cond b (resting_on true state (length (x ∷ xs)))
        (then_on (effect_on bus t depth state x) (run_on_from bus t depth (after_on bus t depth state x) xs))).run.stalled
        ≤ (cond b (resting_on true state (length (x ∷ xs)))
        (then_on (effect_on bus t depth state x) (run_on_from bus t depth (after_on bus t depth state x) xs))).run.used
    by_end true h = omega arith
    by_end false h = let one = stall_few (effect_on bus t depth state x).effect.outcome in omega arith

-- the counts of choices of a run
pub record FewChoices (n : ℕ) (r : Run) : Type 0 where
  pub count : r.used + r.unused ≡ n
  pub stalls : r.stalled ≤ r.used

pub choices-few : (table : Table) (c : Configuration) (t : Litmus) (choices : List Choice)
    → RunLaws
    → FewChoices (length choices) (run_by c.bus table c t choices)
choices-few table c t choices laws =
    subst (λ (r : Run). FewChoices (length choices) r) (sym (run-is table c t choices laws.atomic))
    (record {
      count = (laws.stops.stops c.bus t c.depth (attempts_in table c t choices)).count ∙ length-in table c t choices;
      stalls = stalls_few c.bus t c.depth (unheld (start t)) (attempts_in table c t choices);
    })

pub small-run : (t : Litmus) (kind : ProtocolKind) (c : Configuration) (choices : List Choice)
    → Runs
    → RunLaws
    → IsTest t
    → length choices ≤ 100000
    → AnswersFit t kind c choices
    → (run_under t kind c choices).ended ≡ true → IsSmall t (shown_of t (counts_under t kind c choices) (run_under t kind c choices))
small-run t kind c choices laws runs test few fit ended =
    let r = run_under t kind c choices in
    let execution : IsExecution t r = laws.executions (table_of kind) c t choices test fit ended in
    let words = laws.words (table_of kind) c t choices test fit ended in
    let made = choices-few (table_of kind) c t choices runs in
    let count = made.count in
    let stalls = made.stalls in
    let cores = test.cores in
    let each = ap (λ (l : List (List ℕ)). length l) execution.registers ∙ registers_each 0 t.programs t.registers r.commits in
    record {
      entries = order_few t r.commits test execution.order;
      order = order-for t r.commits test (λ e stands. laws.fits t r.commits e (well-formed t test) execution.order.whole stands) words.values;
      cores = omega (arith, each);
      registers = All-map AreRegisters (λ core. core.registers) r.state.cores words.registers;
      memory = words.memory;
      caches = omega (arith, counts-each c.bus (table_of kind) c.shape t c.depth choices);
      counts = counts-few c.bus (table_of kind) c.shape t c.depth choices (2 ^ 32 - 1) (omega arith);
      used = omega arith;
      stalled = omega arith;
      unused = omega arith;
    }

-- ---- the answer of `run`, and that of `check` to it

-- what is known of reports, as this file uses it
abbrev pub AreShort : Type 0
AreShort =
    (t : Litmus) (kind : ProtocolKind) (c : Configuration) (s : ShownRun)
    → IsTest t
    → IsConfigurationWithinLimits c
    → IsSmall t s
    → length (report t kind c s) ≤ longest_report

record Ended (kind : ProtocolKind) (c : Configuration) (set : Instructions) (input out : List ℕ) : Type 0 where
  t : Litmus
  choices : List Choice
  spelled : SpellsTest set (parts_of input).test t
  few : length choices ≤ 100000
  fit : AnswersFit t kind c choices
  ended : (run_under t kind c choices).ended ≡ true
  is : out ≡ run_text t kind c false (counts_under t kind c choices) (run_under t kind c choices)

good-ended : (t : Litmus) (r : Run) → run_status r ≡ Good → r.ended ≡ true
good-ended t r good = by_end r.ended refl
  where
    by_end : (b : Bool) → r.ended ≡ b → r.ended ≡ true
    by_end true e = e
    by_end false e = absurd (let other : Unended ≡ Good = subst (λ b. cond b Good Unended ≡ Good) e good in let no : ⊥ = cc in no)

run-ended : (t : Litmus) (kind : ProtocolKind) (c : Configuration) (set : Instructions) (input out : List ℕ)
    (status : Status)
    → SpellsTest set (parts_of input).test t
    → status ≡ Good → IsRunAnswer t kind c false (parts_of input).rest out status → Ended kind c set input out
run-ended t kind c set input _ _ spelled good (refused fault h) = absurd (let no : ⊥ = cc in no)
run-ended t kind c set input _ _ spelled good (ran choices read fit) =
    record { t = t; choices = choices; spelled = spelled; few = read.few; fit = fit; ended = good-ended t (run_under t kind c choices) good; is = refl }

input-ended : (kind : ProtocolKind) (c : Configuration) (set : Instructions) (input out : List ℕ) (status : Status) → status ≡ Good
    → IsInputAnswer (settings.Run kind c set false) input out status → Ended kind c set input out
input-ended kind c set input _ _ good (too_large large) = absurd (let no : ⊥ = cc in no)
input-ended kind c set input _ _ good (refused fault small is) = absurd (let no : ⊥ = cc in no)
input-ended kind c set input _ _ good (answered t out status small spelled is) = run-ended t kind c set input out status spelled good is

checked : (set : Instructions) (test out input answer : List ℕ) (status : Status) (t : Litmus) (order : List Entry)
    → AreReadOneWay
    → input ≡ joined_parts test out
    → parts_of (joined_parts test out) ≡ record { test = test; rest = out }
    → length out ≤ longest_report
    → SpellsTest set test t
    → SpellsOrder t out order
    → IsTsoExecution t order
    → IsInputAnswer (settings.Check set) input answer status → (answer ≡ valid_line) × (status ≡ Good)
checked set test out input _ _ t order laws same separated short spelled spells execution (too_large large) =
    let size : length test ≤ 65536 = laws.short set test t spelled in
    absurd (omega (arith, ap (λ (l : List ℕ). length l) same, length-append test (codes "====\n" ++ out), length-append (codes "====\n") out))
checked set test out input _ _ t order laws same separated short spelled spells execution (refused fault small is) =
    let first : (parts_of input).test ≡ test = ap (λ i. (parts_of i).test) same ∙ ap (λ (p : Parts). p.test) separated in
    absurd (laws.refused_or_not set test t fault spelled (subst (λ text. IsRefusedTest set text fault) first is))
checked set test out input _ _ t order laws same separated short spelled spells execution (answered other answer status small too is) =
    let first : (parts_of input).test ≡ test = ap (λ i. (parts_of i).test) same ∙ ap (λ (p : Parts). p.test) separated in
    let second : (parts_of input).rest ≡ out = ap (λ i. (parts_of i).rest) same ∙ ap (λ (p : Parts). p.rest) separated in
    let one : other ≡ t = laws.one_test set test other t (subst (λ text. SpellsTest set text other) first too) spelled in
    valid-answer t out order answer status laws.real laws.once laws.never_both (laws.test set test t spelled) (omega arith) spells execution
    (subst (λ (u : Litmus). IsCheckAnswer u out answer status) one (subst (λ text. IsCheckAnswer other text answer status) second is))

ended-short : (kind : ProtocolKind) (c : Configuration) (set : Instructions) (input out : List ℕ) → AreReadOneWay → Runs → RunLaws → AreShort
    → IsConfigurationWithinLimits c → Ended kind c set input out → length out ≤ longest_report
ended-short kind c set input out texts runs laws short within e =
    let test = texts.test set (parts_of input).test e.t e.spelled in
    let printed : out ≡ report e.t kind c (shown_of e.t (counts_under e.t kind c e.choices) (run_under e.t kind c e.choices)) = rw e.ended at e.is in
    subst (λ (o : List ℕ). length o ≤ longest_report) (sym printed)
    (short e.t kind c (shown_of e.t (counts_under e.t kind c e.choices) (run_under e.t kind c e.choices)) test within
    (small-run e.t kind c e.choices runs laws test e.few e.fit e.ended))

pub printed-short : (kind : ProtocolKind) (c : Configuration) (set : Instructions) (input out : List ℕ) → AreReadOneWay → Runs → RunLaws → AreShort
    → IsConfigurationWithinLimits c → IsInputAnswer (settings.Run kind c set false) input out Good → length out ≤ longest_report
printed-short kind c set input out texts runs laws short within is =
    ended-short kind c set input out texts runs laws short within (input-ended kind c set input out Good refl is)

pub rechecked : (kind : ProtocolKind) (c : Configuration) (set : Instructions) (input out answer : List ℕ) (status : Status) → AreReadOneWay → Runs → RunLaws
    → AreShort → IsConfigurationWithinLimits c → parts_of (joined_parts (parts_of input).test out) ≡ record { test = (parts_of input).test; rest = out }
    → IsInputAnswer (settings.Run kind c set false) input out Good
    → IsInputAnswer (settings.Check set) (joined_parts (parts_of input).test out) answer status
    → (answer ≡ valid_line) × (status ≡ Good)
rechecked kind c set input out answer status texts runs laws short within separated is answered_so =
    let e = input-ended kind c set input out Good refl is in
    let test = texts.test set (parts_of input).test e.t e.spelled in
    let size : length out ≤ longest_report = ended-short kind c set input out texts runs laws short within e in
    checked set (parts_of input).test out (joined_parts (parts_of input).test out) answer status e.t
    (run_under e.t kind c e.choices).commits texts refl separated size e.spelled
    (report-spells e.t kind c false e.choices out runs test within e.fit e.is e.ended refl)
    (runs.executions (table_of kind) c e.t e.choices test e.fit e.ended).order answered_so
