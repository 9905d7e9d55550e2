-- What the headline decides by itself.
use Rattle.tso_cli.proofs.Vocabulary.{◌≡◌, ◌<◌, ◌≤◌, ◌^◌, ◌+◌, ◌⊎◌, inl, inr, ℕ, zero, suc, Bool, true, false, cond, List, ◌++◌, length}
use Rattle.tso_cli.proofs.Vocabulary.{Option, Some, None, IfSome, Contains, refl, sym, ap, subst, ◌∙◌, arith, keys_of, bytes_eq-Decides}
use Rattle.tso_cli.proofs.Vocabulary.{Litmus, IsTest, Condition, IsTsoExecution, final_words, final_registers, Run, run, Bus, Atomic, Split}
use Rattle.tso_cli.proofs.Vocabulary.{Choice, Entry, SpellsTest, Instructions, instructions_of, TextFault, SpellsChoices}
use Rattle.tso_cli.proofs.Vocabulary.{IsRefusedAsChoices, IsDecidedAsChoices, TooMany, SpellsOrder, HasFault, OrderFault, IsFirstBreach}
use Rattle.tso_cli.proofs.Vocabulary.{Breach, ProtocolKind, Configuration, head, observation, counted_state_lines, sweep_line, ended_in}
use Rattle.tso_cli.proofs.Vocabulary.{run_counts, Plan, longest_input, Parts, parts_of, test_refusal, choices_refusal, order_refusal}
use Rattle.tso_cli.proofs.Vocabulary.{invalid_line, verdict, sweep_lines, PrintsExecution, PrintsEachRun, HeadlineOfRuns, seeded_order}
use Rattle.tso_cli.proofs.Vocabulary.{final_values, has_values, has_truth, seeds_from, seeds_with, PrintsSweep, HeadlineOfSweeps}
use Rattle.tso_cli.proofs.Vocabulary.{JudgesOrder, JudgesEachOrder, WitnessesOrder, WitnessesEachOrder, unreached, broken, HeadlineOf}
use Rattle.tso_cli.proofs.Vocabulary.{PartsHeadline, InputHeadline, ShowOneExecution, AreOneRun, AreOneTrace, AreOneWitness}
use Rattle.tso_cli.proofs.Vocabulary.{PrintsEachTrace, HeadlineOfTraces, PrintsTrace, PrintsTracedObject, PrintsTraceIn, trace_text}
use Rattle.tso_cli.proofs.Vocabulary.{trace_under, FitsForm, IsTooLong, AreReadOneWay, Settings}
use Rattle.litmus_reader.specs.Spelling.{IsRefused as IsRefusedTest, IsDecided as IsDecidedTest}
use Rattle.scheduler.specs.declared.fault.ChoiceFault.{ChoiceFault}
use Rattle.tso_cli.specs.SplitRun.{split_run}
use Rattle.tso_cli.specs.Judgement.{reached}
use Rattle.command_line.specs.declared.settings.Settings.TheVariants as settings
use Rattle.tso_cli.proofs.CountsLemmas.{one-counts-text}
use Rattle.tso_cli.proofs.OneAnswer.{short_rest}
use Rattle.tso_cli.proofs.SameStates.{one-list}
use Rattle.tso_cli.proofs.TraceLengths.{too-long-or-not, one-word}

-- each text and each order is one or the other
pub record AreDecided : Type 0 where
  pub tests : (set : Instructions) (text : List ℕ) → IsDecidedTest set text
  pub orders : (t : Litmus) (text : List ℕ) → IsTest t → length text < 2 ^ 64
      → ((order : List Entry) × SpellsOrder t text order) ⊎ ((fault : OrderFault) × HasFault t text fault)
  pub judged : (t : Litmus) (order : List Entry) → IsTsoExecution t order ⊎ ((b : Breach) × IsFirstBreach t order b)

-- ---- of `run`

module _ (t : Litmus) (kind : ProtocolKind) (c : Configuration) (json : Bool) (out other : List ℕ) where
  one-execution : (r : Run) → PrintsExecution t kind c json r out → PrintsExecution t kind c json r other → ShowOneExecution kind c json out other
  one-execution r p q =
      let order : p.shown.order ≡ q.shown.order = p.committed ∙ sym q.committed in
      let registers : p.shown.registers ≡ q.shown.registers = p.registers ∙ ap (λ (o : List Entry). final_registers t o) order ∙ sym q.registers in
      let memory : p.shown.memory ≡ q.shown.memory = p.memory ∙ ap (λ (o : List Entry). final_words t o) order ∙ sym q.memory in
      record {
        t = t;
        shown = p.shown;
        again = q.shown;
        first = p.printed;
        second = q.printed;
        order = order;
        registers = registers;
        memory = memory;
        holds =
            p.condition
            ∙ ap (λ (r : List (List ℕ)). verdict t r p.shown.memory) registers
            ∙ ap (λ (m : List ℕ). verdict t q.shown.registers m) memory
            ∙ sym q.condition;
      }

  one-run : (run_of : List Choice → Run) (text : List ℕ)
      → IsDecidedAsChoices (length t.programs) text
      → PrintsEachRun t kind c json run_of text out
      → PrintsEachRun t kind c json run_of text other
      → AreOneRun kind c json out other
  one-run run_of text decided p q = by_text decided.always
    where
      by_end : (choices : List Choice)
          → SpellsChoices (length t.programs) text choices
          → (b : Bool) → (run_of choices).ended ≡ b
          → AreOneRun kind c json out other
      by_end choices spelled true ended =
          inr (one-execution (run_of choices) ((p.every_list choices spelled).ended ended) ((q.every_list choices spelled).ended ended))
      by_end choices spelled false unended = inl ((p.every_list choices spelled).unended unended ∙ sym ((q.every_list choices spelled).unended unended))

      by_text : ((choices : List Choice) × SpellsChoices (length t.programs) text choices)
          ⊎ ((fault : ChoiceFault) × IsRefusedAsChoices (length t.programs) text fault)
          → AreOneRun kind c json out other
      by_text (inl spells) = by_end spells.0 spells.1 (run_of spells.0).ended refl
      by_text (inr faulty) =
          let none : (choices : List Choice) → ¬ (SpellsChoices (length t.programs) text choices) =
          λ choices spelled. decided.never_both choices faulty.0 spelled faulty.1 in
          let first = p.every_other none in
          let second = q.every_other none in
          inl (first.2 ∙ ap choices_refusal (decided.one_refusal first.0 second.0 first.1 second.1) ∙ sym second.2)

  one-run-on-either : (text : List ℕ)
      → IsDecidedAsChoices (length t.programs) text
      → HeadlineOfRuns t kind c json text out
      → HeadlineOfRuns t kind c json text other
      → AreOneRun kind c json out other
  one-run-on-either text decided p q = by_bus c.bus refl
    where
      by_bus : (b : Bus) → c.bus ≡ b → AreOneRun kind c json out other
      by_bus Atomic is = one-run (run t c.depth) text decided (p.atomic is) (q.atomic is)
      by_bus Split is = one-run (split_run t kind c) text decided (p.split is) (q.split is)

-- ---- of `trace`

same-text : (kind : ProtocolKind) (c : Configuration) (json : Bool) (out other : List ℕ) → out ≡ other → AreOneTrace kind c json out other
same-text kind c false out other same = inl same
same-text kind c true out other same = inl same

module _ (t : Litmus) (kind : ProtocolKind) (c : Configuration) (out other : List ℕ) where
  one-told : (r : Run) (choices : List Choice) (b : Bool)
      → r.ended ≡ b
      → PrintsTrace t kind c choices r out
      → PrintsTrace t kind c choices r other
      → AreOneTrace kind c false out other
  one-told r choices true ended first second = inr (record {
    t = t;
    steps = trace_under t kind c choices;
    rest = first.rest;
    again = second.rest;
    first = first.printed;
    second = second.printed;
    reports = one-execution t kind c false (head t kind c ++ first.rest) (head t kind c ++ second.rest) r (first.ended ended) (second.ended ended);
  })
  one-told r choices false unended first second =
      inl (first.printed
      ∙ ap (λ (rest : List ℕ). head t kind c ++ (trace_text t c.shape.words (trace_under t kind c choices) ++ rest))
      (first.unended unended ∙ sym (second.unended unended))
      ∙ sym second.printed)

  one-object : (r : Run) (choices : List Choice) (b : Bool)
      → r.ended ≡ b
      → PrintsTracedObject t kind c choices r out
      → PrintsTracedObject t kind c choices r other
      → AreOneTrace kind c true out other
  unfolding one-execution
  one-object r choices true ended p q =
      let first = p.ended ended in
      let second = q.ended ended in
      let same = one-execution t kind c true first.object second.object r first.execution second.execution in
      inr (record {
        t = t;
        choices = choices;
        shown = first.execution.shown;
        again = second.execution.shown;
        first = first.printed;
        second = second.printed;
        reports = record {
          t = t;
          shown = first.execution.shown;
          again = second.execution.shown;
          first = refl;
          second = refl;
          order = same.order;
          registers = same.registers;
          memory = same.memory;
          holds = same.holds;
        };
      })
  one-object r choices false unended p q = inl (p.unended unended ∙ sym (q.unended unended))

  one-in : (json : Bool) (r : Run) (choices : List Choice)
      → PrintsTraceIn json t kind c choices r out
      → PrintsTraceIn json t kind c choices r other
      → AreOneTrace kind c json out other
  one-in false r choices p q = one-told r choices r.ended refl p q
  one-in true r choices p q = one-object r choices r.ended refl p q

  one-trace : (json : Bool) (run_of : List Choice → Run) (text : List ℕ) → 0 < length t.programs → IsDecidedAsChoices (length t.programs) text
      → PrintsEachTrace t kind c json run_of text out → PrintsEachTrace t kind c json run_of text other → AreOneTrace kind c json out other
  one-trace json run_of text some decided p q = by_text decided.always
    where
      by_length : (choices : List Choice)
          → SpellsChoices (length t.programs) text choices
          → FitsForm json (run_of choices) ⊎ IsTooLong json (run_of choices)
          → AreOneTrace kind c json out other
      by_length choices spelled (inl short) = one-in json (run_of choices) choices (p.every_list choices spelled short) (q.every_list choices spelled short)
      by_length choices spelled (inr long) =
          let first = p.too_long choices spelled long in
          let second = q.too_long choices spelled long in
          same-text kind c json out other
          (first.2
          ∙ ap (λ (n : ℕ). choices_refusal (TooMany n)) (one-word (length t.programs) text first.0 second.0 some first.1 second.1)
          ∙ sym second.2)

      by_text : ((choices : List Choice) × SpellsChoices (length t.programs) text choices)
          ⊎ ((fault : ChoiceFault) × IsRefusedAsChoices (length t.programs) text fault)
          → AreOneTrace kind c json out other
      by_text (inl spells) = by_length spells.0 spells.1 (too-long-or-not json (run_of spells.0))
      by_text (inr faulty) =
          let none : (choices : List Choice) → ¬ (SpellsChoices (length t.programs) text choices) =
          λ choices spelled. decided.never_both choices faulty.0 spelled faulty.1 in
          let first = p.every_other none in
          let second = q.every_other none in
          same-text kind c json out other (first.2 ∙ ap choices_refusal (decided.one_refusal first.0 second.0 first.1 second.1) ∙ sym second.2)

  one-trace-on-either : (json : Bool) (text : List ℕ) → 0 < length t.programs → IsDecidedAsChoices (length t.programs) text
      → HeadlineOfTraces t kind c json text out → HeadlineOfTraces t kind c json text other → AreOneTrace kind c json out other
  one-trace-on-either json text some decided p q = by_bus c.bus refl
    where
      by_bus : (b : Bus) → c.bus ≡ b → AreOneTrace kind c json out other
      by_bus Atomic is = one-trace json (run t c.depth) text some decided (p.atomic is) (q.atomic is)
      by_bus Split is = one-trace json (split_run t kind c) text some decided (p.split is) (q.split is)

-- ---- of `sweep`

observed : (name : List ℕ) (o : Option Condition) (F G : Condition → ℕ) (h k f g : ℕ) → IfSome o (λ q. h ≡ F q) → IfSome o (λ q. k ≡ F q)
    → IfSome o (λ q. f ≡ G q) → IfSome o (λ q. g ≡ G q) → observation name o h f ≡ observation name o k g
observed name None F G h k f g held again failed too = refl
observed name (Some q) F G h k f g held again failed too =
    ap (λ (n : ℕ). observation name (Some q) n f) (held ∙ sym again) ∙ ap (λ (n : ℕ). observation name (Some q) k n) (failed ∙ sym too)

-- where a test is passed for some seed, there is a seed for which it is
seed-found : (test : ℕ → Bool) (from seeds : ℕ) → 0 < seeds_from test from seeds → (n : ℕ) × (n < seeds) × (test (from + n) ≡ true)
seed-found test from zero some = absurd (omega arith)
seed-found test from (suc seeds) some = by (test (from + seeds)) refl some (seed-found test from seeds)
  where
    by : (b : Bool) → test (from + seeds) ≡ b → 0 < seeds_from test from seeds + cond b 1 0
        → (0 < seeds_from test from seeds → (n : ℕ) × (n < seeds) × (test (from + n) ≡ true)) → (n : ℕ) × (n < suc seeds) × (test (from + n) ≡ true)
    by true is some earlier = (seeds, omega arith, is)
    by false is some earlier = let found = earlier (omega arith) in (found.0, (let below = found.1 in omega arith), found.2)

passed-there : (t : Litmus) (v : List ℕ) (keys : List (List ℕ)) (o : Option (List Entry)) → has_values t v o ≡ true
    → IfSome o (λ order. Contains keys (final_values t order)) → Contains keys v
passed-there t v keys None passed there = absurd (let no : ⊥ = cc in no)
passed-there t v keys (Some order) passed there = subst (λ (w : List ℕ). Contains keys w) (sym ((bytes_eq-Decides v (final_values t order)).0 passed)) there

has-all : (t : Litmus) (kind : ProtocolKind) (c : Configuration) (plan : Plan) (run_of : List Choice → Run)
    (out : List ℕ) (p : PrintsSweep t kind c plan run_of out) (v : List ℕ)
    → 0 < seeds_with t run_of plan (has_values t v) → Contains (keys_of p.counts.states) v
has-all t kind c plan run_of out p v some =
    let found = seed-found (λ seed. has_values t v (seeded_order t run_of plan seed)) plan.from plan.seeds some in
    passed-there t v (keys_of p.counts.states) (seeded_order t run_of plan (plan.from + found.0)) found.2 (p.complete found.0 found.1)

one-sweep : (t : Litmus) (kind : ProtocolKind) (c : Configuration) (plan : Plan) (run_of : List Choice → Run) (out other : List ℕ)
    → PrintsSweep t kind c plan run_of out → PrintsSweep t kind c plan run_of other → out ≡ other
one-sweep t kind c plan run_of out other p q =
    let states : p.counts.states ≡ q.counts.states =
    one-list p.counts.states q.counts.states (λ v. seeds_with t run_of plan (has_values t v)) p.ascending q.ascending p.states q.states
    (has-all t kind c plan run_of out p) (has-all t kind c plan run_of other q) in
    let unfinished : p.counts.unfinished ≡ q.counts.unfinished = p.unfinished ∙ sym q.unfinished in
    let last : observation t.name t.condition p.counts.held p.counts.failed ≡ observation t.name t.condition q.counts.held q.counts.failed =
    observed t.name t.condition (λ k. seeds_with t run_of plan (has_truth t k.claim true)) (λ k. seeds_with t run_of plan (has_truth t k.claim false))
    p.counts.held q.counts.held p.counts.failed q.counts.failed p.held q.held p.failed q.failed in
    let held = p.counts.held in
    let failed = p.counts.failed in
    let counts = q.counts in
    p.printed
    ∙ ap (λ s. sweep_lines t kind c plan (run_counts s held failed p.counts.unfinished)) states
    ∙ ap (λ (n : ℕ). sweep_lines t kind c plan (run_counts counts.states held failed n)) unfinished
    ∙ ap (λ (l : List ℕ).
    head t kind c
    ++ (sweep_line (ended_in counts) counts.unfinished plan.from plan.length
    ++ (counted_state_lines t counts.states ++ l)))
    last
    ∙ sym q.printed

one-sweep-on-either : (t : Litmus) (kind : ProtocolKind) (c : Configuration) (plan : Plan) (out other : List ℕ)
    → HeadlineOfSweeps t kind c plan out → HeadlineOfSweeps t kind c plan other → out ≡ other
one-sweep-on-either t kind c plan out other p q = by_bus c.bus refl
  where
    by_bus : (b : Bus) → c.bus ≡ b → out ≡ other
    by_bus Atomic is = one-sweep t kind c plan (run t c.depth) out other (p.atomic is) (q.atomic is)
    by_bus Split is = one-sweep t kind c plan (split_run t kind c) out other (p.split is) (q.split is)

-- ---- of `check`

one-judgement : (t : Litmus) (order : List Entry) (out other : List ℕ) → IsTsoExecution t order ⊎ ((b : Breach) × IsFirstBreach t order b)
    → JudgesOrder t order out → JudgesOrder t order other → out ≡ other
one-judgement t order out other (inl execution) p q = p.valid.1 execution ∙ sym (q.valid.1 execution)
one-judgement t order out other (inr first) p q = p.breach first.0 first.1 ∙ sym (q.breach first.0 first.1)

one-check : (t : Litmus) (text out other : List ℕ) → AreReadOneWay → AreDecided → IsTest t → length text < 2 ^ 64
    → JudgesEachOrder t text out → JudgesEachOrder t text other → out ≡ other
one-check t text out other law decided test short p q = by_text (decided.orders t text test short)
  where
    by_text : ((order : List Entry) × SpellsOrder t text order) ⊎ ((fault : OrderFault) × HasFault t text fault) → out ≡ other
    by_text (inl spells) = one-judgement t spells.0 out other (decided.judged t spells.0) (p.every_order spells.0 spells.1) (q.every_order spells.0 spells.1)
    by_text (inr faulty) =
        let none : (order : List Entry) → ¬ (SpellsOrder t text order) = λ order spelled. law.never_both t text order faulty.0 test short spelled faulty.1 in
        let first = p.every_other none in
        let second = q.every_other none in
        first.2 ∙ ap order_refusal (law.one_fault t text first.0 second.0 test first.1 second.1) ∙ sym second.2

-- ---- of `witness`

one-witness : (t : Litmus) (depth : ℕ) (order : List Entry) (out other : List ℕ) → AreReadOneWay
    → WitnessesOrder t depth order out → WitnessesOrder t depth order other → AreOneWitness depth out other
one-witness t depth order out other law (reached choices is spells lead) (reached others again spells_too lead_too) =
    inr (record { t = t; order = order; choices = choices; others = others; first = spells; second = spells_too; lead = lead; lead_too = lead_too })
one-witness t depth order out other law (reached choices is spells lead) (unreached again never same) = absurd (never choices lead.commits)
one-witness t depth order out other law (reached choices is spells lead) (broken b first same) = absurd (law.real t order b first is)
one-witness t depth order out other law (unreached is never same) (reached choices again spells lead) = absurd (never choices lead.commits)
one-witness t depth order out other law (unreached is never same) (unreached again never_too same_too) = inl (same ∙ sym same_too)
one-witness t depth order out other law (unreached is never same) (broken b first other_line) = absurd (law.real t order b first is)
one-witness t depth order out other law (broken b first same) (reached choices is spells lead) = absurd (law.real t order b first is)
one-witness t depth order out other law (broken b first same) (unreached is never other_line) = absurd (law.real t order b first is)
one-witness t depth order out other law (broken b first same) (broken c first_too same_too) =
    inl (same ∙ ap (λ (d : Breach). invalid_line t d) (law.one t order b c first first_too) ∙ sym same_too)

one-witnessed : (t : Litmus) (depth : ℕ) (text out other : List ℕ) → AreReadOneWay → AreDecided → IsTest t → length text < 2 ^ 64
    → WitnessesEachOrder t depth text out → WitnessesEachOrder t depth text other → AreOneWitness depth out other
one-witnessed t depth text out other law decided test short p q = by_text (decided.orders t text test short)
  where
    by_text : ((order : List Entry) × SpellsOrder t text order) ⊎ ((fault : OrderFault) × HasFault t text fault) → AreOneWitness depth out other
    by_text (inl spells) = one-witness t depth spells.0 out other law (p.every_order spells.0 spells.1) (q.every_order spells.0 spells.1)
    by_text (inr faulty) =
        let none : (order : List Entry) → ¬ (SpellsOrder t text order) = λ order spelled. law.never_both t text order faulty.0 test short spelled faulty.1 in
        let first = p.every_other none in
        let second = q.every_other none in
        inl (first.2 ∙ ap order_refusal (law.one_fault t text first.0 second.0 test first.1 second.1) ∙ sym second.2)

-- ---- of whole inputs

pub sizes : (n m : ℕ) → (n ≤ m) ⊎ (m < n)
sizes n m = grind arith

parts-one : (s : Settings) (Same : List ℕ → List ℕ → Type 0) (parts : Parts) (out other : List ℕ)
    → AreReadOneWay
    → AreDecided
    → ((a b : List ℕ) → a ≡ b → Same a b)
    → ((t : Litmus) → IsTest t → HeadlineOf s t parts.rest out → HeadlineOf s t parts.rest other → Same out other)
    → PartsHeadline s parts out → PartsHeadline s parts other → Same out other
parts-one s Same parts out other law decided same step p q = by_text (decided.tests (instructions_of s) parts.test).always
  where
    by_text : ((t : Litmus) × SpellsTest (instructions_of s) parts.test t)
        ⊎ ((fault : TextFault) × IsRefusedTest (instructions_of s) parts.test fault)
        → Same out other
    by_text (inl spells) =
        step spells.0 (law.test (instructions_of s) parts.test spells.0 spells.1) (p.every_test spells.0 spells.1) (q.every_test spells.0 spells.1)
    by_text (inr faulty) =
        let none : (t : Litmus) → ¬ (SpellsTest (instructions_of s) parts.test t) =
        λ t spelled. law.refused_or_not (instructions_of s) parts.test t faulty.0 spelled faulty.1 in
        let first = p.every_other none in
        let second = q.every_other none in
        same out other (first.2 ∙ ap test_refusal (law.one_refusal (instructions_of s) parts.test first.0 second.0 first.1 second.1) ∙ sym second.2)

input-one : (s : Settings) (Same : List ℕ → List ℕ → Type 0) (input out other : List ℕ) → AreReadOneWay → AreDecided → ((a b : List ℕ) → a ≡ b → Same a b)
    → ((t : Litmus)
    → IsTest t
    → length (parts_of input).rest < 2 ^ 64
    → HeadlineOf s t (parts_of input).rest out
    → HeadlineOf s t (parts_of input).rest other
    → Same out other)
    → InputHeadline s input out → InputHeadline s input other → Same out other
input-one s Same input out other law decided same step p q = by_size (sizes (length input) longest_input)
  where
    by_size : (length input ≤ longest_input) ⊎ (longest_input < length input) → Same out other
    by_size (inl small) =
        parts-one s Same (parts_of input) out other law decided same (λ t test. step t test (short_rest input small)) (p.within small) (q.within small)
    by_size (inr large) = same out other (p.above large ∙ sym (q.above large))

pub runs-one : (kind : ProtocolKind) (c : Configuration) (set : Instructions) (json : Bool) (input out other : List ℕ) → AreReadOneWay → AreDecided
    → InputHeadline (settings.Run kind c set json) input out → InputHeadline (settings.Run kind c set json) input other → AreOneRun kind c json out other
runs-one kind c set json input out other law decided =
    input-one (settings.Run kind c set json) (AreOneRun kind c json) input out other law decided (λ a b same. inl same)
    (λ t test short. one-run-on-either t kind c json out other (parts_of input).rest (law.decided (length t.programs) (parts_of input).rest test.some_core))

pub traces-one : (kind : ProtocolKind) (c : Configuration) (set : Instructions) (json : Bool) (input out other : List ℕ) → AreReadOneWay → AreDecided
    → InputHeadline (settings.Trace kind c set json) input out → InputHeadline (settings.Trace kind c set json) input other → AreOneTrace kind c json out other
traces-one kind c set json input out other law decided =
    input-one (settings.Trace kind c set json) (AreOneTrace kind c json) input out other law decided (λ a b same. same-text kind c json a b same)
    (λ t test short.
    one-trace-on-either t kind c out other json (parts_of input).rest test.some_core
    (law.decided (length t.programs) (parts_of input).rest test.some_core))

pub sweeps-one : (kind : ProtocolKind) (c : Configuration) (set : Instructions) (plan : Plan) (input out other : List ℕ) → AreReadOneWay → AreDecided
    → InputHeadline (settings.Sweep kind c set plan) input out → InputHeadline (settings.Sweep kind c set plan) input other → out ≡ other
sweeps-one kind c set plan input out other law decided =
    input-one (settings.Sweep kind c set plan) (λ a b. a ≡ b) input out other law decided (λ a b same. same)
    (λ t test short. one-sweep-on-either t kind c plan out other)

pub counts-one : (kind : ProtocolKind) (c : Configuration) (set : Instructions) (plan : Option Plan) (json : Bool)
    (input out other : List ℕ)
    → AreReadOneWay
    → AreDecided
    → InputHeadline (settings.Counts kind c set plan json) input out → InputHeadline (settings.Counts kind c set plan json) input other → out ≡ other
counts-one kind c set plan json input out other law decided =
    input-one (settings.Counts kind c set plan json) (λ a b. a ≡ b) input out other law decided (λ a b same. same)
    (λ t test short. one-counts-text t kind c plan json (parts_of input).rest out other (law.decided (length t.programs) (parts_of input).rest test.some_core))

pub checks-one : (set : Instructions) (input out other : List ℕ)
    → AreReadOneWay
    → AreDecided
    → InputHeadline (settings.Check set) input out
    → InputHeadline (settings.Check set) input other
    → out ≡ other
checks-one set input out other law decided =
    input-one (settings.Check set) (λ a b. a ≡ b) input out other law decided (λ a b same. same)
    (λ t test short. one-check t (parts_of input).rest out other law decided test short)

pub witnesses-one : (depth : ℕ) (set : Instructions) (input out other : List ℕ) → AreReadOneWay → AreDecided
    → InputHeadline (settings.Witness depth set) input out → InputHeadline (settings.Witness depth set) input other → AreOneWitness depth out other
witnesses-one depth set input out other law decided =
    input-one (settings.Witness depth set) (AreOneWitness depth) input out other law decided (λ a b same. inl same)
    (λ t test short. one-witnessed t depth (parts_of input).rest out other law decided test short)
