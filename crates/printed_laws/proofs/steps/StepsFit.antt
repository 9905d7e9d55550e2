-- Each step of a trace fits its test.
use Rattle.printed_laws.proofs.Vocabulary.{◌≡◌, ℕ, ◌<◌, Bool, true, false, List, [], ◌∷◌, ◌++◌, drop, subst, ◌∙◌, zero, suc, ◌≤◌, Option}
use Rattle.printed_laws.proofs.Vocabulary.{arith, ◌+◌, length, All, Some, None, ◌==◌, if◌then◌else◌, IfSome, slice_get, length-replicate}
use Rattle.printed_laws.proofs.Vocabulary.{Litmus, IsTest, ProtocolKind, Configuration, IsConfigurationWithinLimits}
use Rattle.printed_laws.proofs.Vocabulary.{All-head, All-tail, All-weaker, All-cons, All-nil, All-drop, All-append, IsWord, index_of, Entry}
use Rattle.printed_laws.proofs.Vocabulary.{HasWord, IsEntryFor, has_ended, CoresExist, Choice, Drain, chosen, program_of, core_of, Core}
use Rattle.printed_laws.proofs.Vocabulary.{IsAt, AreStoresKnown, StateChange, TraceStepFits, action_of}
use Rattle.printed_laws.proofs.Vocabulary.{Instr, Action, Move, access-known, Table, table_of, Running, new_machine}
use Rattle.printed_laws.proofs.Vocabulary.{machine_after, moved_by, moved_at, moved_from, buffer_if_changed, placed, line_states}
use Rattle.printed_laws.proofs.Vocabulary.{placed_states_from, number_of_lines, states_of, number_of_state, change_of, changes_in}
use Rattle.printed_laws.proofs.Vocabulary.{steps_from, trace_under, trace_step_of, IsTraced, traced-first, step-known, traced-next}
use Rattle.printed_laws.proofs.Vocabulary.{attempt_on, machine_effect, machine_use}
use Rattle.basic_laws.specs.Types.{Step, Change, Keep, Set, Swap}
use Rattle.trace_report.specs.Steps.{given_by_move}
use Rattle.printed_laws.specs.Traces.{MovesWords}
use Rattle.multiprocessor.specs.Statistics.{no_counts}
use Rattle.multiprocessor.specs.inner.Keeping.{IsAmong}
use Rattle.multiprocessor.proofs.CountBounds.{length-counted}
use Rattle.trace_report.specs.declared.states.PlacedState.{PlacedState}
use Rattle.trace_report.proofs.FlushesTold.{IsSound, sound-first, sound-after, told-among}
use Rattle.printed_laws.proofs.steps.MachinesFit.{PendingFits, pending-entry, CoresFit, HolderFits, BusFits, effect-fits, memory-fits, cores-fit, start-fits}
use Rattle.printed_laws.proofs.texts.Lists.{word-at}

-- ---- a machine

pub record MachineFits (m : Running) : Type 0 where
  pub test : IsTest m.test
  pub memory : All IsWord m.state.flat.memory
  pub cores : CoresFit m.test m.state.flat
  pub holder : HolderFits m.test m.state.holder
  pub counts : length m.statistics.counts ≡ length m.test.programs
  pub sound : IsSound m

pub fits-first : (table : Table) (c : Configuration) (t : Litmus) → IsTest t → MachineFits (new_machine table c t)
fits-first table c t test = record {
  test = test;
  memory = test.values.words;
  cores = start-fits t test;
  holder = tt;
  counts = length-replicate (length t.programs) no_counts;
  sound = sound-first table c t;
}

stores-known : (m : Running) → MachineFits m → AreStoresKnown m.test m.state.flat
stores-known m f core = All-weaker (PendingFits m.test) (IsAt m.test) (λ e p. p.known) (core_of m.state.flat core).pending (f.cores core).pending

bus-fits : (m : Running) (choice : Choice) → chosen choice < 256 → MachineFits m → BusFits m.test (machine_effect m choice)
bus-fits m choice small f =
    effect-fits m.test m.bus m.depth m.state (attempt_on m choice) f.test small f.memory f.cores f.holder
    (λ c. access-known m.test m.depth m.state.flat c f.test (stores-known m f))

pub fits-next : (m : Running) (choice : Choice) → chosen choice < 256 → MachineFits m → MachineFits (machine_after m choice)
fits-next m choice small f =
    let made = bus-fits m choice small f in
    record {
      test = f.test;
      memory = memory-fits m.test (machine_effect m choice).effect.commits m.state.flat.memory made.effect.commits f.memory;
      cores = cores-fit m.test m.state.flat (chosen choice) (machine_effect m choice).effect f.cores made.effect.after;
      holder = made.holder;
      counts = length-counted (chosen choice) (machine_use m choice).how m.statistics.counts ∙ f.counts;
      sound = sound-after m choice f.sound;
    }

-- ---- the parts of a step

moved-word : (t : Litmus) (place : ℕ) (choice : Choice) (registers : List ℕ)
    → All IsWord registers
    → IfSome (moved_from t place choice registers) (λ m. MovesWords m)
moved-word t place (Drain core) registers all = tt
moved-word t place (Step core) registers all = at (slice_get (program_of t core.0) place)
  where
    by_change : (change : Change) → IfSome (given_by_move change registers) (λ m. MovesWords m)
    by_change Keep = tt
    by_change (Set reg update) = word-at registers (index_of reg) all
    by_change (Swap reg other) = (word-at registers (index_of reg) all, word-at registers (index_of other) all)

    by_action : (a : Action) → IfSome (moved_by a registers) (λ m. MovesWords m)
    by_action (Move change) = by_change change
    by_action a = tt

    at : (i : Option Instr) → IfSome (moved_at i registers) (λ m. MovesWords m)
    at None = tt
    at (Some i) = by_action (action_of i)

buffer-words : (t : Litmus) (waited : ℕ) (pending : List Entry) → All (PendingFits t) pending → IfSome (buffer_if_changed waited pending) (All HasWord)
buffer-words t waited pending all = by_test (length pending == waited)
  where
    by_test : (b : Bool) → IfSome (if b then None else Some pending) (All HasWord)
    by_test true = tt
    by_test false = All-weaker (PendingFits t) HasWord (λ e p. p.word) pending all

-- one of so few cores has a small number
small-core : (n : ℕ) (o : Option Core) → n ≤ 8 → IsAmong n o → IfSome o (λ core. core.0 < 256)
small-core n None few among = tt
small-core n (Some core) few among = omega (arith, few, among)

abbrev IsOfCore : PlacedState → Type 0
IsOfCore p = p.core.0 < 256

abbrev IsChangeOfCore : StateChange → Type 0
IsChangeOfCore c = c.core.0 < 256

line-cores : (m : Running) (core line count : ℕ) → core < 256 → All IsOfCore (line_states m core line count)
line-cores m core line zero small = All-nil IsOfCore
line-cores m core line (suc count) small =
    All-cons IsOfCore (placed m core line) (line_states m core (line + 1) count) small (line-cores m core (line + 1) count small)

core-cores : (m : Running) (core count : ℕ) → core + count ≤ 256 → All IsOfCore (placed_states_from m core count)
core-cores m core zero few = All-nil IsOfCore
core-cores m core (suc count) few =
    All-append IsOfCore (line_states m core 0 (number_of_lines m)) (placed_states_from m (core + 1) count)
    (line-cores m core 0 (number_of_lines m) (omega (arith, few))) (core-cores m (core + 1) count (omega (arith, few)))

change-cores : (b a : PlacedState) → IsOfCore b → All IsChangeOfCore (change_of b a)
change-cores b a small = by_test (number_of_state b.state == number_of_state a.state)
  where
    by_test : (same : Bool) → All IsChangeOfCore (if same then [] else record { core = b.core; line = b.line; before = b.state; after = a.state } ∷ [])
    by_test true = All-nil IsChangeOfCore
    by_test false = All-cons IsChangeOfCore _ [] small (All-nil IsChangeOfCore)

changes-cores : (befores afters : List PlacedState) → All IsOfCore befores → All (λ (c : StateChange). c.core.0 < 256) (changes_in befores afters)
changes-cores [] afters all = All-nil IsChangeOfCore
changes-cores (b ∷ bs) [] all = All-nil IsChangeOfCore
changes-cores (b ∷ bs) (a ∷ rest) all =
    All-append IsChangeOfCore (change_of b a) (changes_in bs rest) (change-cores b a (All-head IsOfCore b bs all))
    (changes-cores bs rest (All-tail IsOfCore b bs all))

-- ---- a step

pub step-fits : (t : Litmus) (c : Configuration) (m : Running) (choice : Choice)
    → IsTest t
    → IsConfigurationWithinLimits c
    → IsTraced t c m
    → chosen choice < length t.programs
    → MachineFits m
    → TraceStepFits t c.shape.words (trace_step_of m choice)
unfolding trace_step_of
step-fits t c m choice test within traced exists f =
    let few = test.cores in
    let small : chosen choice < 256 = omega (arith, few, exists) in
    let made = bus-fits m choice small f in
    let next = fits-next m choice small f in
    let end = machine_after m choice in
    let waited = (core_of m.state.flat (chosen choice)).pending in
    let pending = (core_of end.state.flat (chosen choice)).pending in
    let is = next.cores (chosen choice) in
    let after : All (IsEntryFor m.test) pending = All-weaker (PendingFits m.test) (IsEntryFor m.test) (pending-entry m.test) pending is.pending in
    let entries : All (IsEntryFor m.test) ((machine_effect m choice).effect.commits ++ drop (length waited) pending) =
    All-append (IsEntryFor m.test) (machine_effect m choice).effect.commits (drop (length waited) pending)
    made.effect.commits
    (All-drop (IsEntryFor m.test) (length waited) pending after) in
    let size = length m.statistics.caches.contents in
    let few_here = f.test.cores in
    let counted = f.counts in
    let sized = f.sound.size in
    let flushed = told-among m choice f.sound in
    record {
      known = step-known t c m choice test traced within.1.line_size;
      chosen_core = small;
      entries = subst (λ u. All (IsEntryFor u) ((machine_effect m choice).effect.commits ++ drop (length waited) pending)) traced.test entries;
      moved = moved-word m.test (core_of m.state.flat (chosen choice)).place choice (core_of end.state.flat (chosen choice)).registers is.registers;
      flushed = small-core size _ (omega (arith, counted, sized, few_here)) flushed;
      changes = changes-cores (states_of m) (states_of end) (core-cores m 0 (length m.test.programs) (omega (arith, few_here)));
      buffer = buffer-words m.test (length waited) pending is.pending;
    }

steps-fit : (t : Litmus) (c : Configuration) (m : Running) (choices : List Choice)
    → IsTest t
    → IsConfigurationWithinLimits c
    → IsTraced t c m
    → CoresExist (length t.programs) choices
    → MachineFits m
    → All (TraceStepFits t c.shape.words) (steps_from m choices)
steps-fit t c m [] test within traced exist f = All-nil (TraceStepFits t c.shape.words)
steps-fit t c m (choice ∷ choices) test within traced exist f =
    let few = test.cores in
    let here = exist.0 in
    let small : chosen choice < 256 = omega (arith, few, here) in
    by_end (has_ended m.test m.state.flat) (step-fits t c m choice test within traced exist.0 f)
    (steps-fit t c (machine_after m choice) choices test within (traced-next t c m choice test traced) exist.1 (fits-next m choice small f))
  where
    by_end : (ended : Bool)
        → TraceStepFits t c.shape.words (trace_step_of m choice)
        → All (TraceStepFits t c.shape.words) (steps_from (machine_after m choice) choices)
        → All (TraceStepFits t c.shape.words) (if ended then [] else trace_step_of m choice ∷ steps_from (machine_after m choice) choices)
    by_end true first further = All-nil (TraceStepFits t c.shape.words)
    by_end false first further = All-cons (TraceStepFits t c.shape.words) (trace_step_of m choice) (steps_from (machine_after m choice) choices) first further

pub traces-fit : (t : Litmus) (kind : ProtocolKind) (c : Configuration) (choices : List Choice)
    → IsTest t
    → IsConfigurationWithinLimits c
    → CoresExist (length t.programs) choices
    → All (TraceStepFits t c.shape.words) (trace_under t kind c choices)
traces-fit t kind c choices test within exist =
    let m = new_machine (table_of kind) c t in
    steps-fit t c m choices test within (traced-first (table_of kind) c t) exist (fits-first (table_of kind) c t test)
