-- The JSON value of a machine tells its cores and its memory.
use Rattle.printed_laws.proofs.Vocabulary.{◌≡◌, ℕ, ◌<◌, Bool, true, false, List, [], ◌∷◌, ◌++◌, get_or, refl, sym, ap, subst, ◌∙◌, zero}
use Rattle.printed_laws.proofs.Vocabulary.{suc, Option, arith, ◌+◌, length, All, Some, None, ◌==◌, map, ◌/◌, if◌then◌else◌, take, IfSome}
use Rattle.printed_laws.proofs.Vocabulary.{decimal, decimal_injective, max_depth, Data, array, outline, items_outline, codes, count}
use Rattle.printed_laws.proofs.Vocabulary.{registers_value, memory_value, Litmus, IsTest, Configuration, All-weaker, value_in, Reg, Entry}
use Rattle.printed_laws.proofs.Vocabulary.{items_of, CoresExist, Choice, chosen, CoreState, core_of, IsD, ImD, SmD, line_name, store_text}
use Rattle.printed_laws.proofs.Vocabulary.{later_stores, names_in_line, transient_name, LineState, option_map, bare_store, array_of_texts}
use Rattle.printed_laws.proofs.Vocabulary.{table_of, Running, new_machine, machine_after, line_state, IsTraced, traced-first, traced-next}
use Rattle.printed_laws.proofs.Vocabulary.{Transient, bus_holder_of, BusHolder, words_per_line, copy_json, sets_json, core_json, cores_json}
use Rattle.printed_laws.proofs.Vocabulary.{words_in_line, words_on_bus, bus_json, machine_json, cached_lines_in, core_with}
use Rattle.json.specs.Json as json
use Rattle.snoop_bus.specs.declared.looking.CachedLine.{CachedLine}
use Rattle.trace_report.specs.StepLaws.{after_choices}
use Rattle.trace_report.proofs.Tracing.{each-after}
use Rattle.printed_laws.specs.TracedMachines.{copy_shown, copies_shown, holder_shown, ShowTheSameMachine, AreWordsOf, MachinesAreTold}
use Rattle.printed_laws.proofs.json.JsonMemory.{memory-told}
use Rattle.printed_laws.proofs.json.JsonReading.{deeper, text-told}
use Rattle.printed_laws.proofs.reports.JsonReports.{registers-told}
use Rattle.printed_laws.proofs.json.JsonTexts.{members_in, items_in, value_at, text_at, first_item, more_items, uneven, texts_of, words-there}
use Rattle.printed_laws.proofs.steps.MachinesFit.{PendingFits, CoreFits}
use Rattle.printed_laws.proofs.steps.StepsFit.{MachineFits, fits-first, fits-next}
use Rattle.printed_laws.proofs.steps.TraceLines.{core-small, StoreFits, later-cut}
use Rattle.printed_laws.proofs.steps.TraceNumbers.{holder-small, machine-back}
use Rattle.printed_laws.proofs.steps.TraceObjects.{each_spaced, option-told}
use Rattle.printed_laws.proofs.steps.TraceParts.{read_state, state-again}
use Rattle.printed_laws.proofs.steps.TraceWords.{choice-cut}

-- ---- a core

later-part : (t : Litmus) (es : List Entry) → later_stores t es ≡ each_spaced (map (store_text t) es)
later-part t [] = refl
later-part t (e ∷ es) = ap (λ (l : List ℕ). codes " " ++ (store_text t e ++ l)) (later-part t es)

stores-told : (t : Litmus) (xs ys : List Entry)
    → IsTest t
    → All (PendingFits t) xs
    → All (PendingFits t) ys
    → map (store_text t) xs ≡ map (store_text t) ys
    → map bare_store xs ≡ map bare_store ys
stores-told t xs ys test p q same =
    let spaced = later-part t xs ∙ (ap each_spaced same ∙ sym (later-part t ys)) in
    let fit = All-weaker (PendingFits t) (StoreFits t) (λ e f. (f.known, f.word)) xs p in
    let fit' = All-weaker (PendingFits t) (StoreFits t) (λ e f. (f.known, f.word)) ys q in
    (later-cut t xs ys [] [] test fit fit' (ap (λ (l : List ℕ). l ++ 93 ∷ []) spaced)).0

-- a core's value, with the lines of its cache
abbrev core-value : Litmus → Data → CoreState → Data
core-value t lines s = core_with (array_of_texts (map (store_text t) s.pending)) lines s.place (registers_value s.registers)

record CoresAlike (s u : CoreState) : Type 0 where
  place : s.place ≡ u.place
  registers : (reg : Reg) → value_in s.registers reg ≡ value_in u.registers reg
  buffer : map bare_store s.pending ≡ map bare_store u.pending

core-told : (t : Litmus) (lines others : Data) (s u : CoreState)
    → IsTest t
    → CoreFits t s
    → CoreFits t u
    → outline (core-value t lines s) ≡ outline (core-value t others u)
    → CoresAlike s u
core-told t lines others s u test p q same =
    let few = p.place in
    let few' = q.place in
    record {
      place = decimal_injective s.place u.place (omega (arith, few)) (omega (arith, few')) (ap (text_at 2) same);
      registers = registers-told s.registers u.registers p.registers q.registers (ap (value_at 3) same);
      buffer = stores-told t s.pending u.pending test p.pending q.pending
          (sym (words-there (map (store_text t) s.pending))
          ∙ (ap (λ (j : json.Json). texts_of (items_in (value_at 0 j))) same
          ∙ words-there (map (store_text t) u.pending)));
    }

-- ---- the copies in its cache

digits-there : (numbers : List ℕ) → texts_of (items_outline (items_of (map count numbers))) ≡ map decimal numbers
digits-there [] = refl
digits-there (n ∷ ns) = ap (λ (l : List (List ℕ)). decimal n ∷ l) (digits-there ns)

abbrev Shown : Type 0
Shown = List ℕ × LineState × List (List ℕ)

-- what a copy's value shows, a set's, and those of all sets
abbrev copy_in : json.Json → Shown
copy_in j = (text_at 0 j, read_state (text_at 1 j), texts_of (items_in (value_at 2 j)))

abbrev set_in : json.Items → List Shown
set_in json.no_items = []
set_in (json.item j js) = copy_in j ∷ set_in js

abbrev sets_in : json.Items → List (List Shown)
sets_in json.no_items = []
sets_in (json.item j js) = set_in (items_in j) ∷ sets_in js

set-there : (m : Running) (core : ℕ) (copies : List CachedLine)
    → set_in (items_outline (items_of (map (copy_json m core) copies))) ≡ map (copy_shown m core) copies
set-there m core [] = refl
set-there m core (c ∷ cs) =
    let state = state-again (line_state m core c.line) in
    let words = digits-there (take (length (names_in_line m.test.locations (words_per_line m) c.line)) c.words) in
    let further = set-there m core cs in
    λ i. (line_name m.test (words_per_line m) c.line, state i, words i) ∷ further i

sets-there : (m : Running) (core set count : ℕ) → sets_in (items_outline (items_of (sets_json m core set count))) ≡ copies_shown m core set count
sets-there m core set zero = refl
sets-there m core set (suc rest) =
    let first = set-there m core (cached_lines_in m core set) in
    let further = sets-there m core (set + 1) rest in
    λ i. first i ∷ further i

-- ---- the bus

abbrev read_transient : List ℕ → Transient
read_transient text = if get_or text 0 0 == 83 then SmD else if get_or text 1 0 == 83 then IsD else ImD

transient-again : (x : Transient) → read_transient (transient_name x) ≡ x
transient-again IsD = refl
transient-again x = refl

transient-told : (a b : Option Transient) → option_map transient_name a ≡ option_map transient_name b → a ≡ b
transient-told a b same = sym (there a) ∙ (ap (option_map read_transient) same ∙ there b)
  where
    there : (o : Option Transient) → option_map read_transient (option_map transient_name o) ≡ o
    there None = refl
    there (Some x) = ap Some (transient-again x)

abbrev is_object : json.Json → Bool
is_object (json.object ms) = true
is_object _ = false

bus-told : (m n : Running) (h k : Option BusHolder)
    → IfSome h (λ b. chosen b.choice < 256)
    → IfSome k (λ b. chosen b.choice < 256)
    → outline (bus_json m h) ≡ outline (bus_json n k)
    → option_map (holder_shown m) h ≡ option_map (holder_shown n) k
bus-told m n None None p q same = refl
bus-told m n None (Some k) p q same = uneven (sym (ap is_object same))
bus-told m n (Some h) None p q same = uneven (ap is_object same)
bus-told m n (Some h) (Some k) p q same =
    let choice =
    choice-cut h.choice k.choice [] [] (core-small m.test 1 h.choice p) (core-small m.test 1 k.choice q)
    (ap (λ (j : json.Json). text_at 0 j ++ []) same) in
    let state =
    transient-told h.transient k.transient
    (option-told (option_map transient_name h.transient) (option_map transient_name k.transient) (ap (value_at 3) same)) in
    let line : line_name m.test (words_per_line m) (h.loc.0 / words_per_line m)
    ≡ line_name n.test (words_per_line n) (k.loc.0 / words_per_line n) =
    ap (text_at 2) same in
    let kept = λ (x : Running) (b : BusHolder). words_on_bus b.transient (words_in_line (words_per_line x) x.state.flat.memory (b.loc.0 / words_per_line x)) in
    let words : map decimal (kept m h) ≡ map decimal (kept n k) =
    sym (digits-there (kept m h)) ∙ (ap (λ (j : json.Json). texts_of (items_in (value_at 4 j))) same ∙ digits-there (kept n k)) in
    λ i. Some (choice.0 i, line i, state i, words i)

-- ---- the cores

abbrev Cores : Running → ℕ → ℕ → json.Items
Cores m core count = items_outline (items_of (cores_json m core count))

each-core : (m n : Running) (core count k : ℕ)
    → Cores m core count ≡ Cores n core count
    → k < count
    → outline (core_json m (core + k)) ≡ outline (core_json n (core + k))
each-core m n core zero k same small = absurd (omega (arith, small))
each-core m n core (suc rest) zero same small =
    let here : core ≡ core + 0 = omega arith in
    subst (λ (i : ℕ). outline (core_json m i) ≡ outline (core_json n i)) here (ap first_item same)
each-core m n core (suc rest) (suc k) same small =
    let there : core + 1 + k ≡ core + suc k = omega arith in
    subst (λ (i : ℕ). outline (core_json m i) ≡ outline (core_json n i)) there (each-core m n (core + 1) rest k (ap more_items same) (omega (arith, small)))

-- ---- a machine that choices lead to

record Follows (t : Litmus) (c : Configuration) (m : Running) : Type 0 where
  traced : IsTraced t c m
  fits : MachineFits m
  each : length m.state.flat.memory ≡ length t.locations

follows : (t : Litmus) (c : Configuration) (m : Running) (choices : List Choice)
    → IsTest t
    → CoresExist (length t.programs) choices
    → Follows t c m
    → Follows t c (after_choices m choices)
follows t c m [] test exist f = f
follows t c m (choice ∷ choices) test exist f =
    let next = machine_after m choice in
    let few = test.cores in
    let here = exist.0 in
    follows t c next choices test exist.1
    (record {
      traced = traced-next t c m choice test f.traced;
      fits = fits-next m choice (omega (arith, few, here)) f.fits;
      each = each-after m next choice (length t.locations) refl f.each;
    })

-- the value by the test
by-test : (t : Litmus) (c : Configuration) (m : Running) (own : List ℕ) → IsTraced t c m
    → (value_at 1 (outline (machine_json m own)) ≡ json.array (Cores m 0 (length t.programs)))
    × (value_at 2 (outline (machine_json m own)) ≡ outline (memory_value t own))
    × (value_at 3 (outline (machine_json m own)) ≡ outline (memory_value t m.state.flat.memory))
by-test t c m own traced = (
  ap (λ (u : Litmus). json.array (Cores m 0 (length u.programs))) traced.test,
  ap (λ (u : Litmus). outline (memory_value u own)) traced.test,
  ap (λ (u : Litmus). outline (memory_value u m.state.flat.memory)) traced.test,
)

machine-told : (t : Litmus) (c d : Configuration) (m n : Running) (own other : List ℕ)
    → IsTest t
    → Follows t c m
    → Follows t d n
    → AreWordsOf t own
    → AreWordsOf t other
    → outline (machine_json m own) ≡ outline (machine_json n other) → ShowTheSameMachine t m n own other
machine-told t c d m n own other test f g p q same =
    let a = by-test t c m own f.traced in
    let b = by-test t d n other g.traced in
    let cores : Cores m 0 (length t.programs) ≡ Cores n 0 (length t.programs) = ap items_in (sym a.0 ∙ (ap (value_at 1) same ∙ b.0)) in
    let lines = λ (x : Running) (core : ℕ). array (items_of (sets_json x core 0 x.statistics.caches.shape.sets)) in
    let core : (k : ℕ) → k < length t.programs → CoresAlike (core_of m.state.flat k) (core_of n.state.flat k) = λ k small.
    let zero_plus : 0 + k ≡ k = omega arith in
    let values = subst (λ (i : ℕ). outline (core_json m i) ≡ outline (core_json n i)) zero_plus (each-core m n 0 (length t.programs) k cores small) in
    let x = ap (λ (u : Litmus). outline (core-value u (lines m k) (core_of m.state.flat k))) f.traced.test in
    let y = ap (λ (u : Litmus). outline (core-value u (lines n k) (core_of n.state.flat k))) g.traced.test in
    core-told t (lines m k) (lines n k) (core_of m.state.flat k) (core_of n.state.flat k) test
    (subst (λ (u : Litmus). CoreFits u (core_of m.state.flat k)) f.traced.test (f.fits.cores k))
    (subst (λ (u : Litmus). CoreFits u (core_of n.state.flat k)) g.traced.test (g.fits.cores k)) (sym x ∙ (values ∙ y)) in
    let copies : (k : ℕ)
    → k < length t.programs
    → copies_shown m k 0 m.statistics.caches.shape.sets ≡ copies_shown n k 0 n.statistics.caches.shape.sets =
    λ k small.
    let zero_plus : 0 + k ≡ k = omega arith in
    let values = subst (λ (i : ℕ). outline (core_json m i) ≡ outline (core_json n i)) zero_plus (each-core m n 0 (length t.programs) k cores small) in
    sym (sets-there m k 0 m.statistics.caches.shape.sets)
    ∙ (ap (λ (j : json.Json). sets_in (items_in (value_at 1 j))) values
    ∙ sets-there n k 0 n.statistics.caches.shape.sets) in
    record {
      bus = bus-told m n (bus_holder_of m) (bus_holder_of n) (holder-small m.test m m.state.holder m.statistics.caches.awaited f.fits.holder)
          (holder-small n.test n n.state.holder n.statistics.caches.awaited g.fits.holder) (ap (value_at 0) same);
      copies = copies;
      places = λ k small. (core k small).place;
      registers = λ k small. (core k small).registers;
      buffers = λ k small. (core k small).buffer;
      memory =
          memory-told t.locations own other test.locations_differ p.each q.each p.words_are q.words_are
          (ap members_in (sym a.1 ∙ (ap (value_at 2) same ∙ b.1)));
      seen = memory-told t.locations m.state.flat.memory n.state.flat.memory test.locations_differ f.each g.each f.fits.memory g.fits.memory
          (ap members_in (sym a.2 ∙ (ap (value_at 3) same ∙ b.2)));
    }

pub machines-told : MachinesAreTold
machines-told t kind other_kind c d choices other own other_own test exist exist' p q e =
    let m = after_choices (new_machine (table_of kind) c t) choices in
    let n = after_choices (new_machine (table_of other_kind) d t) other in
    let f = follows t c (new_machine (table_of kind) c t) choices test exist
    (record { traced = traced-first (table_of kind) c t; fits = fits-first (table_of kind) c t test; each = test.words_given }) in
    let g = follows t d (new_machine (table_of other_kind) d t) other test exist'
    (record { traced = traced-first (table_of other_kind) d t; fits = fits-first (table_of other_kind) d t test; each = test.words_given }) in
    let x = deeper 7 max_depth (outline (machine_json m own)) (omega arith) (machine-back m own f.fits p.words_are) in
    let y = deeper 7 max_depth (outline (machine_json n other_own)) (omega arith) (machine-back n other_own g.fits q.words_are) in
    machine-told t c d m n own other_own test f g p q (text-told (machine_json m own) (machine_json n other_own) x y e)
