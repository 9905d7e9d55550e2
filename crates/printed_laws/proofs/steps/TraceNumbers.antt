-- The JSON value of a trace is read back from its text.
use Rattle.printed_laws.proofs.Vocabulary.{ℕ, ◌<◌, Bool, true, false, List, [], ◌∷◌, zero, suc, Option, arith, ◌+◌, length, slice_index}
use Rattle.printed_laws.proofs.Vocabulary.{All, Some, None, map, ◌/◌, if◌then◌else◌, ◌*◌, take, IfSome, nat_lt, range_with_len, Data}
use Rattle.printed_laws.proofs.Vocabulary.{outline, items_outline, IsNumber-decimal, Litmus, IsTest, ProtocolKind, Configuration, All-head}
use Rattle.printed_laws.proofs.Vocabulary.{All-tail, All-cons, All-nil, All-drop, All-take, Condition, IsWord, items_of, has_ended}
use Rattle.printed_laws.proofs.Vocabulary.{CoresExist, Choice, chosen, core_of, store_text, names_in_line, transient_name, MemoryAccess}
use Rattle.printed_laws.proofs.Vocabulary.{NoAccess, Writes, Locks, access_of, Holder, Free, HeldBy, HeldBetween, table_of, Awaited}
use Rattle.printed_laws.proofs.Vocabulary.{at_access, Running, new_machine, machine_after, trace_step_of, Transient, bus_holder}
use Rattle.printed_laws.proofs.Vocabulary.{bus_holder_as, bus_holder_of, BusHolder, words_per_line, copy_json, sets_json, core_json}
use Rattle.printed_laws.proofs.Vocabulary.{cores_json, words_on_bus, bus_json, machine_json, own_word, own_words_from, own_words}
use Rattle.printed_laws.proofs.Vocabulary.{is_newer_in, instruction_text, program_value, programs_value, proposition_text}
use Rattle.printed_laws.proofs.Vocabulary.{proposition_value, sourced_by, step_to, steps_json, trace_json}
use Rattle.std.specs.Prelude.{option_map}
use Rattle.tso_terms.specs.MemoryAccess.{Reads}
use Rattle.snoop_bus.specs.Accesses.{with_words}
use Rattle.cache_set.specs.Limits.{most_words}
use Rattle.cache_set.specs.Lines.{offset_of, line_of_words}
use Rattle.protocol_tables.specs.declared.state.State.{State}
use Rattle.printed_laws.proofs.texts.Lists.{word-at}
use Rattle.printed_laws.proofs.json.JsonReading.{ReadsBack, ItemsReadBack, deeper, each-back, words-back, strings-back, text-back}
use Rattle.printed_laws.proofs.reports.JsonNumbers.{memory-back, registers-back}
use Rattle.printed_laws.proofs.steps.MachinesFit.{CoreFits, HolderFits}
use Rattle.printed_laws.proofs.steps.StepsFit.{MachineFits, fits-first, fits-next}
use Rattle.printed_laws.proofs.steps.TraceObjects.{step-back}

-- ---- the cores

-- the words of a line
line-words : (words : ℕ) (seen : List ℕ) (line : ℕ) (offsets : List ℕ) → All IsWord seen → All IsWord (map (offset_of words seen line) offsets)
line-words words seen line [] all = All-nil IsWord
line-words words seen line (k ∷ ks) all =
    All-cons IsWord (offset_of words seen line k) (map (offset_of words seen line) ks) (inside (nat_lt k words)) (line-words words seen line ks all)
  where
    inside : (b : Bool) → IsWord (if b then slice_index seen (line * words + k) else 0)
    inside true = word-at seen (line * words + k) all
    inside false = omega arith

module _ (m : Running) (memory : All IsWord m.state.flat.memory) where
  copy-back : (core : ℕ) (tag : ℕ × State) → ReadsBack 2 (outline (copy_json m core (with_words (words_per_line m) m.state.flat.memory tag)))
  copy-back core tag =
      let words = line-words (words_per_line m) m.state.flat.memory tag.0 (range_with_len 0 most_words) memory in (
        tt,
        (
          tt,
          (
            words-back 0 _ (All-take IsWord (length (names_in_line m.test.locations (words_per_line m) tag.0))
                (line_of_words (words_per_line m) m.state.flat.memory tag.0) words),
            tt,
          ),
        ),
      )

  copies-back : (core : ℕ) (tags : List (ℕ × State))
      → ItemsReadBack 2 (items_outline (items_of (map (copy_json m core) (map (with_words (words_per_line m) m.state.flat.memory) tags))))
  copies-back core [] = tt
  copies-back core (tag ∷ tags) = (copy-back core tag, copies-back core tags)

  sets-back : (core set count : ℕ) → ItemsReadBack 3 (items_outline (items_of (sets_json m core set count)))
  sets-back core set zero = tt
  sets-back core set (suc rest) = (copies-back core _, sets-back core (set + 1) rest)

  module _ (cores : (core : ℕ) → CoreFits m.test (core_of m.state.flat core)) where
    core-back : (core : ℕ) → ReadsBack 5 (outline (core_json m core))
    core-back core =
        let s = cores core in
        let place = s.place in
        let registers = registers-back 3 (core_of m.state.flat core).registers s.registers in (
          strings-back 3 (map (store_text m.test) (core_of m.state.flat core).pending),
          (sets-back core 0 m.statistics.caches.shape.sets, (IsNumber-decimal (core_of m.state.flat core).place (omega (arith, place)), (registers, tt))),
        )

    cores-back : (core count : ℕ) → ItemsReadBack 5 (items_outline (items_of (cores_json m core count)))
    cores-back core zero = tt
    cores-back core (suc rest) = (core-back core, cores-back (core + 1) rest)

-- ---- the bus

pub holder-small : (t : Litmus) (m : Running) (h : Holder) (awaited : Option Awaited)
    → HolderFits t h
    → IfSome (bus_holder_as m.test m.depth m.state.flat awaited h) (λ b. chosen b.choice < 256)
holder-small t m Free awaited fits = tt
holder-small t m (HeldBetween e) awaited fits = fits.0
holder-small t m (HeldBy choice) awaited fits = at (access_of m.test m.depth m.state.flat choice)
  where
    at : (what : MemoryAccess) → IfSome (at_access None (λ loc write. Some (bus_holder choice loc awaited)) what) (λ b. chosen b.choice < 256)
    at NoAccess = tt
    at (Reads loc) = fits
    at (Writes loc) = fits
    at (Locks loc) = fits

kept-words : (o : Option Transient) (words : List ℕ) → All IsWord words → All IsWord (words_on_bus o words)
kept-words None words all = All-nil IsWord
kept-words (Some transient) words all = all

bus-back : (m : Running) (h : Option BusHolder) → All IsWord m.state.flat.memory → IfSome h (λ b. chosen b.choice < 256) → ReadsBack 6 (outline (bus_json m h))
bus-back m None memory small = tt
bus-back m (Some h) memory small =
    let first = h.loc.0 / words_per_line m * words_per_line m in
    let words =
    All-drop IsWord first (take (first + words_per_line m) m.state.flat.memory)
    (All-take IsWord (first + words_per_line m) m.state.flat.memory memory) in (
      tt,
      (
        IsNumber-decimal (chosen h.choice) (omega (arith, small)),
        (
          tt,
          (text-back 5 (option_map transient_name h.transient), (words-back 4 _ (kept-words h.transient _ words), tt)),
        ),
      ),
    )

-- ---- the machine

pub machine-back : (m : Running) (own : List ℕ) → MachineFits m → All IsWord own → ReadsBack 7 (outline (machine_json m own))
machine-back m own f words = (
  bus-back m (bus_holder_of m) f.memory (holder-small m.test m m.state.holder m.statistics.caches.awaited f.holder),
  (
    cores-back m f.memory f.cores 0 (length m.test.programs),
    (memory-back 5 m.test.locations own words, (memory-back 5 m.test.locations m.state.flat.memory f.memory, tt)),
  ),
)

-- memory's own words are words
pub own-words : (m : Running) (before : List ℕ) → All IsWord before → All IsWord m.state.flat.memory → All IsWord (own_words m before)
own-words m before all memory = from 0 before m.state.flat.memory all memory
  where
    from : (loc : ℕ) (before seen : List ℕ) → All IsWord before → All IsWord seen → All IsWord (own_words_from m loc before seen)
    from loc [] seen p q = All-nil IsWord
    from loc (b ∷ bs) [] p q = All-nil IsWord
    from loc (b ∷ bs) (s ∷ seen) p q =
        All-cons IsWord (own_word m loc b s) (own_words_from m (loc + 1) bs seen)
        (either (is_newer_in m (loc / m.statistics.caches.shape.words) (length m.test.programs)))
        (from (loc + 1) bs seen (All-tail IsWord b bs p) (All-tail IsWord s seen q))
      where
        either : (newer : Bool) → IsWord (if newer then b else s)
        either true = All-head IsWord b bs p
        either false = All-head IsWord s seen q

-- ---- the trace

step-to-back : (m : Running) (choice : Choice) (own : List ℕ) → MachineFits (machine_after m choice) → All IsWord own
    → ReadsBack 8 (outline (step_to (sourced_by m choice) (machine_after m choice) own))
step-to-back m choice own f words =
    let next = machine_after m choice in
    step-back 6 next.test (words_per_line next) (trace_step_of m choice) (sourced_by m choice).supplied (machine_json next own) (machine-back next own f words)

steps-back : (m : Running) (own : List ℕ) (choices : List Choice) → IsTest m.test → CoresExist (length m.test.programs) choices → MachineFits m → All IsWord own
    → ItemsReadBack 8 (items_outline (items_of (steps_json m own choices)))
steps-back m own [] test exist f words = tt
steps-back m own (choice ∷ choices) test exist f words =
    let next = machine_after m choice in
    let few = test.cores in
    let here = exist.0 in
    let fits = fits-next m choice (omega (arith, few, here)) f in
    let own_next = own-words next own words fits.memory in
    by_end (has_ended m.test m.state.flat) (step_to (sourced_by m choice) next (own_words next own))
    (steps_json next (own_words next own) choices) (step-to-back m choice (own_words next own) fits own_next)
    (steps-back next (own_words next own) choices test exist.1 fits own_next)
  where
    by_end : (ended : Bool) (d : Data) (ds : List Data)
        → ReadsBack 8 (outline d)
        → ItemsReadBack 8 (items_outline (items_of ds))
        → ItemsReadBack 8 (items_outline (items_of (if ended then [] else d ∷ ds)))
    by_end true d ds p q = tt
    by_end false d ds p q = (p, q)

pub trace-back : (t : Litmus) (kind : ProtocolKind) (c : Configuration) (choices : List Choice) → IsTest t → CoresExist (length t.programs) choices
    → ReadsBack 10 (outline (trace_json t kind c choices))
trace-back t kind c choices test exist =
    let m = new_machine (table_of kind) c t in
    let f = fits-first (table_of kind) c t test in (
      deeper 7 9 (outline (machine_json m t.words)) (omega arith) (machine-back m t.words f test.values.words),
      (steps-back m t.words choices test exist f test.values.words, tt),
    )

-- ---- what is beside it

pub programs-back : (t : Litmus) → ReadsBack 2 (outline (programs_value t))
programs-back t = each-back 1 (program_value t) t.programs (λ p. strings-back 0 (map (instruction_text t) p))

pub proposition-back : (t : Litmus) → ReadsBack 0 (outline (proposition_value t))
proposition-back t = text-back 0 (option_map (λ (condition : Condition). proposition_text t condition.claim) t.condition)
