-- The values of a trace have no float, so that their text is known.
use Rattle.trace_report.proofs.Vocabulary.{◌≡◌, ℕ, zero, suc, ◌+◌, Bool, true, false, if◌then◌else◌, List, [], ◌∷◌, map, take, length, ◌/◌}
use Rattle.trace_report.proofs.Vocabulary.{Option, Some, None, refl, or_parts, Data, string, items_of, has_float, items_have_float, Litmus}
use Rattle.trace_report.proofs.Vocabulary.{core_of, has_ended, Choice, printed_entry, table_of, ProtocolKind, CachedLine, Configuration}
use Rattle.trace_report.proofs.Vocabulary.{Running, new_machine, machine_after, bus_holder_of, count, memory_value, order_value, ShownStep}
use Rattle.trace_report.proofs.Vocabulary.{array_of_numbers, text_or_null, array_of_texts, own_words, access_name, stall_name, line_name}
use Rattle.trace_report.proofs.Vocabulary.{names_in_line, store_text, printed_core, printed_move, printed_change, printed_request}
use Rattle.trace_report.proofs.Vocabulary.{transient_name, words_per_line, words_in_line, words_on_bus, copy_json, cached_lines_in}
use Rattle.trace_report.proofs.Vocabulary.{set_json, sets_json, core_json, cores_json, holder_json, bus_json, machine_json, stall_in}
use Rattle.trace_report.proofs.Vocabulary.{step_json, supplier_text, Sourced, sourced_by, last_or, last_step_json, step_to, steps_json}
use Rattle.trace_report.proofs.Vocabulary.{start_json, trace_json, Source}
use Rattle.std.specs.Option.{option_map}
use Rattle.machine_core.specs.declared.looking.BusHolder.{BusHolder}
use Rattle.tso_report.proofs.NoFloats.{neither, each, memory}

optional : (text : Option (List ℕ)) → has_float (text_or_null text) ≡ false
optional None = refl
optional (Some text) = refl

copy : (m : Running) (core : ℕ) (c : CachedLine) → has_float (copy_json m core c) ≡ false
copy m core c =
    let words : List ℕ = take (length (names_in_line m.test.locations (words_per_line m) c.line)) c.words in
    neither (has_float (array_of_numbers words)) false (each count (λ n. refl) words) refl

sets : (m : Running) (core set rest : ℕ) → items_have_float (items_of (sets_json m core set rest)) ≡ false
sets m core set zero = refl
sets m core set (suc rest) =
    neither (has_float (set_json m core set)) _ (each (copy_json m core) (copy m core) (cached_lines_in m core set)) (sets m core (set + 1) rest)

one_core : (m : Running) (core : ℕ) → has_float (core_json m core) ≡ false
one_core m core =
    let stores : List (List ℕ) = map (store_text m.test) (core_of m.state.flat core).pending in
    neither (has_float (array_of_texts stores)) _ (each string (λ s. refl) stores)
    (neither (items_have_float (items_of (sets_json m core 0 m.statistics.caches.shape.sets))) false (sets m core 0 m.statistics.caches.shape.sets) refl)

cores : (m : Running) (core rest : ℕ) → items_have_float (items_of (cores_json m core rest)) ≡ false
cores m core zero = refl
cores m core (suc rest) = neither (has_float (core_json m core)) _ (one_core m core) (cores m (core + 1) rest)

holder : (t : Litmus) (words : ℕ) (seen : List ℕ) (h : BusHolder) → has_float (holder_json t words seen h) ≡ false
holder t words seen h =
    let state : Option (List ℕ) = option_map transient_name h.transient in
    let kept : List ℕ = words_on_bus h.transient (words_in_line words seen (h.loc.0 / words)) in
    neither (has_float (text_or_null state)) _ (optional state) (neither (has_float (array_of_numbers kept)) false (each count (λ n. refl) kept) refl)

bus : (m : Running) (h : Option BusHolder) → has_float (bus_json m h) ≡ false
bus m None = refl
bus m (Some h) = holder m.test (words_per_line m) m.state.flat.memory h

machine : (m : Running) (own : List ℕ) → has_float (machine_json m own) ≡ false
machine m own =
    neither (has_float (bus_json m (bus_holder_of m))) _ (bus m (bus_holder_of m))
    (neither (items_have_float (items_of (cores_json m 0 (length m.test.programs)))) _ (cores m 0 (length m.test.programs))
    (neither (has_float (memory_value m.test own)) _ (memory m.test.locations own)
    (neither (has_float (memory_value m.test m.state.flat.memory)) false (memory m.test.locations m.state.flat.memory) refl)))

one_step : (t : Litmus) (words : ℕ) (s : ShownStep) (supplied : Option Source) (after : Data)
    → has_float after ≡ false
    → has_float (step_json t words s supplied after) ≡ false
one_step t words s supplied after h =
    let access : Option (List ℕ) = option_map access_name s.access in
    let flush : Option (List ℕ) = option_map printed_core s.flushed in
    let moved : Option (List ℕ) = option_map printed_move s.moved in
    let stall : Option (List ℕ) = option_map stall_name (stall_in s.outcome) in
    let states : List (List ℕ) = map (printed_change t words) s.changes in
    let source : Option (List ℕ) = option_map supplier_text supplied in
    let transaction : Option (List ℕ) = option_map (printed_request t words) s.request in
    let write_back : Option (List ℕ) = option_map (line_name t words) s.wrote_back in
    neither (has_float (text_or_null access)) _ (optional access)
    (neither (has_float after) _ h
    (neither (has_float (order_value t s.entries)) _ (each (λ e. string (printed_entry t e)) (λ e. refl) s.entries)
    (neither (has_float (text_or_null flush)) _ (optional flush)
    (neither (has_float (text_or_null moved)) _ (optional moved)
    (neither (has_float (text_or_null stall)) _ (optional stall)
    (neither (has_float (array_of_texts states)) _ (each string (λ s. refl) states)
    (neither (has_float (text_or_null source)) _ (optional source)
    (neither (has_float (text_or_null transaction)) _ (optional transaction)
    (neither (has_float (text_or_null write_back)) false (optional write_back) refl)))))))))

to : (s : Sourced) (m : Running) (own : List ℕ) → has_float (step_to s m own) ≡ false
to s m own = one_step m.test (words_per_line m) s.step s.supplied (machine_json m own) (machine m own)

steps : (m : Running) (own : List ℕ) (choices : List Choice) → items_have_float (items_of (steps_json m own choices)) ≡ false
steps m own [] = refl
steps m own (c ∷ cs) =
    by_end (has_ended m.test m.state.flat) (step_to (sourced_by m c) (machine_after m c) (own_words (machine_after m c) own))
    (steps_json (machine_after m c) (own_words (machine_after m c) own) cs)
    (to (sourced_by m c) (machine_after m c) (own_words (machine_after m c) own)) (steps (machine_after m c) (own_words (machine_after m c) own) cs)
  where
    by_end : (ended : Bool) (step : Data) (further : List Data) → has_float step ≡ false → items_have_float (items_of further) ≡ false
        → items_have_float (items_of (if ended then [] else step ∷ further)) ≡ false
    by_end true step further one all = refl
    by_end false step further one all = neither (has_float step) (items_have_float (items_of further)) one all

pub trace_has_no_float : (t : Litmus) (kind : ProtocolKind) (config : Configuration) (choices : List Choice)
    → has_float (trace_json t kind config choices) ≡ false
trace_has_no_float t kind config choices =
    let m = new_machine (table_of kind) config t in
    neither (has_float (start_json m)) _ (machine m t.words)
    (neither (items_have_float (items_of (steps_json m t.words choices))) false (steps m t.words choices) refl)

last : (none : Data) (ds : List Data) → has_float none ≡ false → items_have_float (items_of ds) ≡ false → has_float (last_or none ds) ≡ false
last none [] h hs = h
last none (d ∷ ds) h hs =
    let parts = or_parts (has_float d) (items_have_float (items_of ds)) hs in
    last d ds parts.0 parts.1

pub last_step_has_no_float : (t : Litmus) (kind : ProtocolKind) (config : Configuration) (choices : List Choice)
    → has_float (last_step_json t kind config choices) ≡ false
last_step_has_no_float t kind config choices =
    let m = new_machine (table_of kind) config t in
    last _ (steps_json m t.words choices) (neither (has_float (start_json m)) false (machine m t.words) refl) (steps m t.words choices)
