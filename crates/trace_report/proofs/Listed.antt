-- Values in a list, made one after the other.
use Rattle.trace_report.proofs.Vocabulary.{◌≡◌, ◌∙◌, ◌++◌, [], ℕ, ◌-◌, List, map, length, take, codes, no_members, object, put, string}
use Rattle.trace_report.proofs.Vocabulary.{array_of_numbers, line_name, names_in_line, line_state, state_name, words_per_line, CachedLine}
use Rattle.trace_report.proofs.Vocabulary.{copy_json, sym, ap, rules, Global, Vec, Data, array, view, items_of, Value, the_lemmas, Litmus}
use Rattle.trace_report.proofs.Vocabulary.{core_of, Configuration, Running, registers_value, store_text, array_of_texts, sets_json}
use Rattle.trace_report.proofs.Vocabulary.{core_json, core_with, IsMachineOfTest}
use Rattle.std.specs.Prelude.{String, string_bytes}
use Rattle.serde_json.specs.declared.value.Value.TheVariants.{Array}
use Rattle.serde_json.specs.declared.value.Value.TheVariants as value

-- a list as a value
pub view-list : (values : Vec Value Global) → view (Array values) ≡ array (items_of (map view values.items))
view-list values = search (rules, the_lemmas)

-- a text as a value
pub view-text : (text : String Global) → view (value.String text) ≡ string (string_bytes text)
view-text text = search (rules, the_lemmas)

-- what is written to an empty text
pub all-written : (old new bytes : List ℕ) → old ≡ [] → new ≡ old ++ bytes → new ≡ bytes
all-written old new bytes none e = e ∙ ap (λ b. b ++ bytes) none

-- a core from its parts
pub core-made : (t : Litmus) (config : Configuration) (m : Running) (core place : ℕ) (buffer lines registers : Data) → IsMachineOfTest t config m
    → buffer ≡ array_of_texts (map (store_text t) (core_of m.state.flat core).pending)
    → lines ≡ array (items_of (sets_json m core 0 config.shape.sets)) → place ≡ (core_of m.state.flat core).place
    → registers ≡ registers_value (core_of m.state.flat core).registers → core_with buffer lines place registers ≡ core_json m core
core-made t config m core place buffer lines registers shown buffer_is lines_is place_is registers_is =
    let mine = core_of m.state.flat core in
    let buffer_same : buffer ≡ array_of_texts (map (store_text m.test) mine.pending) =
    buffer_is ∙ ap (λ u. array_of_texts (map (store_text u) mine.pending)) (sym shown.test) in
    let lines_same : lines ≡ array (items_of (sets_json m core 0 m.statistics.caches.shape.sets)) =
    lines_is ∙ sym (ap (λ (c : Configuration). array (items_of (sets_json m core 0 c.shape.sets))) shown.config) in
    (λ i. core_with (buffer_same i) (lines_same i) (place_is i) (registers_is i))

-- a copy from its parts
pub copy-made : (t : Litmus) (config : Configuration) (m : Running) (core words count : ℕ) (copy : CachedLine) (name : List ℕ) → IsMachineOfTest t config m
    → words ≡ config.shape.words → name ≡ state_name (line_state m core copy.line) → count ≡ length (names_in_line t.locations words copy.line)
    → object (put (codes "words") (array_of_numbers (take count copy.words))
    (put (codes "state") (string name) (put (codes "line") (string (line_name t words copy.line)) no_members)))
    ≡ copy_json m core copy
copy-made t config m core words count copy name shown words_is name_is count_is =
    let test : t ≡ m.test = sym shown.test in
    let each : words ≡ words_per_line m = words_is ∙ sym (ap (λ (x : Configuration). x.shape.words) shown.config) in
    let counted : count ≡ length (names_in_line m.test.locations (words_per_line m) copy.line) =
    count_is ∙ (λ i. length (names_in_line (test i).locations (each i) copy.line)) in
    (λ i.
    object (put (codes "words") (array_of_numbers (take (counted i) copy.words))
    (put (codes "state") (string (name_is i)) (put (codes "line") (string (line_name (test i) (each i) copy.line)) no_members))))
