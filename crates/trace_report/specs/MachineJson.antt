-- A machine between two choices as a JSON value. Its objects have their keys in the order of their bytes. (This project's
-- profile.)
use Rattle.std.specs.Prelude.{ℕ, zero, suc, ◌+◌, ◌*◌, ◌/◌, List, [], ◌∷◌, map, length, take, drop, Option, Some, None, option_map, slice_index_or, codes}
use Rattle.trace_report.specs.Vocabulary.{array, bus_holder_of, BusHolder, chosen, core_of, count, Data, items_of, line_name, line_state}
use Rattle.trace_report.specs.Vocabulary.{Litmus, member, memory_value, names_in_line, no_members, null, object, printed_choice}
use Rattle.trace_report.specs.Vocabulary.{registers_value, Running, state_name, store_text, string, transient_name}
use Rattle.protocol_tables.specs.declared.requests.Transient.{Transient}
use Rattle.cache_set.specs.Tags.{tag_set}
use Rattle.cache_set.specs.CacheTags.{sets_of}
use Rattle.snoop_bus.specs.declared.looking.CachedLine.{CachedLine}
use Rattle.snoop_bus.specs.Accesses.{with_words}
use Rattle.trace_report.specs.JsonValues.{array_of_numbers, text_or_null, array_of_texts}

-- how many words a machine's lines have
abbrev pub words_per_line : Running → ℕ
words_per_line m = m.statistics.caches.shape.words

-- ---- the cores

-- a core's copy of a line: the line's locations, what it is in, and the words of these locations
abbrev pub copy_json : Running → ℕ → CachedLine → Data
copy_json m core c =
    object (member (codes "line") (string (line_name m.test (words_per_line m) c.line))
    (member (codes "state") (string (state_name (line_state m core c.line)))
    (member (codes "words") (array_of_numbers (take (length (names_in_line m.test.locations (words_per_line m) c.line)) c.words)) no_members)))

-- the copies of a core's set, the most recently used first
abbrev pub cached_lines_in : Running → ℕ → ℕ → List CachedLine
cached_lines_in m core set =
    map (with_words (words_per_line m) m.state.flat.memory) (slice_index_or (sets_of m.statistics.caches.contents core) set (tag_set [] 1)).tags

abbrev pub set_json : Running → ℕ → ℕ → Data
set_json m core set = array (items_of (map (copy_json m core) (cached_lines_in m core set)))

-- those of a core's sets from this number on, so many
abbrev pub sets_json : Running → ℕ → ℕ → ℕ → List Data
sets_json m core set zero = []
sets_json m core set (suc rest) = set_json m core set ∷ sets_json m core (set + 1) rest

-- a core: its pending stores, oldest first; the lines of its cache, by set; its place in its program; and its registers
abbrev pub core_with : Data → Data → ℕ → Data → Data
core_with buffer lines place registers =
    object (member (codes "buffer") buffer
    (member (codes "lines") lines
    (member (codes "place") (count place)
    (member (codes "registers") registers no_members))))

abbrev pub core_json : Running → ℕ → Data
core_json m core =
    core_with (array_of_texts (map (store_text m.test) (core_of m.state.flat core).pending))
    (array (items_of (sets_json m core 0 m.statistics.caches.shape.sets)))
    (core_of m.state.flat core).place (registers_value (core_of m.state.flat core).registers)

-- the cores from this number on, so many
abbrev pub cores_json : Running → ℕ → ℕ → List Data
cores_json m core zero = []
cores_json m core (suc rest) = core_json m core ∷ cores_json m (core + 1) rest

-- ---- the bus

-- the words of the locations of a line of so many words
abbrev pub words_in_line : ℕ → List ℕ → ℕ → List ℕ
words_in_line words seen line = drop (line * words) (take (line * words + words) seen)

-- the words that the bus keeps for its holder: none where nothing is awaited
abbrev pub words_on_bus : Option Transient → List ℕ → List ℕ
words_on_bus None words = []
words_on_bus (Some transient) words = words

-- the action that holds the bus, where lines have so many words and these words are seen: its next choice, its core, its line, what
-- that is in until its words come (`null` where nothing is awaited), and the words that the bus keeps
abbrev pub holder_json : Litmus → ℕ → List ℕ → BusHolder → Data
holder_json t words seen h =
    object (member (codes "choice") (string (printed_choice h.choice))
    (member (codes "core") (count (chosen h.choice))
    (member (codes "line") (string (line_name t words (h.loc.0 / words)))
    (member (codes "state") (text_or_null (option_map transient_name h.transient))
    (member (codes "words") (array_of_numbers (words_on_bus h.transient (words_in_line words seen (h.loc.0 / words)))) no_members)))))

abbrev pub bus_json : Running → Option BusHolder → Data
bus_json m None = null
bus_json m (Some h) = holder_json m.test (words_per_line m) m.state.flat.memory h

-- ---- the machine

-- a machine whose memory has these words: the bus, the cores, memory's own words, and the words that a program sees
abbrev pub machine_json : Running → List ℕ → Data
machine_json m memory =
    object (member (codes "bus") (bus_json m (bus_holder_of m))
    (member (codes "cores") (array (items_of (cores_json m 0 (length m.test.programs))))
    (member (codes "memory") (memory_value m.test memory)
    (member (codes "seen") (memory_value m.test m.state.flat.memory) no_members))))
