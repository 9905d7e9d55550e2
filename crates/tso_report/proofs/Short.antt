-- The maximum length of each line of a report.
use Rattle.tso_report.proofs.Vocabulary.{inl, inr, ◌≡◌, ℕ, ◌+◌, ◌-◌, ◌*◌, ◌≤◌, ◌<◌, ◌^◌, zero, suc, Bool, true, false, not, nat_le, ◌&&◌}
use Rattle.tso_report.proofs.Vocabulary.{List, [], ◌∷◌, ◌++◌, length, map, slice_index, slice_index_or, All, Option, Some, None}
use Rattle.tso_report.proofs.Vocabulary.{length-append, refl, arith, decimal, list_all, length-decimal-le, and_parts, nat_tests, All-head}
use Rattle.tso_report.proofs.Vocabulary.{All-tail, Litmus, IsTest, Condition, begins_name, continues_name, is_name, is_register_word}
use Rattle.tso_report.proofs.Vocabulary.{is_location_name, is_test_name, Bus, Atomic, Split, Reg, Entry, letters_of, printed_access}
use Rattle.tso_report.proofs.Vocabulary.{printed_entry, printed_end, printed_lines, printed_order, HasAccess, IsEntryFor, IsOrderFor}
use Rattle.tso_report.proofs.Vocabulary.{protocol_name, ProtocolKind, Msi, Geometry, IsLineSize, Configuration, IsConfigurationWithinLimits}
use Rattle.tso_report.proofs.Vocabulary.{Counts, ShownRun, report, line, test_line, machine_line, shape_text, bus_text, printed_register}
use Rattle.tso_report.proofs.Vocabulary.{printed_registers, all_registers, register_line, register_lines, printed_words, memory_line}
use Rattle.tso_report.proofs.Vocabulary.{printed_quantifier, printed_truth, printed_verdict, condition_line, choices_line, traffic_text}
use Rattle.tso_report.proofs.Vocabulary.{cache_line, cache_lines}
use Rattle.std.specs.Prelude.{codes}
use Rattle.tso_terms.specs.Registers.{IsWord, AreRegisters, index_of, name_of}
use Rattle.tso_terms.specs.Thread.{value_in}
use Rattle.basic_laws.specs.Types.{Eax, Quantifier, Exists, Kind, R, F}
use Rattle.cache_set.specs.Geometry.{IsShapeWithinLimits as IsShape}
use Rattle.multiprocessor.specs.Keeping.{IsAtMost}
use Rattle.tso_report.specs.Limits.{longest_report, IsSmall}

-- ---- texts put together

joined : (xs ys : List ℕ) (m n : ℕ) → length xs ≤ m → length ys ≤ n → length (xs ++ ys) ≤ m + n
joined xs ys m n h k = omega (arith, length-append xs ys)

ended : (xs : List ℕ) (m : ℕ) → length xs ≤ m → length (line xs) ≤ m + 1
ended xs m h = joined xs (10 ∷ []) m 1 h (omega arith)

digit : (n : ℕ) → n < 10 → length (decimal n) ≤ 1
digit n h = length-decimal-le 1 n (omega arith) (omega arith) (omega arith)

two_digits : (n : ℕ) → n < 100 → length (decimal n) ≤ 2
two_digits n h = length-decimal-le 2 n (omega arith) (omega arith) (omega arith)

three_digits : (n : ℕ) → n < 1000 → length (decimal n) ≤ 3
three_digits n h = length-decimal-le 3 n (omega arith) (omega arith) (omega arith)

word_digits : (n : ℕ) → IsWord n → length (decimal n) ≤ 10
word_digits n h = length-decimal-le 10 n (omega arith) (omega arith) (omega arith)

long_digits : (n : ℕ) → n < 2 ^ 64 → length (decimal n) ≤ 20
long_digits n h = length-decimal-le 20 n (omega arith) (omega arith) h

-- ---- names

le-true : (m n : ℕ) → nat_le m n ≡ true → m ≤ n
le-true m n h = grind (arith, nat_tests)

name_short : (x : List ℕ) → is_location_name x ≡ true → length x ≤ 32
name_short [] h = omega arith
name_short (c ∷ cs) h =
    let plain = and_parts (is_name (c ∷ cs) && not (is_register_word (c ∷ cs))) _ h in
    let name = and_parts (is_name (c ∷ cs)) _ plain.0 in
    le-true (length (c ∷ cs)) 32 (and_parts (begins_name c && list_all continues_name cs) _ name.0).1

names_short : (names : List (List ℕ)) (i : ℕ) → list_all is_location_name names ≡ true → length (slice_index_or names i []) ≤ 32
names_short [] i h = omega arith
names_short (x ∷ xs) zero h = name_short x (and_parts (is_location_name x) (list_all is_location_name xs) h).0
names_short (x ∷ xs) (suc i) h = names_short xs i (and_parts (is_location_name x) (list_all is_location_name xs) h).1

test_name_short : (x : List ℕ) → is_test_name x ≡ true → length x ≤ 64
test_name_short [] h = omega arith
test_name_short (c ∷ cs) h = le-true (length (c ∷ cs)) 64 (and_parts _ (nat_le (length (c ∷ cs)) 64) h).1

-- ---- the order

letters_short : (kind : Kind) → length (letters_of kind) ≤ 2
letters_short R = omega arith
letters_short kind = omega arith

valued : (name : List ℕ) (value : ℕ) → length name ≤ 32 → IsWord value → length (codes " " ++ (name ++ (codes "=" ++ decimal value))) ≤ 44
valued name value h w =
    joined (codes " ") _ 1 43 (omega arith) (joined name _ 32 11 h (joined (codes "=") (decimal value) 1 10 (omega arith) (word_digits value w)))

access_short : (t : Litmus) (kind : Kind) (loc value : ℕ) → IsTest t → HasAccess t kind loc value → length (printed_access t kind loc value) ≤ 44
access_short t F loc value test h = omega arith
access_short t kind loc value test h = valued _ value (names_short t.locations loc test.locations_spelled) h.1

entry_short : (t : Litmus) (e : Entry) → IsTest t → IsEntryFor t e → length (printed_entry t e) ≤ 55
entry_short t e test h =
    joined (codes "P") _ 1 54 (omega arith)
    (joined (decimal e.core.0) _ 3 51 (let c = h.core in three_digits e.core.0 (omega arith))
    (joined (codes ":") _ 1 50 (omega arith)
    (joined (decimal e.place) _ 3 47 (let p = h.place in three_digits e.place (omega arith))
    (joined (codes " ") _ 1 46 (omega arith)
    (joined (letters_of e.kind) _ 2 44 (letters_short e.kind) (access_short t e.kind e.loc.0 e.value test h.access))))))

entries_short : (t : Litmus) (es : List Entry) → IsTest t → IsOrderFor t es → length (printed_lines (map (printed_entry t) es)) ≤ 56 * length es
entries_short t [] test h = omega arith
entries_short t (e ∷ es) test h =
    let first = entry_short t e test (All-head (IsEntryFor t) e es h) in
    let further = entries_short t es test (All-tail (IsEntryFor t) e es h) in
    let both = joined (printed_entry t e) (10 ∷ printed_lines (map (printed_entry t) es)) 55 (1 + 56 * length es) first (omega arith) in
    omega arith

lines-append : (xs ys : List (List ℕ)) → length (printed_lines (xs ++ ys)) ≡ length (printed_lines xs) + length (printed_lines ys)
lines-append [] ys = omega arith
lines-append (x ∷ xs) ys =
    let further = lines-append xs ys in
    omega (arith, length-append x (10 ∷ printed_lines (xs ++ ys)), length-append x (10 ∷ printed_lines xs))

order_short : (t : Litmus) (es : List Entry) → IsTest t → IsOrderFor t es → length es ≤ 512 → length (printed_order t es) ≤ 28691
order_short t es test h few =
    let entries = entries_short t es test h in
    let last : length (printed_end (length es)) ≤ 12 =
    joined (codes "Endorder ") (decimal (length es)) 9 3 (omega arith) (three_digits (length es) (omega arith)) in
    let end : length (printed_lines (printed_end (length es) ∷ [])) ≤ 13 = joined (printed_end (length es)) (10 ∷ []) 12 1 last (omega arith) in
    let lines = lines-append (map (printed_entry t) es) (printed_end (length es) ∷ []) in
    joined (codes "Order") (10 ∷ printed_lines (map (printed_entry t) es ++ (printed_end (length es) ∷ []))) 5 28686 (omega arith) (omega arith)

-- ---- registers and memory

word_at : (words : List ℕ) (i : ℕ) → All IsWord words → IsWord (slice_index words i)
word_at [] i h = omega arith
word_at (w ∷ ws) zero h = All-head IsWord w ws h
word_at (w ∷ ws) (suc i) h = word_at ws i (All-tail IsWord w ws h)

register_name_short : (reg : Reg) → length (name_of reg) ≤ 3
register_name_short Eax = omega arith
register_name_short reg = omega arith

register_short : (registers : List ℕ) (reg : Reg) → All IsWord registers → length (printed_register registers reg) ≤ 15
register_short registers reg h =
    joined (codes " ") _ 1 14 (omega arith)
    (joined (name_of reg) _ 3 11 (register_name_short reg)
    (joined (codes "=") (decimal (value_in registers reg)) 1 10 (omega arith) (word_digits (value_in registers reg) (word_at registers (index_of reg) h))))

registers_short : (registers : List ℕ) (regs : List Reg) → All IsWord registers → length (printed_registers registers regs) ≤ 15 * length regs
registers_short registers [] h = omega arith
registers_short registers (reg ∷ regs) h =
    let both =
    joined (printed_register registers reg) (printed_registers registers regs) 15 (15 * length regs)
    (register_short registers reg h) (registers_short registers regs h) in
    omega arith

six_registers : length all_registers ≡ 6
unfolding all_registers
six_registers = refl

register_line_short : (core : ℕ) (registers : List ℕ) → core < 10 → All IsWord registers → length (register_line core registers) ≤ 103
register_line_short core registers c h =
    let six = six_registers in
    let all = registers_short registers all_registers h in
    joined (codes "Registers P") _ 11 92 (omega arith)
    (joined (decimal core) (line (printed_registers registers all_registers)) 1 91 (digit core c)
    (ended (printed_registers registers all_registers) 90 (omega arith)))

register_lines_short : (core : ℕ) (all : List (List ℕ)) → core + length all ≤ 9 → All AreRegisters all → length (register_lines core all) ≤ 103 * length all
register_lines_short core [] few h = omega arith
register_lines_short core (r ∷ rs) few h =
    let first = register_line_short core r (omega arith) (All-head AreRegisters r rs h).words in
    let further = register_lines_short (core + 1) rs (omega arith) (All-tail AreRegisters r rs h) in
    let both = joined (register_line core r) (register_lines (core + 1) rs) 103 (103 * length rs) first further in
    omega arith

words_short : (names : List (List ℕ)) (words : List ℕ)
    → list_all is_location_name names ≡ true
    → All IsWord words
    → length (printed_words names words) ≤ 44 * length names
words_short (x ∷ xs) (v ∷ vs) h w =
    let parts = and_parts (is_location_name x) (list_all is_location_name xs) h in
    let further = words_short xs vs parts.1 (All-tail IsWord v vs w) in
    let name = name_short x parts.0 in
    let value = word_digits v (All-head IsWord v vs w) in
    let rest = printed_words xs vs in
    let d : length (decimal v ++ rest) ≤ 10 + 44 * length xs = joined (decimal v) rest 10 (44 * length xs) value further in
    let e : length (codes "=" ++ (decimal v ++ rest)) ≤ 11 + 44 * length xs =
    let q = joined (codes "=") (decimal v ++ rest) 1 (10 + 44 * length xs) (omega arith) d in omega arith in
    let f : length (x ++ (codes "=" ++ (decimal v ++ rest))) ≤ 43 + 44 * length xs =
    let q = joined x (codes "=" ++ (decimal v ++ rest)) 32 (11 + 44 * length xs) name e in omega arith in
    let all = joined (codes " ") (x ++ (codes "=" ++ (decimal v ++ rest))) 1 (43 + 44 * length xs) (omega arith) f in
    omega arith
words_short names words h w = omega arith

-- ---- the other lines

protocol_short : (kind : ProtocolKind) → length (protocol_name kind) ≤ 5
protocol_short Msi = omega arith
protocol_short kind = omega arith

few_words : (words : ℕ) → IsLineSize words → words ≤ 4
few_words words (inl e) = omega arith
few_words words (inr (inl e)) = omega arith
few_words words (inr (inr e)) = omega arith

shape_short : (g : Geometry) → IsShape g → length (shape_text g) ≤ 22
shape_short g h =
    joined (codes " sets=") _ 6 16 (omega arith)
    (joined (decimal g.sets) _ 1 15 (let s = h.few_sets in digit g.sets (omega arith))
    (joined (codes " ways=") _ 6 9 (omega arith)
    (joined (decimal g.ways) _ 1 8 (let w = h.few_ways in digit g.ways (omega arith))
    (joined (codes " words=") (decimal g.words) 7 1 (omega arith) (let w = few_words g.words h.line_size in digit g.words (omega arith))))))

bus_short : (bus : Bus) → length (bus_text bus) ≤ 10
bus_short Atomic = omega arith
bus_short Split = omega arith

machine_short : (kind : ProtocolKind) (c : Configuration) → IsConfigurationWithinLimits c → length (machine_line kind c) ≤ 55
machine_short kind c h =
    joined (codes "Machine ") _ 8 47 (omega arith)
    (joined (protocol_name kind) _ 5 42 (protocol_short kind)
    (joined (codes " depth=") _ 7 35 (omega arith)
    (joined (decimal c.depth) (line (shape_text c.shape ++ bus_text c.bus)) 2 33 (let d = h.0 in two_digits c.depth (omega arith))
    (ended (shape_text c.shape ++ bus_text c.bus) 32 (joined (shape_text c.shape) (bus_text c.bus) 22 10 (shape_short c.shape h.1) (bus_short c.bus))))))

quantifier_short : (q : Quantifier) → length (printed_quantifier q) ≤ 7
quantifier_short Exists = omega arith
quantifier_short q = omega arith

truth_short : (b : Bool) → length (printed_truth b) ≤ 5
truth_short true = omega arith
truth_short false = omega arith

verdict_short : (o : Option Condition) (holds : Option Bool) → length (printed_verdict o holds) ≤ 13
verdict_short None holds = omega arith
verdict_short (Some c) None = omega arith
verdict_short (Some c) (Some b) =
    joined (printed_quantifier c.quantifier) _ 7 6 (quantifier_short c.quantifier)
    (joined (codes " ") (printed_truth b) 1 5 (omega arith) (truth_short b))

choices_short : (used stalled unused : ℕ) → used < 2 ^ 64 → stalled < 2 ^ 64 → unused < 2 ^ 64 → length (choices_line used stalled unused) ≤ 91
choices_short used stalled unused u s n =
    joined (codes "Choices used=") _ 13 78 (omega arith)
    (joined (decimal used) _ 20 58 (long_digits used u)
    (joined (codes " stalled=") _ 9 49 (omega arith)
    (joined (decimal stalled) _ 20 29 (long_digits stalled s)
    (joined (codes " unused=") (line (decimal unused)) 8 21 (omega arith) (ended (decimal unused) 20 (long_digits unused n))))))

counted_digits : (n : ℕ) → n ≤ 2 ^ 32 - 1 → length (decimal n) ≤ 10
counted_digits n h = length-decimal-le 10 n (omega arith) (omega arith) (omega arith)

traffic_short : (c : Counts) → IsAtMost (2 ^ 32 - 1) c → length (traffic_text c) ≤ 62
traffic_short c h =
    joined (codes " forwards=") _ 10 52 (omega arith)
    (joined (decimal c.forwards) _ 10 42 (counted_digits c.forwards h.forwards)
    (joined (codes " write_backs=") _ 13 29 (omega arith)
    (joined (decimal c.write_backs) _ 10 19 (counted_digits c.write_backs h.write_backs)
    (joined (codes " flushes=") (decimal c.flushes) 9 10 (omega arith) (counted_digits c.flushes h.flushes)))))

cache_line_short : (core : ℕ) (c : Counts) → core < 10 → IsAtMost (2 ^ 32 - 1) c → length (cache_line core c) ≤ 125
cache_line_short core c small h =
    joined (codes "Cache P") _ 7 118 (omega arith)
    (joined (decimal core) _ 1 117 (digit core small)
    (joined (codes " hits=") _ 6 111 (omega arith)
    (joined (decimal c.hits) _ 10 101 (counted_digits c.hits h.hits)
    (joined (codes " misses=") _ 8 93 (omega arith)
    (joined (decimal c.misses) _ 10 83 (counted_digits c.misses h.misses)
    (joined (codes " upgrades=") _ 10 73 (omega arith)
    (joined (decimal c.upgrades) (line (traffic_text c)) 10 63 (counted_digits c.upgrades h.upgrades) (ended (traffic_text c) 62 (traffic_short c h)))))))))

cache_lines_short : (core : ℕ) (all : List Counts) → core + length all ≤ 9 → All (IsAtMost (2 ^ 32 - 1)) all → length (cache_lines core all) ≤ 125 * length all
cache_lines_short core [] few h = omega arith
cache_lines_short core (c ∷ cs) few h =
    let first = cache_line_short core c (omega arith) (All-head (IsAtMost (2 ^ 32 - 1)) c cs h) in
    let further = cache_lines_short (core + 1) cs (omega arith) (All-tail (IsAtMost (2 ^ 32 - 1)) c cs h) in
    let both = joined (cache_line core c) (cache_lines (core + 1) cs) 125 (125 * length cs) first further in
    omega arith

pub report_short : (t : Litmus) (kind : ProtocolKind) (c : Configuration) (s : ShownRun)
    → IsTest t
    → IsConfigurationWithinLimits c
    → IsSmall t s
    → length (report t kind c s) ≤ longest_report
report_short t kind c s test within small =
    let name = test_name_short t.name test.name_spelled in
    let locations = test.location_count in
    let cores = small.cores in
    let caches = small.caches in
    let words = words_short t.locations s.memory test.locations_spelled small.memory in
    let registers = register_lines_short 0 s.registers (omega arith) small.registers in
    let counts = cache_lines_short 0 s.counts (omega arith) small.counts in
    let whole : length (report t kind c s) ≤ 31466 =
    joined (test_line t ++ machine_line kind c) _ 125 31341
    (joined (test_line t) (machine_line kind c) 70 55
    (joined (codes "Test ") (line t.name) 5 65 (omega arith) (ended t.name 64 name)) (machine_short kind c within))
    (joined (printed_order t s.order) _ 28691 2650 (order_short t s.order test small.order small.entries)
    (joined (register_lines 0 s.registers) _ 824 1826 (omega arith)
    (joined (memory_line t s.memory) _ 711 1115
    (joined (codes "Memory") (line (printed_words t.locations s.memory)) 6 705 (omega arith)
    (ended (printed_words t.locations s.memory) 704 (omega arith)))
    (joined (condition_line t s.holds) _ 24 1091
    (joined (codes "Condition ") (line (printed_verdict t.condition s.holds)) 10 14 (omega arith)
    (ended (printed_verdict t.condition s.holds) 13 (verdict_short t.condition s.holds)))
    (joined (choices_line s.used s.stalled s.unused) (cache_lines 0 s.counts) 91 1000
    (choices_short s.used s.stalled s.unused small.used small.stalled small.unused) (omega arith)))))) in
    omega arith
