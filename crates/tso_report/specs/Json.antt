-- A run as a JSON value, for programs to read. Its objects have their keys in the order of their bytes. (This project's
-- profile.)
use Rattle.std.specs.Prelude.{ℕ, Bool, List, [], ◌∷◌, map, Option, Some, None, codes}
use Rattle.serde_json.specs.Data.{Data, unsigned, null, boolean, number, string, array, object, Members, no_members, member, put}
use Rattle.serde_json.specs.View.{items_of}
use Rattle.serde_json.specs.Written.{compact_text}
use Rattle.tso_terms.specs.Litmus.{Litmus}
use Rattle.tso_terms.specs.Condition.{Condition}
use Rattle.tso_terms.specs.Thread.{value_in}
use Rattle.basic_laws.specs.Types.{Bus, Atomic, Split, Eax, Ebx, Ecx, Edx, Esi, Edi, Entry}
use Rattle.order_builder.specs.PrintedOrder.{printed_entry}
use Rattle.protocol_tables.specs.Names.{protocol_name}
use Rattle.protocol_tables.specs.declared.kind.ProtocolKind.{ProtocolKind}
use Rattle.multiprocessor.specs.Configuration.{Configuration}
use Rattle.multiprocessor.specs.declared.counts.Counts.{Counts}
use Rattle.tso_report.specs.Shown.{ShownRun}
use Rattle.tso_report.specs.Report.{line, printed_quantifier}

abbrev pub count : ℕ → Data
count n = number (unsigned n)

-- the counts of one core's cache
abbrev pub counts_value : Counts → Data
counts_value c =
    object (member (codes "flushes") (count c.flushes)
    (member (codes "forwards") (count c.forwards)
    (member (codes "hits") (count c.hits)
    (member (codes "misses") (count c.misses)
    (member (codes "upgrades") (count c.upgrades)
    (member (codes "write_backs") (count c.write_backs) no_members))))))

abbrev pub cache_value : List Counts → Data
cache_value cs = array (items_of (map counts_value cs))

abbrev pub choices_value : ℕ → ℕ → ℕ → Data
choices_value used stalled unused =
    object (member (codes "stalled") (count stalled)
    (member (codes "unused") (count unused)
    (member (codes "used") (count used) no_members)))

-- what stands for the quantifier, and the truth of the proposition
abbrev pub verdict_value : List ℕ → Bool → Data
verdict_value kind holds = object (member (codes "holds") (boolean holds) (member (codes "kind") (string kind) no_members))

-- the condition's quantifier and the truth of its proposition, or `null`
abbrev pub condition_value : Option Condition → Option Bool → Data
condition_value None holds = null
condition_value (Some condition) None = null
condition_value (Some condition) (Some holds) = verdict_value (printed_quantifier condition.quantifier) holds

-- a split bus is named before these members; the atomic bus isn't
abbrev pub with_bus : Bus → Members → Members
with_bus Atomic members = members
with_bus Split members = member (codes "bus") (string (codes "split")) members

abbrev pub configuration_members : ProtocolKind → Configuration → Members
configuration_members kind c =
    member (codes "depth") (count c.depth)
    (member (codes "protocol") (string (protocol_name kind))
    (member (codes "sets") (count c.shape.sets)
    (member (codes "ways") (count c.shape.ways)
    (member (codes "words") (count c.shape.words) no_members))))

abbrev pub machine_value : ProtocolKind → Configuration → Data
machine_value kind c = object (with_bus c.bus (configuration_members kind c))

-- a member for each location, each where the bytes of its name belong
abbrev pub memory_members : List (List ℕ) → List ℕ → Members
memory_members [] words = no_members
memory_members (name ∷ names) [] = no_members
memory_members (name ∷ names) (word ∷ words) = put name (count word) (memory_members names words)

abbrev pub memory_value : Litmus → List ℕ → Data
memory_value t words = object (memory_members t.locations words)

-- each entry as it is printed
abbrev pub order_value : Litmus → List Entry → Data
order_value t order = array (items_of (map (λ e. string (printed_entry t e)) order))

-- the registers of one core
abbrev pub registers_value : List ℕ → Data
registers_value registers =
    object (member (codes "EAX") (count (value_in registers Eax))
    (member (codes "EBX") (count (value_in registers Ebx))
    (member (codes "ECX") (count (value_in registers Ecx))
    (member (codes "EDI") (count (value_in registers Edi))
    (member (codes "EDX") (count (value_in registers Edx))
    (member (codes "ESI") (count (value_in registers Esi)) no_members))))))

abbrev pub cores_value : List (List ℕ) → Data
cores_value all = array (items_of (map registers_value all))

-- the members of a run of the test on a machine of this protocol and configuration
abbrev pub run_members : Litmus → ProtocolKind → Configuration → ShownRun → Members
run_members t kind c s =
    member (codes "cache") (cache_value s.counts)
    (member (codes "choices") (choices_value s.used s.stalled s.unused)
    (member (codes "condition") (condition_value t.condition s.holds)
    (member (codes "machine") (machine_value kind c)
    (member (codes "memory") (memory_value t s.memory)
    (member (codes "order") (order_value t s.order)
    (member (codes "registers") (cores_value s.registers)
    (member (codes "test") (string t.name) no_members)))))))

-- those of a run that didn't end
abbrev pub unfinished_members : ℕ → ℕ → Members
unfinished_members used stalled =
    member (codes "unfinished") (object
    (member (codes "stalled") (count stalled)
    (member (codes "used") (count used) no_members))) no_members

-- a run, ended or not
abbrev pub run_value : Litmus → ProtocolKind → Configuration → ShownRun → Data
run_value t kind c s = object (run_members t kind c s)

abbrev pub unfinished_run_value : ℕ → ℕ → Data
unfinished_run_value used stalled = object (unfinished_members used stalled)

-- what is printed: the compact text of the value, on one line
abbrev pub json_report : Litmus → ProtocolKind → Configuration → ShownRun → List ℕ
json_report t kind c s = line (compact_text (run_value t kind c s))

abbrev pub json_unfinished : ℕ → ℕ → List ℕ
json_unfinished used stalled = line (compact_text (unfinished_run_value used stalled))
