-- The text of a run that ended: lines, each of which tells one thing, so that scripts can look for them by their first
-- word.
use Rattle.std.specs.Prelude.{ℕ, ◌+◌, Bool, true, false, List, [], ◌∷◌, ◌++◌, Option, Some, None, codes}
use Rattle.std.specs.Fmt.{decimal}
use Rattle.tso_terms.specs.Litmus.{Litmus}
use Rattle.tso_terms.specs.Condition.{Condition}
use Rattle.tso_terms.specs.Registers.{name_of}
use Rattle.tso_terms.specs.Thread.{value_in}
use Rattle.basic_laws.specs.Types.{Reg, Eax, Ebx, Ecx, Edx, Esi, Edi, Bus, Atomic, Split, Quantifier, Exists, NotExists, Forall}
use Rattle.order_builder.specs.PrintedOrder.{printed_order}
use Rattle.protocol_tables.specs.Names.{protocol_name}
pub use Rattle.protocol_tables.specs.PrintedTable.{line}
use Rattle.protocol_tables.specs.declared.kind.ProtocolKind.{ProtocolKind}
use Rattle.cache_set.specs.Geometry.{Geometry}
use Rattle.multiprocessor.specs.Configuration.{Configuration}
use Rattle.multiprocessor.specs.declared.counts.Counts.{Counts}
use Rattle.tso_report.specs.Shown.{ShownRun}

-- `Test NAME`
abbrev pub test_line : Litmus → List ℕ
test_line t = codes "Test " ++ line t.name

-- ` sets=S ways=W words=L`
abbrev pub shape_text : Geometry → List ℕ
shape_text g = codes " sets=" ++ (decimal g.sets ++ (codes " ways=" ++ (decimal g.ways ++ (codes " words=" ++ decimal g.words))))

-- ` bus=split`; the atomic bus isn't named
abbrev pub bus_text : Bus → List ℕ
bus_text Atomic = []
bus_text Split = codes " bus=split"

-- `Machine msi depth=D sets=S ways=W words=L`, and after it ` bus=split` on a split bus
abbrev pub machine_line : ProtocolKind → Configuration → List ℕ
machine_line kind c =
    codes "Machine " ++ (protocol_name kind ++ (codes " depth=" ++ (decimal c.depth ++ line (shape_text c.shape ++ bus_text c.bus))))

-- ` EAX=v`
abbrev pub printed_register : List ℕ → Reg → List ℕ
printed_register registers reg = codes " " ++ (name_of reg ++ (codes "=" ++ decimal (value_in registers reg)))

abbrev pub printed_registers : List ℕ → List Reg → List ℕ
printed_registers registers [] = []
printed_registers registers (reg ∷ rest) = printed_register registers reg ++ printed_registers registers rest

unfoldable pub all_registers : List Reg
all_registers = Eax ∷ (Ebx ∷ (Ecx ∷ (Edx ∷ (Esi ∷ (Edi ∷ [])))))

-- `Registers Pc EAX=v ..`
abbrev pub register_line : ℕ → List ℕ → List ℕ
register_line core registers = codes "Registers P" ++ (decimal core ++ line (printed_registers registers all_registers))

-- a line for each core
abbrev pub register_lines : ℕ → List (List ℕ) → List ℕ
register_lines core [] = []
register_lines core (registers ∷ rest) = register_line core registers ++ register_lines (core + 1) rest

-- ` x=v` for each location
abbrev pub printed_words : List (List ℕ) → List ℕ → List ℕ
printed_words [] words = []
printed_words (name ∷ names) [] = []
printed_words (name ∷ names) (word ∷ words) = codes " " ++ (name ++ (codes "=" ++ (decimal word ++ printed_words names words)))

-- `Memory x=v ..`
abbrev pub memory_line : Litmus → List ℕ → List ℕ
memory_line t words = codes "Memory" ++ line (printed_words t.locations words)

abbrev pub printed_quantifier : Quantifier → List ℕ
printed_quantifier Exists = codes "exists"
printed_quantifier NotExists = codes "~exists"
printed_quantifier Forall = codes "forall"

abbrev pub printed_truth : Bool → List ℕ
printed_truth true = codes "true"
printed_truth false = codes "false"

-- the condition's quantifier and the truth of its proposition, or `none`
abbrev pub printed_verdict : Option Condition → Option Bool → List ℕ
printed_verdict None holds = codes "none"
printed_verdict (Some condition) None = codes "none"
printed_verdict (Some condition) (Some holds) = printed_quantifier condition.quantifier ++ (codes " " ++ printed_truth holds)

-- `Condition exists true`
abbrev pub condition_line : Litmus → Option Bool → List ℕ
condition_line t holds = codes "Condition " ++ line (printed_verdict t.condition holds)

-- `Choices used=U stalled=S unused=N`
abbrev pub choices_line : ℕ → ℕ → ℕ → List ℕ
choices_line used stalled unused =
    codes "Choices used=" ++ (decimal used ++ (codes " stalled=" ++ (decimal stalled ++ (codes " unused=" ++ line (decimal unused)))))

-- ` forwards=F write_backs=B flushes=L`
abbrev pub traffic_text : Counts → List ℕ
traffic_text c =
    codes " forwards=" ++ (decimal c.forwards ++ (codes " write_backs=" ++ (decimal c.write_backs
    ++ (codes " flushes=" ++ decimal c.flushes))))

-- `Cache Pc hits=H misses=M upgrades=U forwards=F write_backs=B flushes=L`
abbrev pub cache_line : ℕ → Counts → List ℕ
cache_line core c =
    codes "Cache P" ++ (decimal core ++ (codes " hits=" ++ (decimal c.hits ++ (codes " misses=" ++ (decimal c.misses
    ++ (codes " upgrades=" ++ (decimal c.upgrades ++ line (traffic_text c))))))))

-- a line for each core
abbrev pub cache_lines : ℕ → List Counts → List ℕ
cache_lines core [] = []
cache_lines core (c ∷ rest) = cache_line core c ++ cache_lines (core + 1) rest

-- the first two lines: the test, and the machine that it ran on
abbrev pub head : Litmus → ProtocolKind → Configuration → List ℕ
head t kind c = test_line t ++ machine_line kind c

-- what comes after them: the order, the final state, the verdict, and the counts
abbrev pub body : Litmus → ShownRun → List ℕ
body t s =
    printed_order t s.order ++ (register_lines 0 s.registers ++ (memory_line t s.memory
    ++ (condition_line t s.holds ++ (choices_line s.used s.stalled s.unused ++ cache_lines 0 s.counts))))

-- the report of a run of the test on a machine of this protocol and configuration
abbrev pub report : Litmus → ProtocolKind → Configuration → ShownRun → List ℕ
report t kind c s = head t kind c ++ body t s
