-- The lines that `check` writes: that an order is valid, or its first breach with the entries concerned.
use Rattle.std.specs.Prelude.{ℕ, List, [], ◌++◌, slice_index_or, codes}
use Rattle.std.specs.Fmt.{decimal}
use Rattle.tso_cli.specs.Vocabulary.{Breach, Entry, Extra, letters_of, Litmus, Missing, NoMemory, NotAdjacent, OrderFault, printed_entry}
use Rattle.tso_cli.specs.Vocabulary.{ProgramOrder, ReadValue, Twice, WrongValue}
use Rattle.basic_laws.specs.Types.{Kind, F}
use Rattle.tso_report.specs.Report.{line}
use Rattle.order_builder.specs.declared.fault.OrderFault.TheVariants as orders

-- why an order is refused; being out of memory is no refusal and has no line
abbrev pub order_refusal : OrderFault → List ℕ
order_refusal orders.NoOrder = line (codes "Refused order NoOrder")
order_refusal (orders.BadLine number) = codes "Refused order line " ++ (decimal number ++ line (codes " BadLine"))
order_refusal orders.BadCount = line (codes "Refused order BadCount")
order_refusal orders.NoMemory = []

-- where an action that the order lacks would read or write, ` x`; a fence does neither
abbrev pub missing_access : Litmus → Kind → ℕ → List ℕ
missing_access t F loc = []
missing_access t _ loc = codes " " ++ slice_index_or t.locations loc []

-- an action that the order lacks, `Pc:p K x`, or `Pc:p F`
abbrev pub missing_action : Litmus → ℕ → ℕ → Kind → ℕ → List ℕ
missing_action t core place kind loc =
    codes "P" ++ (decimal core ++ (codes ":" ++ (decimal place ++ (codes " " ++ (letters_of kind ++ missing_access t kind loc)))))

-- an entry, and the value that it should have
abbrev pub entry_with_due : Litmus → Entry → ℕ → List ℕ
entry_with_due t x due = printed_entry t x ++ (codes " due=" ++ decimal due)

-- an entry, and one that it comes after
abbrev pub entry_after : Litmus → Entry → Entry → List ℕ
entry_after t x y = printed_entry t x ++ (codes " after " ++ printed_entry t y)

-- the axiom that is broken, and by what
abbrev pub breach_text : Litmus → Breach → List ℕ
breach_text t (Extra x) = codes "C1 extra " ++ printed_entry t x
breach_text t (Twice x) = codes "C1 twice " ++ printed_entry t x
breach_text t (Missing core place kind loc) = codes "C1 missing " ++ missing_action t core.0 place kind loc.0
breach_text t (WrongValue x due) = codes "C2 " ++ entry_with_due t x due
breach_text t (ProgramOrder x y) = codes "C3 " ++ entry_after t x y
breach_text t (NotAdjacent x) = codes "C4 " ++ printed_entry t x
breach_text t (ReadValue x due) = codes "C5 " ++ entry_with_due t x due
breach_text t NoMemory = []

-- `Check valid`
abbrev pub valid_line : List ℕ
valid_line = line (codes "Check valid")

-- `Check invalid ..`
abbrev pub invalid_line : Litmus → Breach → List ℕ
invalid_line t b = codes "Check invalid " ++ line (breach_text t b)
