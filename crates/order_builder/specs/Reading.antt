-- How what was answered is held against the reading of an order's text: it is what reading gives, or its fault; out of
-- memory says nothing of the text.
use Rattle.std.specs.Prelude.{◌≡◌, List, Result, Ok, Err}
use Rattle.basic_laws.specs.Types.{Entry, Execution}
use Rattle.order_builder.specs.declared.fault.OrderFault.{OrderFault}
use Rattle.order_builder.specs.declared.fault.OrderFault.TheVariants.{NoOrder, BadLine, BadCount, NoMemory}

-- a fault that was answered is the one that reading gives; out of memory says nothing of the reading
abbrev pub Fails : OrderFault → Result (List Entry) OrderFault → Type 0
Fails NoMemory read = Unit {0}
Fails NoOrder read = read ≡ Err NoOrder
Fails (BadLine number) read = read ≡ Err (BadLine number)
Fails BadCount read = read ≡ Err BadCount

-- what was answered is what reading gives, unless memory ran out
abbrev pub Gives : {X : Type 0} → (X → List Entry) → Result X OrderFault → Result (List Entry) OrderFault → Type 0
Gives view (Ok x) read = read ≡ Ok (view x)
Gives view (Err fault) read = Fails fault read

-- the entries of an order, in their order
abbrev pub entries_of_order : Execution → List Entry
entries_of_order execution = execution.order.items
