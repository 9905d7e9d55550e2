use Rattle.order_builder.proofs.SpellingLaws.{spelled_from_read, read_from_spelled}
use Rattle.order_builder.proofs.FaultLaws.{order_fault_found, order_fault_again}
use Rattle.order_builder.proofs.order_texts.reading_is_spelling.Goals as goal

pub returns-clause-order : goal.returns-clause-order
returns-clause-order c = λ t text order test small. (spelled_from_read t text order small, read_from_spelled t text order test small)

pub returns-clause-fault : goal.returns-clause-fault
returns-clause-fault c = λ t text fault test. (order_fault_found t text fault test, order_fault_again t text fault test)
