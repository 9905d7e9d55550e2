-- What the steps of the check tell each other of the first breach: it is found, or there is none and the order is a TSO
-- execution.
use Rattle.std.specs.Prelude.{List, Option, IfSome, IsNone}
use Rattle.tso_terms.specs.Litmus.{Litmus}
use Rattle.tso_terms.specs.Axioms.{IsTsoExecution}
use Rattle.tso_terms.specs.declared.execution.Entry.{Entry}
use Rattle.order_breaches.specs.declared.breach.Breach.{Breach}
use Rattle.order_breaches.specs.FirstBreach.{IsFirstBreach}

-- it is the first breach of the order, or there is none and the order is a TSO execution
pub record TellsFirstBreach (t : Litmus) (order : List Entry) (breach : Option Breach) : Type 0 where
  pub found : IfSome breach (IsFirstBreach t order)
  pub none : IsNone breach → IsTsoExecution t order
