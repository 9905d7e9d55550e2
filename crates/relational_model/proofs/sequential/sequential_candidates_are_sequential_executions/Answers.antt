use Rattle.relational_model.proofs.SequentialFacts.{is-sequential, tso-allows}
use Rattle.relational_model.proofs.SequentialOrders.{is-of-a-sequential-execution}
use Rattle.relational_model.proofs.sequential.sequential_candidates_are_sequential_executions.Goals as goal

pub returns-clause-sequential : goal.returns-clause-sequential
returns-clause-sequential c = λ t order d s h.
    let k = c.whole_orders_have_each_entry_once.ensures in
    is-sequential t order d
    (record {
      made = λ e i. k.made_by_the_programs t order e s.execution.whole i;
      once = λ i j e p q. k.once t order i j e s.execution.whole p q;
    }) s.execution s.keeps h

pub returns-clause-executions : goal.returns-clause-executions
returns-clause-executions c = λ t d a. is-of-a-sequential-execution t d a

pub returns-clause-allowed : goal.returns-clause-allowed
returns-clause-allowed c = λ t d a. tso-allows t d a
