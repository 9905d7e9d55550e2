use Rattle.relational_model.proofs.Found.{has-candidate}
use Rattle.relational_model.proofs.executions_have_candidates.Goals as goal

pub returns : goal.returns
returns c = λ t order tso.
    let k = c.whole_orders_have_each_entry_once.ensures in
    has-candidate t order
    (record { made = λ e i. k.made_by_the_programs t order e tso.whole i; once = λ i j e p q. k.once t order i j e tso.whole p q })
