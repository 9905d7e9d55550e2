use Rattle.branch_laws.proofs.InRounds.{union-of-paths}
use Rattle.branch_laws.proofs.outcomes_are_the_union_of_paths.Goals as goal

pub returns : goal.returns
returns c = union-of-paths c.whole_orders_have_each_entry_once.ensures
