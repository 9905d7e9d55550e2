use Rattle.branch_laws.proofs.ShownPaths.{show-the-path}
use Rattle.branch_laws.proofs.final_states_show_the_path.Goals as goal

pub returns : goal.returns
returns c = show-the-path c.whole_orders_have_each_entry_once.ensures
