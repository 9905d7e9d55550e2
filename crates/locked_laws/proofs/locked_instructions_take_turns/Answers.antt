use Rattle.locked_laws.proofs.Turns.{turn}
use Rattle.locked_laws.proofs.locked_instructions_take_turns.Goals as goal

pub returns : goal.returns
returns c = turn c.allowed_candidates_are_executions.ensures c.whole_orders_have_each_entry_once.ensures
