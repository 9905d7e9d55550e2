use Rattle.locked_laws.proofs.Sums.{reads-add-up}
use Rattle.locked_laws.proofs.reads_add_up.Goals as goal

pub returns : goal.returns
returns c = reads-add-up c.locked_instructions_take_turns.ensures
