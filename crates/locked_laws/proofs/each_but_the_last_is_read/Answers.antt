use Rattle.locked_laws.proofs.Chain.{each-but-the-last-is-read}
use Rattle.locked_laws.proofs.each_but_the_last_is_read.Goals as goal

pub returns : goal.returns
returns c = each-but-the-last-is-read c.locked_instructions_take_turns.ensures
