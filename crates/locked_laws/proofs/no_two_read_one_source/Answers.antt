use Rattle.locked_laws.proofs.Chain.{no-two-read-one-source}
use Rattle.locked_laws.proofs.no_two_read_one_source.Goals as goal

pub returns : goal.returns
returns c = no-two-read-one-source c.locked_instructions_take_turns.ensures
