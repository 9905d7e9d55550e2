use Rattle.locked_laws.proofs.Sums.{words-add-up}
use Rattle.locked_laws.proofs.words_add_up.Goals as goal

pub returns : goal.returns
returns c = words-add-up c.locked_instructions_take_turns.ensures
