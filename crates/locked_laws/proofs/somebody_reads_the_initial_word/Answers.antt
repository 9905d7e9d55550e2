use Rattle.locked_laws.proofs.Chain.{somebody-reads-the-initial-word}
use Rattle.locked_laws.proofs.somebody_reads_the_initial_word.Goals as goal

pub returns : goal.returns
returns c = somebody-reads-the-initial-word c.locked_instructions_take_turns.ensures
