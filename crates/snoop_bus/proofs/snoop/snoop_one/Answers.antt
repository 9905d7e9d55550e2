use Rattle.snoop_bus.proofs.Vocabulary.{rules}
use Rattle.snoop_bus.proofs.snoop.snoop_one.Goals as goal

pub returns-in-S : goal.returns-in-S
returns-in-S g c = search rules
