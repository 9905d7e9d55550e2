use Rattle.promises.proofs.NoMore.{unnamed-hidden, all-hidden}
use Rattle.promises.proofs.outcomes.shown_states.what_nobody_looks_at_is_hidden.Goals as goal

pub returns-clause-unnamed : goal.returns-clause-unnamed
returns-clause-unnamed c = unnamed-hidden c.hidden_registers.result c.args.test.now c.hidden_registers.ensures.all

pub returns-clause-without : goal.returns-clause-without
returns-clause-without c = all-hidden c.hidden_registers.result c.args.test.now c.hidden_registers.ensures.all
