use Rattle.tso_laws.proofs.Alike.{same-outcome, alike-after}
use Rattle.tso_laws.proofs.Seeing.{ended-alike, seen-ended, seen-all, forgotten-twice}
use Rattle.tso_laws.proofs.left_out_states.dead_registers_change_nothing.Goals as goal

pub returns : goal.returns
returns c = record {
  outcome = λ t d hidden s r choice h. same-outcome t hidden s r h d choice;
  after = λ t d hidden s r choice h. alike-after t hidden s r h d choice;
  ended = ended-alike;
  at_the_end = seen-ended;
  nothing_hidden = seen-all;
  twice = forgotten-twice;
}
