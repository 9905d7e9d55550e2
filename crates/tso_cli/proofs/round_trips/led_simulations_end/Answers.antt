use Rattle.tso_cli.proofs.Vocabulary.{choices_along, well-formed}
use Rattle.tso_cli.proofs.WitnessLemmas.{led-ends}
use Rattle.tso_cli.proofs.round_trips.led_simulations_end.Goals as goal

pub returns : goal.returns
returns c = record {
  led = led-ends;
  along = λ t depth order ending test is enough.
      led-ends t depth (choices_along t order) order ending (c.every_execution_is_reached.ensures t depth order (well-formed t test) is enough);
}
