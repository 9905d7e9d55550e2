use Rattle.tso_cli.proofs.Vocabulary.{parts_of, choices-counted}
use Rattle.tso_cli.proofs.WitnessLemmas.{Reaching}
use Rattle.tso_cli.proofs.Replayed.{replayed}
use Rattle.tso_cli.proofs.round_trips.witnesses_reach_their_orders.Goals as goal

pub returns : goal.returns
returns c =
    let texts = c.texts_are_read_one_way.ensures in
    let reaching : Reaching = record {
      lead = c.every_execution_is_reached.ensures;
      never = c.smaller_depths_never_reach.ensures.never;
      counted = λ t depth choices. choices-counted t depth choices c.runs_are_counted.ensures.buffered c.runs_are_counted.ensures.unbuffered;
      spelled = c.printed_choices_are_spelled.ensures;
    } in
    λ kind config set json input out answer status atomic within joinable is ran.
    replayed kind config set json input out answer status texts reaching atomic within
    (c.joined_parts_are_separated.ensures (parts_of input).test out joinable) is ran
