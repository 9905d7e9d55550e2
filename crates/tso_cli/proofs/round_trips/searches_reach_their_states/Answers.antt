use Rattle.tso_cli.proofs.Vocabulary.{parts_of, choices-counted}
use Rattle.tso_cli.proofs.OutcomesLemmas.{Searches}
use Rattle.tso_cli.proofs.Revisited.{revisited}
use Rattle.tso_cli.proofs.WitnessLemmas.{Reaching}
use Rattle.tso_cli.proofs.round_trips.searches_reach_their_states.Goals as goal

pub returns : goal.returns
returns c =
    let texts = c.texts_are_read_one_way.ensures in
    let reaching : Reaching = record {
      lead = c.every_execution_is_reached.ensures;
      never = c.smaller_depths_never_reach.ensures.never;
      counted = λ t depth choices. choices-counted t depth choices c.runs_are_counted.ensures.buffered c.runs_are_counted.ensures.unbuffered;
      spelled = c.printed_choices_are_spelled.ensures;
    } in
    let searches : Searches = record {
      ends = c.ends_are_what_tso_allows.ensures;
      counted = c.choices_to_an_end_are_counted.ensures;
    } in
    λ kind config set search json told assert input out status atomic depth within joinable good is.
    revisited kind config set search json told assert input out status texts reaching searches atomic depth
    (λ rest. c.joined_parts_are_separated.ensures (parts_of input).test rest joinable) good is
