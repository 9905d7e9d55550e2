use Rattle.tso_cli.proofs.Vocabulary.{parts_of, choices-counted}
use Rattle.tso_cli.proofs.WhyLemmas.{Refuting}
use Rattle.tso_cli.proofs.WitnessLemmas.{Reaching}
use Rattle.tso_cli.proofs.ExplainedLemmas.{explained}
use Rattle.tso_cli.proofs.round_trips.reasons_reach_their_executions.Goals as goal

pub returns : goal.returns
returns c =
    let texts = c.texts_are_read_one_way.ensures in
    let reaching : Reaching = record {
      lead = c.every_execution_is_reached.ensures;
      never = c.smaller_depths_never_reach.ensures.never;
      counted = λ t depth choices. choices-counted t depth choices c.runs_are_counted.ensures.buffered c.runs_are_counted.ensures.unbuffered;
      spelled = c.printed_choices_are_spelled.ensures;
    } in
    let laws : Refuting = record {
      names = c.refuted_questions_are_answered.ensures.names;
      executions = c.refutations_by_lemmas_are_sound.ensures.executions;
      tso = c.no_run_meets_what_is_refuted.ensures.tso;
      sequential = c.no_run_meets_what_is_refuted.ensures.sequential;
    } in
    λ kind config set plan json told assert input out status atomic depth within joinable good is.
    explained kind config set plan json told assert input texts reaching laws atomic depth
    (λ rest. c.joined_parts_are_separated.ensures (parts_of input).test rest joinable) out status good is
