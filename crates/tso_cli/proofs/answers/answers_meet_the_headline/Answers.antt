use Rattle.tso_cli.proofs.HeadlineLemmas.{Runs, command-means}
use Rattle.tso_cli.proofs.Vocabulary.{choices-counted}
use Rattle.tso_cli.proofs.WitnessLemmas.{Reaching}
use Rattle.tso_cli.proofs.OutcomesLemmas.{Searches}
use Rattle.tso_cli.proofs.WhyLemmas.{Refuting}
use Rattle.tso_cli.proofs.answers.answers_meet_the_headline.Goals as goal

pub returns : goal.returns
returns c =
    let texts = c.texts_are_read_one_way.ensures in
    let runs : Runs = record {
      executions = c.ended_runs_of_machines_are_executions.ensures.executions;
      words = c.ended_runs_of_machines_are_executions.ensures.words;
      unbuffered = c.ended_runs_of_machines_are_executions.ensures.unbuffered;
      atomic = c.ended_runs_of_machines_are_executions.ensures.atomic;
      fits = c.whole_orders_have_each_entry_once.ensures.fits;
      report_spells = c.report_spells_its_order.ensures;
    } in
    let reaching : Reaching = record {
      lead = c.every_execution_is_reached.ensures;
      never = c.smaller_depths_never_reach.ensures.never;
      counted = λ t depth choices. choices-counted t depth choices c.runs_are_counted.ensures.buffered c.runs_are_counted.ensures.unbuffered;
      spelled = c.printed_choices_are_spelled.ensures;
    } in
    let searches : Searches = record {
      ends = c.ends_are_what_tso_allows.ensures;
      counted = c.choices_to_an_end_are_counted.ensures;
    } in
    let refuting : Refuting = record {
      names = c.refuted_questions_are_answered.ensures.names;
      executions = c.refutations_by_lemmas_are_sound.ensures.executions;
      tso = c.no_run_meets_what_is_refuted.ensures.tso;
      sequential = c.no_run_meets_what_is_refuted.ensures.sequential;
    } in
    λ s known out status. command-means s known out status texts runs reaching searches refuting
