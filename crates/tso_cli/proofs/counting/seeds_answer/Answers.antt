use Rattle.tso_cli.proofs.Vocabulary.{Some, ap, ◌∙◌}
use Rattle.tso_cli.specs.Counts.{told_counts, counts_status}
use Rattle.tso_cli.proofs.counting.seeds_answer.Goals as goal

pub returns : goal.returns
returns c =
    let setup = c.args.setup.now in
    let counted = c.in_ok-runs.ensures.counted in
    record {
      text = c.in_ok-text.ensures ∙ ap (told_counts c.args.json setup.test.now setup.protocol setup.config (Some c.args.plan)) counted;
      status_is = c.status_of.ensures ∙ ap counts_status counted;
      answers = c.in_ok-runs.ensures.answers;
    }
