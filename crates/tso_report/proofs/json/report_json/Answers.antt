use Rattle.tso_report.proofs.Vocabulary.{run_members, shown_run}
use Rattle.tso_report.proofs.NoFloats.{run_has_no_float}
use Rattle.tso_report.proofs.json.report_json.Goals as goal

pub line-requires : goal.line-requires
line-requires c =
    let s = shown_run c.args.run.now in (
      run_members c.args.test.now c.args.protocol c.args.config s,
      c.from_made.ensures _ c.run_members.ensures,
      run_has_no_float c.args.test.now c.args.protocol c.args.config s,
    )

pub returns : goal.returns
returns c = c.line.ensures _ (c.from_made.ensures _ c.run_members.ensures)
