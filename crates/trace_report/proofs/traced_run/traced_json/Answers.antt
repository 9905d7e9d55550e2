use Rattle.trace_report.proofs.Vocabulary.{refl, view}
use Rattle.trace_report.specs.TracedRun.{ending_members}
use Rattle.trace_report.proofs.NoFloatsWhole.{more_has_no_float, ending_has_no_float}
use Rattle.trace_report.proofs.traced_run.traced_json.Goals as goal

pub line-requires : goal.line-requires
line-requires c =
    let t = c.args.setup.now.test.now in
    let members = ending_members t c.args.setup.now.protocol c.args.setup.now.config c.args.ending.now in (
      _,
      c.member-3.ensures _ _ (c.member-2.ensures _ _
          (c.member.ensures _ (view c.args.trace) (c.from_made.ensures _ c.ending_members.ensures) refl)
          c.proposition_value.ensures)
          c.programs_value.ensures,
      more_has_no_float t (view c.args.trace) members c.requires.trace
          (ending_has_no_float t c.args.setup.now.protocol c.args.setup.now.config c.args.ending.now),
    )

pub returns : goal.returns
returns c =
    c.line.ensures _
    (c.member-3.ensures _ _ (c.member-2.ensures _ _
    (c.member.ensures _ (view c.args.trace) (c.from_made.ensures _ c.ending_members.ensures) refl)
    c.proposition_value.ensures)
    c.programs_value.ensures)
