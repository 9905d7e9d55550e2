use Rattle.tso_report.proofs.Vocabulary.{refl, unfinished_members}
use Rattle.tso_report.proofs.json.unfinished_json.Goals as goal

pub line-requires : goal.line-requires
line-requires c = (unfinished_members c.args.used c.args.stalled, c.from_made.ensures _ c.unfinished_members.ensures, refl)

pub returns : goal.returns
returns c = c.line.ensures _ (c.from_made.ensures _ c.unfinished_members.ensures)
