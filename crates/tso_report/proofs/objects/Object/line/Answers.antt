use Rattle.tso_report.proofs.Vocabulary.{◌∙◌, ap, has_float}
use Rattle.tso_report.proofs.objects.Object.line.Goals as goal

pub line_of-requires : goal.line_of-requires
line_of-requires c = ap has_float (c.in_ok-value.ensures _ c.requires.1) ∙ c.requires.2
