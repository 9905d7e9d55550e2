use Rattle.tso_report.proofs.Short.{report_short}
use Rattle.tso_report.proofs.report_texts.reports_are_short.Goals as goal

pub returns : goal.returns
returns c = report_short
