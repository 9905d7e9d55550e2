use Rattle.printed_laws.proofs.reports.Reports.{lines-tell}
use Rattle.printed_laws.proofs.reports.JsonReports.{object-tells}
use Rattle.printed_laws.proofs.runs.reports_tell_their_runs.Goals as goal

pub returns-clause-lines : goal.returns-clause-lines
returns-clause-lines c = lines-tell c.order_is_spelled_once.ensures.once c.report_spells_its_order.ensures c.reports_are_short.ensures

pub returns-clause-json : goal.returns-clause-json
returns-clause-json c = object-tells c.order_is_spelled_once.ensures.once c.printed_order_is_spelled.ensures.alone c.reports_are_short.ensures
