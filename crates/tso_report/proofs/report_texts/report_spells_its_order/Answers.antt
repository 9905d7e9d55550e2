use Rattle.tso_report.proofs.OrderLaw.{report_spells}
use Rattle.tso_report.proofs.report_texts.report_spells_its_order.Goals as goal

pub returns : goal.returns
returns c = report_spells c.printed_order_is_spelled.ensures.amid
