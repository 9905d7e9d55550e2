use Rattle.tso_report.proofs.CountLaws.{own-count, other-count, states-ascend}
use Rattle.tso_report.proofs.report_texts.one_more_run_is_counted.Goals as goal

pub returns : goal.returns
returns c = record { own = own-count; others = other-count; order = states-ascend }
