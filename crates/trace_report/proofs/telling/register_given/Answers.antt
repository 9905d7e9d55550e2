use Rattle.trace_report.proofs.Looking.{given-value}
use Rattle.trace_report.proofs.telling.register_given.Goals as goal

pub returns : goal.returns
returns g c =
    given-value c.args.machine.now c.args.core.0 c.args.reg c.register.result c.unwrap_or.result c.register.ensures c.unwrap_or.ensures
