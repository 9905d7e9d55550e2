use Rattle.std.proofs.Common.{refl}
use Rattle.tso_report.specs.Report.{all_registers}
use Rattle.std.specs.Fmt.{digits}
use Rattle.json.specs.Print.{escape_byte, print_from}
use Rattle.worked_examples.proofs.printed_executions.worked_reasons.Goals as goal

pub returns-clause-sb : goal.returns-clause-sb
unfolding digits all_registers
returns-clause-sb c = refl

pub returns-clause-sb_json : goal.returns-clause-sb_json
unfolding digits all_registers escape_byte print_from
returns-clause-sb_json c = refl
