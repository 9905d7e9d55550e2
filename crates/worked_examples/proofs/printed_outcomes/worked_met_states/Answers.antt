use Rattle.std.proofs.Common.{refl}
use Rattle.std.specs.Fmt.{digits}
use Rattle.json.specs.Print.{escape_byte, print_from}
use Rattle.tso_report.specs.Report.{all_registers}
use Rattle.worked_examples.proofs.printed_outcomes.worked_met_states.Goals as goal

pub returns-clause-lines : goal.returns-clause-lines
unfolding digits all_registers
returns-clause-lines c = refl

pub returns-clause-object : goal.returns-clause-object
unfolding digits all_registers escape_byte print_from
returns-clause-object c = refl

pub returns-clause-no_lines : goal.returns-clause-no_lines
unfolding digits all_registers
returns-clause-no_lines c = refl

pub returns-clause-no_object : goal.returns-clause-no_object
unfolding digits all_registers escape_byte print_from
returns-clause-no_object c = refl
