use Rattle.std.proofs.Common.{refl}
use Rattle.tso_report.specs.Report.{all_registers}
use Rattle.worked_examples.proofs.printed_outcomes.worked_shown_values.Goals as goal

pub returns-clause-condition : goal.returns-clause-condition
unfolding all_registers
returns-clause-condition c = refl

pub returns-clause-registers : goal.returns-clause-registers
unfolding all_registers
returns-clause-registers c = refl

pub returns-clause-all : goal.returns-clause-all
unfolding all_registers
returns-clause-all c = refl

pub returns-clause-none_condition : goal.returns-clause-none_condition
unfolding all_registers
returns-clause-none_condition c = refl

pub returns-clause-none_registers : goal.returns-clause-none_registers
unfolding all_registers
returns-clause-none_registers c = refl

pub returns-clause-none_all : goal.returns-clause-none_all
unfolding all_registers
returns-clause-none_all c = refl
