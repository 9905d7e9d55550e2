use Rattle.std.proofs.Common.{refl}
use Rattle.tso_report.specs.Report.{all_registers}
use Rattle.std.specs.Fmt.{digits}
use Rattle.json.specs.Print.{escape_byte, print_from}
use Rattle.worked_examples.proofs.printed_refutations.worked_printed_refutations.Goals as goal

pub returns-clause-passing : goal.returns-clause-passing
unfolding digits all_registers
returns-clause-passing c = refl

pub returns-clause-lost : goal.returns-clause-lost
unfolding digits all_registers
returns-clause-lost c = refl

pub returns-clause-two : goal.returns-clause-two
unfolding digits all_registers
returns-clause-two c = refl

pub returns-clause-by_lemma : goal.returns-clause-by_lemma
unfolding digits all_registers
returns-clause-by_lemma c = refl

pub returns-clause-none : goal.returns-clause-none
unfolding digits all_registers
returns-clause-none c = refl

pub returns-clause-count : goal.returns-clause-count
unfolding digits all_registers
returns-clause-count c = refl

pub returns-clause-words : goal.returns-clause-words
unfolding digits all_registers
returns-clause-words c = refl

pub returns-clause-no_value : goal.returns-clause-no_value
unfolding digits all_registers
returns-clause-no_value c = refl

pub returns-clause-turns : goal.returns-clause-turns
unfolding digits all_registers
returns-clause-turns c = refl

pub returns-clause-n6 : goal.returns-clause-n6
unfolding digits all_registers
returns-clause-n6 c = refl

pub returns-clause-passing_json : goal.returns-clause-passing_json
unfolding digits all_registers escape_byte print_from
returns-clause-passing_json c = refl

pub returns-clause-no_value_json : goal.returns-clause-no_value_json
unfolding digits all_registers escape_byte print_from
returns-clause-no_value_json c = refl
