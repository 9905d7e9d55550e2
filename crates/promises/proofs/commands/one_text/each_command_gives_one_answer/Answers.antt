use Rattle.command_line.specs.declared.settings.Settings.TheVariants as settings
use Rattle.promises.proofs.commands.one_text.each_command_gives_one_answer.Goals as goal

pub returns-clause-runs : goal.returns-clause-runs
returns-clause-runs c = λ kind config set json input out other status again one two.
    c.inputs_have_one_answer.ensures.commands (settings.Run kind config set json) input out other status again tt one two

pub returns-clause-traces : goal.returns-clause-traces
returns-clause-traces c = λ kind config set json input out other status again one two.
    c.inputs_have_one_answer.ensures.commands (settings.Trace kind config set json) input out other status again tt one two

pub returns-clause-sweeps : goal.returns-clause-sweeps
returns-clause-sweeps c = λ kind config set plan input out other status again one two.
    c.inputs_have_one_answer.ensures.commands (settings.Sweep kind config set plan) input out other status again tt one two

pub returns-clause-counts : goal.returns-clause-counts
returns-clause-counts c = λ kind config set plan json input out other status again one two.
    c.inputs_have_one_answer.ensures.commands (settings.Counts kind config set plan json) input out other status again tt one two

pub returns-clause-checks : goal.returns-clause-checks
returns-clause-checks c = λ set input out other status again one two.
    c.inputs_have_one_answer.ensures.commands (settings.Check set) input out other status again tt one two

pub returns-clause-witnesses : goal.returns-clause-witnesses
returns-clause-witnesses c = λ depth set input out other status again one two.
    c.inputs_have_one_answer.ensures.commands (settings.Witness depth set) input out other status again tt one two

pub returns-clause-tables : goal.returns-clause-tables
returns-clause-tables c = λ kind input out other status again one two.
    c.inputs_have_one_answer.ensures.commands (settings.Tables kind) input out other status again tt one two
