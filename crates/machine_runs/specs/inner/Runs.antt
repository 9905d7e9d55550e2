-- A run as the machine makes it, with the answers of its caches, beside the run of the definitions: they are the same run.
use Rattle.std.specs.Prelude.{◌≡◌, true, List}
use Rattle.tso_terms.specs.Litmus.{Litmus}
use Rattle.tso_terms.specs.Runs.{Run}
use Rattle.tso_terms.specs.declared.choice.Choice.{Choice}
use Rattle.protocol_tables.specs.Tables.{Table}
use Rattle.multiprocessor.specs.Configuration.{Configuration}
use Rattle.machine_core.specs.Running.{Running, table_in, configuration_of}
use Rattle.machine_runs.specs.Runs.{AnswersFitBy, run_by}

-- the test has ended then
abbrev pub EndsBy : Table → Configuration → Litmus → List Choice → Type 0
EndsBy table c t choices = (run_by c.bus table c t choices).ended ≡ true

-- the same of a machine at the beginning of its test
abbrev pub machine_run : Running → List Choice → Run
machine_run m choices = run_by m.bus (table_in m) (configuration_of m) m.test choices

abbrev pub AnswersFitOn : Running → List Choice → Type 0
AnswersFitOn m choices = AnswersFitBy (table_in m) (configuration_of m) m.test choices
