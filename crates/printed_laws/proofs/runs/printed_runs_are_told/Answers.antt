use Rattle.printed_laws.proofs.Vocabulary.{Bool, true, false, ReportsTellTheirRuns, UnfinishedRunsAreTold}
use Rattle.printed_laws.proofs.reports.PrintedRuns.{runs-told}
use Rattle.printed_laws.proofs.runs.printed_runs_are_told.Goals as goal

reports : ReportsTellTheirRuns false → ReportsTellTheirRuns true → (json : Bool) → ReportsTellTheirRuns json
reports lines object false = lines
reports lines object true = object

unfinished : UnfinishedRunsAreTold false → UnfinishedRunsAreTold true → (json : Bool) → UnfinishedRunsAreTold json
unfinished line object false = line
unfinished line object true = object

pub returns : goal.returns
returns c =
    runs-told (reports c.reports_tell_their_runs.ensures.lines c.reports_tell_their_runs.ensures.json)
    (unfinished c.unfinished_runs_are_told.ensures.line c.unfinished_runs_are_told.ensures.json)
    c.runs_fit_their_tests.ensures.ended c.runs_fit_their_tests.ensures.choices
