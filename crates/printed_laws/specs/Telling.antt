-- What is printed tells what it shows: of one test on machines of one protocol and configuration, what is shown alike is the
-- same. Each law is the contract of a function of this crate.
use Rattle.std.specs.Prelude.{ℕ, ◌≡◌, ◌<◌, ◌^◌, Bool}
use Rattle.printed_laws.specs.Vocabulary.{Configuration, CountsFitTest, IsConfigurationWithinLimits, IsTest, Litmus, ProtocolKind, RunFitsTest}
use Rattle.tso_report.specs.Shown.{ShownRun}
use Rattle.tso_report.specs.Tally.{RunCounts, runs_in}
use Rattle.scheduler.specs.Plan.{Plan, IsPlanWithinLimits as IsPlan}
use Rattle.tso_cli.specs.RunTexts.{report_in, unfinished_in}
use Rattle.tso_cli.specs.Sweep.{sweep_lines}

-- of runs that ended: the order, the registers, the memory, the verdict, and all counts
abbrev pub ReportsTellTheirRuns : Bool → Type 0
ReportsTellTheirRuns json =
    (t : Litmus) (kind : ProtocolKind) (c : Configuration) (s other : ShownRun)
    → IsTest t → IsConfigurationWithinLimits c → RunFitsTest t s → RunFitsTest t other
    → report_in json t kind c s ≡ report_in json t kind c other → s ≡ other

-- of runs that didn't end: how many choices were used, and how many of them stalled
abbrev pub UnfinishedRunsAreTold : Bool → Type 0
UnfinishedRunsAreTold json =
    (used stalled other_used other_stalled : ℕ)
    → used < 2 ^ 64 → stalled < 2 ^ 64 → other_used < 2 ^ 64 → other_stalled < 2 ^ 64
    → unfinished_in json used stalled ≡ unfinished_in json other_used other_stalled → (used ≡ other_used) × (stalled ≡ other_stalled)

-- of the runs of a sweep: which states they ended in and how often, how many made the condition's proposition true and
-- false, and how many didn't end
abbrev pub SweepsTellTheirCounts : Type 0
SweepsTellTheirCounts =
    (t : Litmus) (kind : ProtocolKind) (c : Configuration) (plan : Plan) (counts other : RunCounts)
    → CountsFitTest t counts → CountsFitTest t other
    → sweep_lines t kind c plan counts ≡ sweep_lines t kind c plan other → counts ≡ other

-- two reports, or sweeps, name the same: the test by its name, the protocol, and the configuration
pub record NameTheSame (t u : Litmus) (kind other_kind : ProtocolKind) (c d : Configuration) : Type 0 where
  pub test : t.name ≡ u.name
  pub protocol : kind ≡ other_kind
  pub configuration : c ≡ d

-- of runs that ended, also of other tests and on other machines: which test, protocol and configuration it was
abbrev pub ReportsTellTheirMachines : Bool → Type 0
ReportsTellTheirMachines json =
    (t u : Litmus) (kind other_kind : ProtocolKind) (c d : Configuration) (s other : ShownRun)
    → IsTest t → IsTest u → IsConfigurationWithinLimits c → IsConfigurationWithinLimits d → RunFitsTest t s → RunFitsTest u other
    → report_in json t kind c s ≡ report_in json u other_kind d other → NameTheSame t u kind other_kind c d

-- of a sweep the same, and the first seed, the number of seeds and the choices of each
abbrev pub SweepsTellTheirMachines : Type 0
SweepsTellTheirMachines =
    (t u : Litmus) (kind other_kind : ProtocolKind) (c d : Configuration) (plan other_plan : Plan) (counts other : RunCounts)
    → IsTest t → IsTest u → IsConfigurationWithinLimits c → IsConfigurationWithinLimits d → IsPlan plan → IsPlan other_plan
    → runs_in counts ≡ plan.seeds → runs_in other ≡ other_plan.seeds
    → sweep_lines t kind c plan counts ≡ sweep_lines u other_kind d other_plan other
    → NameTheSame t u kind other_kind c d × (plan ≡ other_plan)
