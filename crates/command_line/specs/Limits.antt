-- The settings that a command may be run with: whatever the words were, what comes of them is within these limits.
use Rattle.std.specs.Prelude.{ℕ, ◌≤◌, IfSome}
use Rattle.tso_terms.specs.Limits.{least_depth, most_depth}
use Rattle.multiprocessor.specs.Configuration.{IsConfigurationWithinLimits}
use Rattle.scheduler.specs.Plan.{IsPlanWithinLimits}
use Rattle.command_line.specs.Search.{IsSearchWithinLimits}
use Rattle.command_line.specs.Explanation.{IsExplanationWithinLimits}
use Rattle.command_line.specs.declared.settings.Settings.{Settings}
use Rattle.command_line.specs.declared.settings.Settings.TheVariants.{Run, Trace, Sweep, Counts, Outcomes, Why, Check, Witness, Tables}

-- the depth at which a witness is asked for
abbrev pub IsDepth : ℕ → Type 0
IsDepth depth = (least_depth ≤ depth) × (depth ≤ most_depth)

-- a test is run on a machine within its limits, a sweep's plan, a search and the search for a reason are within their own, and a
-- witness is asked for at a depth within them
abbrev pub IsWithinLimits : Settings → Type 0
IsWithinLimits (Run protocol config instructions json) = IsConfigurationWithinLimits config
IsWithinLimits (Trace protocol config instructions json) = IsConfigurationWithinLimits config
IsWithinLimits (Sweep protocol config instructions plan) = IsConfigurationWithinLimits config × IsPlanWithinLimits plan
IsWithinLimits (Counts protocol config instructions plan json) = IsConfigurationWithinLimits config × IfSome plan IsPlanWithinLimits
IsWithinLimits (Outcomes search instructions json assert) = IsSearchWithinLimits search
IsWithinLimits (Why plan instructions json assert) = IsExplanationWithinLimits plan
IsWithinLimits (Check instructions) = Unit {0}
IsWithinLimits (Witness depth instructions) = IsDepth depth
IsWithinLimits (Tables kind) = Unit {0}

-- what a caller has to see to: a configuration, a plan and each search are within their limits, the depth of a witness needn't be
abbrev pub HasDepth : Settings → Type 0
HasDepth (Run protocol config instructions json) = Unit {0}
HasDepth (Trace protocol config instructions json) = Unit {0}
HasDepth (Sweep protocol config instructions plan) = Unit {0}
HasDepth (Counts protocol config instructions plan json) = Unit {0}
HasDepth (Outcomes search instructions json assert) = Unit {0}
HasDepth (Why plan instructions json assert) = Unit {0}
HasDepth (Check instructions) = Unit {0}
HasDepth (Witness depth instructions) = IsDepth depth
HasDepth (Tables kind) = Unit {0}
