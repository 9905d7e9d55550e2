-- What is shown of what is told of a choice.
use Rattle.std.specs.Prelude.{ℕ, Option, None}
use Rattle.tso_terms.specs.declared.choice.Choice.{Choice}
use Rattle.trace_report.specs.Shown.{ShownStep, shown_step}
use Rattle.trace_report.specs.Stalls.{stalled_step}
use Rattle.trace_report.specs.declared.supplied.Source.{Source}
use Rattle.trace_report.specs.declared.telling.Told.{Told}
use Rattle.trace_report.specs.declared.telling.Told.TheVariants.{Stalled, Made}

-- its step
abbrev pub told_step : Choice → Told → ShownStep
told_step choice (Stalled why) = stalled_step choice why
told_step choice (Made step) = shown_step step

-- where its word is found; a choice that stalled reads none
abbrev pub told_source : Told → Option Source
told_source (Stalled why) = None
told_source (Made step) = step.supplied

-- how many stalls are told of it
abbrev pub stalls_told : Told → ℕ
stalls_told (Stalled why) = 1
stalls_told (Made step) = 0
