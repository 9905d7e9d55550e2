use Rattle.std.proofs.Common.{◌≡◌}
use Rattle.cache_counts.specs.Counted.{counted_of, seeded_numbers}
use Rattle.cache_counts.specs.inner.Runs.{HasFewRuns}
use Rattle.cache_counts.specs.Runs.{runs_counted, AnswersFitFrom}
use Rattle.cache_counts.proofs.runs.count_seeds.Given as goal

-- the runs of the seeds so far are counted
abbrev pub invariant-loop-at : goal.invariant-loop-at
invariant-loop-at l = record {
  counted : runs_counted l.runs ≡ counted_of (seeded_numbers l.setup.test.now l.setup.protocol l.setup.config l.fn.plan.length l.fn.plan.from) l.at;
  answers : AnswersFitFrom l.setup.test.now l.setup.protocol l.setup.config l.fn.plan.length l.fn.plan.from l.at;
  few : HasFewRuns l.at l.runs;
}
