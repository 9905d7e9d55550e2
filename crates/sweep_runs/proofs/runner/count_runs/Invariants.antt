use Rattle.sweep_runs.proofs.Vocabulary.{◌≡◌, ◌==◌, List, Choice, ProtocolKind, Configuration, run_under, AnswersFit, Ascend, runs_in}
use Rattle.sweep_runs.proofs.Vocabulary.{counts_from, AnswersFitFrom}
use Rattle.sweep_runs.proofs.runner.count_runs.Given as goal

-- the runs of the seeds so far are counted, and the runner makes the same runs again
abbrev pub invariant-loop-at : goal.invariant-loop-at
invariant-loop-at g l = record {
  test : l.tally.test ≡ l.test;
  runs : g.R.Runner.runs l.runner l.test;
  same : (cs : List Choice) → g.R.Runner.run_of l.runner l.test cs ≡ g.R.Runner.run_of l.fn.runner l.test cs;
  fits : (cs : List Choice) → g.R.Runner.fits l.runner cs → g.R.Runner.fits l.fn.runner cs;
  counts : (kind : ProtocolKind) (config : Configuration) → ((cs : List Choice) → g.R.Runner.run_of l.fn.runner l.test cs ≡ run_under l.test kind config cs)
      → l.tally.counts ≡ counts_from l.test kind config l.fn.plan.length l.fn.plan.from l.at;
  answers : (kind : ProtocolKind) (config : Configuration) → ((cs : List Choice) → g.R.Runner.fits l.fn.runner cs → AnswersFit l.test kind config cs)
      → AnswersFitFrom l.test kind config l.fn.plan.length l.fn.plan.from l.at;
  ascend : Ascend l.tally.counts.states;
  number : runs_in l.tally.counts ≡ l.at;
  ended : l.all_ended ≡ (l.tally.counts.unfinished == 0);
}
