use Rattle.sweep_runs.proofs.Vocabulary.{ap, Running, on-ok}
use Rattle.sweep_runs.proofs.SweptRuns.{beginning-new, run-is-under, fits-under}
use Rattle.sweep_runs.proofs.sweeping.sweep_on.Goals as goal

pub count_runs-requires-clause-runs : goal.count_runs-requires-clause-runs
count_runs-requires-clause-runs g c = (
  beginning-new (g.P.Protocol.table c.args.protocol) c.args.config c.args.test.now c.in_ok-machine.machine c.in_ok-machine.ensures,
  ap (λ (m : Running). m.test) c.in_ok-machine.ensures,
)

pub returns-clause-counts : goal.returns-clause-counts
returns-clause-counts g c = λ kind is. on-ok c.count_runs.result
    (λ counts.
    counts kind c.args.config
    (λ cs.
    run-is-under (g.P.Protocol.table c.args.protocol) c.args.config c.args.test.now kind c.in_ok-machine.machine cs c.in_ok-machine.ensures is))
    c.count_runs.ensures.counts

pub returns-clause-answers : goal.returns-clause-answers
returns-clause-answers g c = λ kind is. on-ok c.count_runs.result
    (λ answers.
    answers kind c.args.config
    (λ cs.
    fits-under (g.P.Protocol.table c.args.protocol) c.args.config c.args.test.now kind c.in_ok-machine.machine cs c.in_ok-machine.ensures is))
    c.count_runs.ensures.answers
