use Rattle.sweep_runs.proofs.Vocabulary.{◌∙◌, ap, run, on-ok}
use Rattle.sweep_runs.proofs.FlatSweeps.{run-is-of-all, answers-fit}
use Rattle.sweep_runs.proofs.flat_sweep.sweep_flat.Goals as goal

pub returns-clause-counts : goal.returns-clause-counts
returns-clause-counts c = on-ok c.count_runs.result
    (λ counts kind.
    counts kind c.args.config
    (λ cs.
    ap (λ d. run c.args.test.now d cs) c.depth.ensures.value
    ∙ run-is-of-all c.args.test.now kind c.args.config cs c.requires.bus))
    c.count_runs.ensures.counts

pub returns-clause-answers : goal.returns-clause-answers
returns-clause-answers c = on-ok c.count_runs.result
    (λ answers kind. answers kind c.args.config (λ cs _. answers-fit c.args.test.now kind c.args.config cs c.requires.bus)) c.count_runs.ensures.answers
