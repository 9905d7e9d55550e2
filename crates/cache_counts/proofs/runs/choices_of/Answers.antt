use Rattle.std.proofs.Common.{length, ap, ◌∙◌}
use Rattle.machine_core.proofs.RunningLemmas.{if-ok}
use Rattle.scheduler.proofs.Found.{length_seeded}
use Rattle.cache_counts.proofs.runs.choices_of.Goals as goal

pub returns-clause-length : goal.returns-clause-length
returns-clause-length c =
    if-ok c.seeded_choices.result _ _ (λ v is. ap length is ∙ length_seeded c.args.cores c.args.seed c.args.count) c.seeded_choices.ensures
