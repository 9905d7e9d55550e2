use Rattle.cache_counts.proofs.AddingUp.{counts-add-up}
use Rattle.cache_counts.proofs.laws.counts_add_up.Goals as goal

pub returns : goal.returns
returns c =
    counts-add-up c.attempts_lead_from_state_to_state.ensures c.what_holds_so_far_on_either_bus.ensures c.atomic_runs_are_flat_runs.ensures
