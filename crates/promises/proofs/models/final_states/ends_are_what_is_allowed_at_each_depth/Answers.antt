use Rattle.promises.proofs.models.final_states.ends_are_what_is_allowed_at_each_depth.Goals as goal

pub returns : goal.returns
returns c = record { by_depth = c.ends_are_what_tso_allows.ensures.by_depth }
