use Rattle.promises.proofs.traces.cores_and_caches.a_stall_tells_its_reason.Goals as goal

pub returns : goal.returns
returns c = record { reason = c.steps_are_told.ensures.stalls }
