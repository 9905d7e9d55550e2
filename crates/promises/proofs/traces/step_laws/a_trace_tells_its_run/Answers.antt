use Rattle.promises.proofs.traces.step_laws.a_trace_tells_its_run.Goals as goal

pub returns-clause-either : goal.returns-clause-either
returns-clause-either c = c.traces_tell_their_runs.ensures.either

pub returns-clause-atomic : goal.returns-clause-atomic
returns-clause-atomic c = c.traces_tell_their_runs.ensures.atomic
