use Rattle.promises.proofs.traces.step_laws.told_changes_lead_on.Goals as goal

pub returns-clause-lead : goal.returns-clause-lead
returns-clause-lead c = c.changes_lead_from_states_to_states.ensures.lead

pub returns-clause-real : goal.returns-clause-real
returns-clause-real c = c.changes_lead_from_states_to_states.ensures.real
