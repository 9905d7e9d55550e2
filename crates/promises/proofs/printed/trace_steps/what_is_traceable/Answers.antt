use Rattle.promises.proofs.printed.trace_steps.what_is_traceable.Goals as goal

pub returns-clause-exist : goal.returns-clause-exist
returns-clause-exist given = λ t kind c choices is. is.exist

pub returns-clause-few : goal.returns-clause-few
returns-clause-few given = λ t kind c choices is. is.few

pub returns-clause-answers : goal.returns-clause-answers
returns-clause-answers given = λ t kind c choices is. is.answers
