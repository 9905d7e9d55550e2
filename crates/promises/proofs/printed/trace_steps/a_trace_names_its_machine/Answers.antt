use Rattle.promises.proofs.printed.trace_steps.a_trace_names_its_machine.Goals as goal

pub returns-clause-lines : goal.returns-clause-lines
returns-clause-lines given = λ t u kind other_kind c d choices other p q r s x y same.
    given.printed_traces_tell_their_machines.ensures.lines t u kind other_kind c d choices other p q r s x y
    (λ isnt. absurd (let no : ⊥ = cc in no)) same

pub returns-clause-json : goal.returns-clause-json
returns-clause-json given = λ t u kind other_kind c d choices other p q r s x y ended ended_other same.
    given.printed_traces_tell_their_machines.ensures.json t u kind other_kind c d choices other p q r s x y (λ is. (ended, ended_other)) same
