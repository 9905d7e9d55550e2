use Rattle.promises.proofs.Vocabulary.{ap, Entry, ShownStep}
use Rattle.promises.proofs.printed.trace_steps.a_line_tells_each_field.Goals as goal

pub returns-clause-choice : goal.returns-clause-choice
returns-clause-choice given = λ s other same. ap (λ (x : ShownStep). x.choice) same

pub returns-clause-outcome : goal.returns-clause-outcome
returns-clause-outcome given = λ s other same. ap (λ (x : ShownStep). x.outcome) same

pub returns-clause-entries : goal.returns-clause-entries
returns-clause-entries given = λ s other same. ap (λ (x : ShownStep). x.entries) same

pub returns-clause-moved : goal.returns-clause-moved
returns-clause-moved given = λ s other same. ap (λ (x : ShownStep). x.moved) same

pub returns-clause-forwarded : goal.returns-clause-forwarded
returns-clause-forwarded given = λ s other same. ap (λ (x : ShownStep). x.forwarded) same

pub returns-clause-access : goal.returns-clause-access
returns-clause-access given = λ s other same. ap (λ (x : ShownStep). x.access) same

pub returns-clause-request : goal.returns-clause-request
returns-clause-request given = λ s other same. ap (λ (x : ShownStep). x.request) same

pub returns-clause-flushed : goal.returns-clause-flushed
returns-clause-flushed given = λ s other same. ap (λ (x : ShownStep). x.flushed) same

pub returns-clause-wrote_back : goal.returns-clause-wrote_back
returns-clause-wrote_back given = λ s other same. ap (λ (x : ShownStep). x.wrote_back) same

pub returns-clause-changes : goal.returns-clause-changes
returns-clause-changes given = λ s other same. ap (λ (x : ShownStep). x.changes) same

pub returns-clause-buffer : goal.returns-clause-buffer
returns-clause-buffer given = λ s other same. ap (λ (x : ShownStep). x.buffer) same

pub returns-clause-location : goal.returns-clause-location
returns-clause-location given = λ e other same. ap (λ (x : Entry). x.loc) same

pub returns-clause-value : goal.returns-clause-value
returns-clause-value given = λ e other same. ap (λ (x : Entry). x.value) same
