use Rattle.promises.proofs.printed.machine_values.what_machines_show.Goals as goal

pub returns-clause-bus : goal.returns-clause-bus
returns-clause-bus given = λ t m n own other is. is.bus

pub returns-clause-places : goal.returns-clause-places
returns-clause-places given = λ t m n own other is. is.places

pub returns-clause-registers : goal.returns-clause-registers
returns-clause-registers given = λ t m n own other is. is.registers

pub returns-clause-buffers : goal.returns-clause-buffers
returns-clause-buffers given = λ t m n own other is. is.buffers

pub returns-clause-copies : goal.returns-clause-copies
returns-clause-copies given = λ t m n own other is. is.copies

pub returns-clause-memory : goal.returns-clause-memory
returns-clause-memory given = λ t m n own other is. is.memory

pub returns-clause-seen : goal.returns-clause-seen
returns-clause-seen given = λ t m n own other is. is.seen
