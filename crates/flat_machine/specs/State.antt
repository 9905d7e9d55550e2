-- The state of the flat machine that a snapshot has: by it each step of the search is held against the machine's
-- definition.
use Rattle.std.specs.Prelude.{map}
use Rattle.tso_terms.specs.FlatMachine.{CoreState, State}
use Rattle.flat_machine.specs.declared.snapshot.Processor.{Processor}
use Rattle.flat_machine.specs.declared.snapshot.Snapshot.{Snapshot}

abbrev pub core_of_processor : Processor → CoreState
core_of_processor c = record { place = c.place; registers = c.registers; pending = c.pending.items }

abbrev pub state_of_snapshot : Snapshot → State
state_of_snapshot s = record { memory = s.memory.items; cores = map core_of_processor s.cores.items }
