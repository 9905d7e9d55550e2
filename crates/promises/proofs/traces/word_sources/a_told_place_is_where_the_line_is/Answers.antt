use Rattle.std.proofs.Common.{None, Some}
use Rattle.tso_terms.specs.FlatMachine.{chosen}
use Rattle.tso_terms.specs.MemoryAccess.{access_of}
use Rattle.machine_core.specs.Running.{machine_use}
use Rattle.promises.proofs.WordsFound.{bus-absent, bus-held, own-copy, supplied-absent, supplied-first, supplied-free}
use Rattle.promises.proofs.traces.word_sources.a_told_place_is_where_the_line_is.Goals as goal

pub returns-clause-own : goal.returns-clause-own
returns-clause-own c = λ m choice line found accessed.
    own-copy m.statistics.caches (chosen choice) line (access_of m.test m.depth m.state.flat choice) found accessed

pub returns-clause-held : goal.returns-clause-held
returns-clause-held c = λ m choice found. (bus-held m.statistics.caches m.state.holder choice (access_of m.test m.depth m.state.flat choice) found).0

pub returns-clause-awaited : goal.returns-clause-awaited
returns-clause-awaited c = λ m choice found. (bus-held m.statistics.caches m.state.holder choice (access_of m.test m.depth m.state.flat choice) found).1

pub returns-clause-absent : goal.returns-clause-absent
returns-clause-absent c = λ m choice line found accessed.
    bus-absent m.statistics.caches m.state.holder choice line (access_of m.test m.depth m.state.flat choice) found accessed

pub returns-clause-free : goal.returns-clause-free
returns-clause-free c = λ m choice other found.
    supplied-free m.statistics.caches m.state.holder (chosen choice) (access_of m.test m.depth m.state.flat choice)
    (machine_use m choice).how (Some other) found

pub returns-clause-asked : goal.returns-clause-asked
returns-clause-asked c = λ m choice other line found accessed.
    supplied-absent m.statistics.caches m.state.holder (chosen choice) (access_of m.test m.depth m.state.flat choice)
    (machine_use m choice).how (Some other) line found accessed

pub returns-clause-first : goal.returns-clause-first
returns-clause-first c = λ m choice other request found made.
    supplied-first m.statistics.caches m.state.holder (chosen choice) (access_of m.test m.depth m.state.flat choice)
    (machine_use m choice).how (Some other) request found made

pub returns-clause-none : goal.returns-clause-none
returns-clause-none c = λ m choice request found made.
    supplied-first m.statistics.caches m.state.holder (chosen choice) (access_of m.test m.depth m.state.flat choice)
    (machine_use m choice).how None request found made
