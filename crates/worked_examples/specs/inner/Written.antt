-- What a choice on a split bus comes to, written out by constructors and numerals alone.
use Rattle.std.specs.Prelude.{List}
use Rattle.worked_examples.specs.Vocabulary.{BusEffect, CoreState, Holder}
use Rattle.basic_laws.specs.Types.{Entry, Outcome}
use Rattle.worked_examples.specs.Written.{comes}

-- the same on a split bus, and who holds the bus afterwards
abbrev pub comes_with : Outcome → CoreState → List Entry → Holder → BusEffect
comes_with outcome after commits holder = record { effect = comes outcome after commits; holder = holder }
