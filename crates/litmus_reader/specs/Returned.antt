-- The condition that a test has, where it has one.
use Rattle.std.specs.Prelude.{Option}
use Rattle.std.specs.Option.{option_map}
use Rattle.tso_terms.specs.Condition.{Condition, condition_of}
use Rattle.litmus_reader.specs.Vocabulary.{Cond}

-- a condition, if there is one
abbrev pub asked_of : Option Cond → Option Condition
asked_of cond = option_map condition_of cond
