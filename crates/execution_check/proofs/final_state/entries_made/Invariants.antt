use Rattle.std.proofs.Common.{◌≡◌, ◌++◌, drop}
use Rattle.tso_terms.specs.ProgramEntries.{made, made_from}
use Rattle.execution_check.proofs.final_state.entries_made.Given as goal

abbrev pub invariant-loop-number : goal.invariant-loop-number
invariant-loop-number l = made l.test l.order ≡ l.made.items ++ made_from l.number (drop l.number l.test.programs) l.test.registers l.order
