use Rattle.std.proofs.Common.{◌≡◌, ◌++◌, drop}
use Rattle.tso_terms.specs.FinalState.{registers_from}
use Rattle.execution_check.proofs.final_state.registers_left.Given as goal

abbrev pub invariant-loop-number : goal.invariant-loop-number
invariant-loop-number l = registers_from 0 l.test.programs l.test.registers l.order
    ≡ l.left.items ++ registers_from l.number (drop l.number l.test.programs) l.test.registers l.order
