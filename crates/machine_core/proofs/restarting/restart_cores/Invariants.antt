use Rattle.machine_core.proofs.Vocabulary.{◌≡◌}
use Rattle.machine_core.proofs.Overwriting.{written}
use Rattle.machine_core.proofs.Beginning.{begun}
use Rattle.machine_core.proofs.restarting.restart_cores.Given as goal

abbrev pub invariant-loop-core : goal.invariant-loop-core
invariant-loop-core l = l.processors ≡ written (begun l.test.registers) 0 l.core l.initial.processors
