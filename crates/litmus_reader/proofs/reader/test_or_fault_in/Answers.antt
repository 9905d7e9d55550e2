use Rattle.litmus_reader.proofs.Decided.{read_only}
use Rattle.litmus_reader.proofs.reader.test_or_fault_in.Goals as goal

pub returns-clause-only : goal.returns-clause-only
returns-clause-only c = λ t spelled. read_only c.read_whole.result t _ spelled c.read_whole.ensures
