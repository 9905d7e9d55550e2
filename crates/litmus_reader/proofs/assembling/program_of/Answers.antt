use Rattle.litmus_reader.proofs.PartsAssembled.{program_whole}
use Rattle.litmus_reader.proofs.assembling.program_of.Goals as goal

pub returns : goal.returns
returns c = program_whole c.args.core c.loop-i.i-index c.args.instrs.now c.loop-i.program.items _ c.loop-i-test.false c.loop-i.invariant
