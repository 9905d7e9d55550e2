use Rattle.std.proofs.Common.{arith}
use Rattle.std.proofs.lemmas.List.Elements.{AllWithin-more, AllWithin-upto, All-from_all_within}
use Rattle.tso_terms.specs.Litmus.{ConstantIsWord}
use Rattle.tso_terms.proofs.ListLemmas.{HoldsAt-from_one}
use Rattle.tso_terms.proofs.words.know_constants.Goals as goal

pub loop-instr-preserved : goal.loop-instr-preserved
loop-instr-preserved c =
    AllWithin-more ConstantIsWord c.args.program.now 0 c.loop-instr.instr-index c.loop-instr.invariant
    (HoldsAt-from_one ConstantIsWord c.args.program.now c.loop-instr.instr-index _ c.loop-instr-test.true (c.know_constant.ensures))

pub returns : goal.returns
returns c =
    All-from_all_within ConstantIsWord c.args.program.now
    (AllWithin-upto ConstantIsWord c.args.program.now 0 c.loop-instr.instr-index _ (omega arith) c.loop-instr.invariant)
