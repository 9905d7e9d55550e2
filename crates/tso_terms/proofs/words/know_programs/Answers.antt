use Rattle.std.proofs.Common.{arith, All}
use Rattle.std.proofs.lemmas.List.Elements.{at_read, AllWithin-more, AllWithin-upto, All-from_all_within}
use Rattle.tso_terms.specs.Litmus.{ConstantIsWord}
use Rattle.tso_terms.proofs.words.know_programs.Goals as goal

pub loop-program-preserved : goal.loop-program-preserved
loop-program-preserved c =
    AllWithin-more (λ p. All ConstantIsWord p.items) c.args.programs.now 0 c.loop-program.program-index c.loop-program.invariant
    (at_read c.args.programs.now (λ p. All ConstantIsWord p.items) c.loop-program.program-index c.program-item.result c.loop-program-test.true c.program-item.is
    (rw c.deref.ensures.value at c.know_constants.ensures))

pub returns : goal.returns
returns c =
    All-from_all_within (λ p. All ConstantIsWord p.items) c.args.programs.now
    (AllWithin-upto (λ p. All ConstantIsWord p.items) c.args.programs.now 0 c.loop-program.program-index _ (omega arith) c.loop-program.invariant)
