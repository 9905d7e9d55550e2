use Rattle.std.specs.List.{AllWithin}
use Rattle.tso_terms.specs.Litmus.{ConstantIsWord}
use Rattle.tso_terms.proofs.words.know_constants.Given as goal

abbrev pub invariant-loop-instr : goal.invariant-loop-instr
invariant-loop-instr l = AllWithin ConstantIsWord l.program 0 l.instr-index
