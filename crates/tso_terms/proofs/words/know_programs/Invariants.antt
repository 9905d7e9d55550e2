use Rattle.std.specs.Prelude.{All}
use Rattle.std.specs.List.{AllWithin}
use Rattle.tso_terms.specs.Litmus.{ConstantIsWord}
use Rattle.tso_terms.proofs.words.know_programs.Given as goal

abbrev pub invariant-loop-program : goal.invariant-loop-program
invariant-loop-program l = AllWithin (λ p. All ConstantIsWord p.items) l.programs 0 l.program-index
