use Rattle.std.specs.List.{AllWithin}
use Rattle.tso_terms.specs.Litmus.{IsProgram}
use Rattle.tso_terms.proofs.validity.programs_fit.Given as goal

abbrev pub invariant-loop-program : goal.invariant-loop-program
invariant-loop-program l = AllWithin (λ program. IsProgram l.locations program.items) l.programs 0 l.program-index
