use Rattle.std.specs.List.{AllWithin}
use Rattle.tso_terms.specs.Litmus.{KnownLocation}
use Rattle.tso_terms.proofs.validity.program_fits.Given as goal

abbrev pub invariant-loop-instr : goal.invariant-loop-instr
invariant-loop-instr l = AllWithin (KnownLocation l.locations) l.program 0 l.instr-index
