use Rattle.std.proofs.Common.{◌≡◌, drop}
use Rattle.tso_report.specs.ShownNames.{writes_one}
use Rattle.tso_report.proofs.shown_names.writes_one.Given as goal

abbrev pub invariant-loop-instr : goal.invariant-loop-instr
invariant-loop-instr l = writes_one (drop l.instr-index l.program) l.reg ≡ writes_one l.program l.reg
