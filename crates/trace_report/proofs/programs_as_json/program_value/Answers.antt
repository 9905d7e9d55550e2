use Rattle.tso_report.specs.inner.Arrays.{IsBegun}
use Rattle.trace_report.proofs.Vocabulary.{map, ap, subst, drop_more, drop_all, string, instruction_text}
use Rattle.trace_report.proofs.programs_as_json.program_value.Goals as goal

pub loop-instr-preserved : goal.loop-instr-preserved
loop-instr-preserved c =
    let xs = c.args.program.now in
    let text = instruction_text c.args.test.now in
    let still = ap (λ l. map string (map text l)) (drop_more xs c.loop-instr.instr-index _ c.loop-instr-test.true) in
    c.with-texts.ensures _ _ _ (subst (λ ds. IsBegun c.loop-instr.texts ds (map string (map text xs))) still c.loop-instr.invariant) c.instruction_value.ensures

pub instruction_value-requires : goal.instruction_value-requires
instruction_value-requires c = c.requires c.loop-instr.instr-index _ c.loop-instr-test.true

pub returns : goal.returns
returns c =
    let xs = c.args.program.now in
    let text = instruction_text c.args.test.now in
    let none = ap (λ l. map string (map text l)) (drop_all c.loop-instr.instr-index xs c.loop-instr-test.false) in
    c.value.ensures _ (subst (λ ds. IsBegun c.loop-instr.texts ds (map string (map text xs))) none c.loop-instr.invariant)
