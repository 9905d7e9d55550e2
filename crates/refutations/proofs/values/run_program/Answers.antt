use Rattle.refutations.proofs.Vocabulary.{◌+◌, ◌++◌, arith, ap, sym, ◌∙◌, refl, append-nil, writes_of, left_of, returned}
use Rattle.refutations.proofs.Walking.{one-more, all-done}
use Rattle.refutations.proofs.values.run_program.Goals as goal

pub loop-instr-init : goal.loop-instr-init
loop-instr-init c = record { place = refl; writes = refl; registers = refl }

pub overflow_add-place : goal.overflow_add-place
overflow_add-place c =
    let place = c.loop-instr.invariant.place in
    let size = c.program-instr-items.ensures.size in
    let within = c.loop-instr-test.true in
    omega arith

pub loop-instr-preserved : goal.loop-instr-preserved
loop-instr-preserved c =
    let given = returned c.args.reads.test.now c.args.reads.writes.now c.args.reads.sources.now in
    let i = c.loop-instr.instr-index in
    let now = c.loop-instr.walk in
    let new = c.run_instruction.new.walk in
    record {
      place = ap (λ n. n + 1) c.loop-instr.invariant.place;
      writes = one-more (λ p. now.writes.items ++ writes_of given c.args.core.0 c.loop-instr.place p now.registers)
          (λ p. new.writes.items ++ writes_of given c.args.core.0 (c.loop-instr.place + 1) p new.registers)
          c.program-instr-items.result.now i _ c.loop-instr-test.true _ c.in_ok-run_instruction.ensures.writes c.loop-instr.invariant.writes;
      registers = one-more (λ p. left_of given c.args.core.0 c.loop-instr.place p now.registers)
          (λ p. left_of given c.args.core.0 (c.loop-instr.place + 1) p new.registers)
          c.program-instr-items.result.now i _ c.loop-instr-test.true _ c.in_ok-run_instruction.ensures.registers c.loop-instr.invariant.registers;
    }

pub returns-clause-writes : goal.returns-clause-writes
returns-clause-writes c =
    let given = returned c.args.reads.test.now c.args.reads.writes.now c.args.reads.sources.now in
    sym (all-done (λ p. c.loop-instr.walk.writes.items ++ writes_of given c.args.core.0 c.loop-instr.place p c.loop-instr.walk.registers)
    c.program-instr-items.result.now c.loop-instr.instr-index c.loop-instr-test.false _ c.loop-instr.invariant.writes
    ∙ append-nil c.loop-instr.walk.writes.items)
    ∙ ap (λ p. c.args.walk.now.writes.items ++ writes_of given c.args.core.0 0 p c.args.walk.now.registers) c.program-instr-items.ensures.value

pub returns-clause-registers : goal.returns-clause-registers
returns-clause-registers c =
    let given = returned c.args.reads.test.now c.args.reads.writes.now c.args.reads.sources.now in
    sym (all-done (λ p. left_of given c.args.core.0 c.loop-instr.place p c.loop-instr.walk.registers)
    c.program-instr-items.result.now c.loop-instr.instr-index c.loop-instr-test.false _ c.loop-instr.invariant.registers)
    ∙ ap (λ p. left_of given c.args.core.0 0 p c.args.walk.now.registers) c.program-instr-items.ensures.value
