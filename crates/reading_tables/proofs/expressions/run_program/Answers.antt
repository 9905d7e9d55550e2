use Rattle.reading_tables.proofs.Vocabulary.{◌+◌, ◌++◌, arith, ap, sym, ◌∙◌, refl, append-nil, one-more, all-done}
use Rattle.possible_reads.specs.Expressions.{written_in, registers_at_end}
use Rattle.reading_tables.specs.inner.Told.{held_registers, told_writes}
use Rattle.reading_tables.proofs.Makings.{as-before, and-more}
use Rattle.reading_tables.proofs.expressions.run_program.Goals as goal

pub loop-instr-init : goal.loop-instr-init
loop-instr-init c = record { place = refl; walk = c.requires.walk; more = as-before c.args.walk.now.makings.items; written = refl; registers = refl }

pub overflow_add-place : goal.overflow_add-place
overflow_add-place c =
    let place = c.loop-instr.invariant.place in
    let size = c.program-instr-items.ensures.size in
    let within = c.loop-instr-test.true in
    omega arith

pub loop-instr-preserved : goal.loop-instr-preserved
loop-instr-preserved c =
    let i = c.loop-instr.instr-index in
    let now = c.loop-instr.walk in
    let new = c.run_instruction.new.walk in
    record {
      place = ap (λ n. n + 1) c.loop-instr.invariant.place;
      walk = c.in_ok-run_instruction.ensures.walk;
      more = and-more c.args.walk.now.makings.items now.makings.items new.makings.items c.loop-instr.invariant.more c.in_ok-run_instruction.ensures.more;
      written = one-more (λ p. told_writes now ++ written_in c.args.core.0 c.loop-instr.place p (held_registers now))
          (λ p. told_writes new ++ written_in c.args.core.0 (c.loop-instr.place + 1) p (held_registers new))
          c.program-instr-items.result.now i _ c.loop-instr-test.true _ c.in_ok-run_instruction.ensures.written c.loop-instr.invariant.written;
      registers = one-more (λ p. registers_at_end c.args.core.0 c.loop-instr.place p (held_registers now))
          (λ p. registers_at_end c.args.core.0 (c.loop-instr.place + 1) p (held_registers new))
          c.program-instr-items.result.now i _ c.loop-instr-test.true _ c.in_ok-run_instruction.ensures.registers c.loop-instr.invariant.registers;
    }

pub returns-clause-written : goal.returns-clause-written
returns-clause-written c =
    sym (all-done (λ p. told_writes c.loop-instr.walk ++ written_in c.args.core.0 c.loop-instr.place p (held_registers c.loop-instr.walk))
    c.program-instr-items.result.now c.loop-instr.instr-index c.loop-instr-test.false _ c.loop-instr.invariant.written
    ∙ append-nil (told_writes c.loop-instr.walk))
    ∙ ap (λ p. told_writes c.args.walk.now ++ written_in c.args.core.0 0 p (held_registers c.args.walk.now)) c.program-instr-items.ensures.value

pub returns-clause-registers : goal.returns-clause-registers
returns-clause-registers c =
    sym (all-done (λ p. registers_at_end c.args.core.0 c.loop-instr.place p (held_registers c.loop-instr.walk))
    c.program-instr-items.result.now c.loop-instr.instr-index c.loop-instr-test.false _ c.loop-instr.invariant.registers)
    ∙ ap (λ p. registers_at_end c.args.core.0 0 p (held_registers c.args.walk.now)) c.program-instr-items.ensures.value
