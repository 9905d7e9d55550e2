use Rattle.std.proofs.Common.{◌+◌, [], ◌++◌, length, slice_index_or, ap, sym, ◌∙◌, refl}
use Rattle.tso_terms.specs.Thread.{entries_of, registers_after, reads_in}
use Rattle.tso_model.proofs.ThreadLemmas.{entries-more, registers-more, reads-here, reads-more, entries-all, registers-all}
use Rattle.tso_model.proofs.thread.thread_entries.Goals as goal

pub loop-instr-init : goal.loop-instr-init
loop-instr-init c =
    let program = c.program-instr-items.result.now in
    record {
      place = refl;
      reads = c.requires.reads ∙ ap reads_in (sym c.program-instr-items.ensures.value);
      entries = ap (λ r. entries_of c.args.core.0 0 program r c.args.reads.now) (sym c.initial_registers.ensures)
          ∙ ap (λ es. es ++ entries_of c.args.core.0 0 program c.initial_registers.result c.args.reads.now) (sym c.new.ensures.items);
      registers = ap (λ r. registers_after program r c.args.reads.now) (sym c.initial_registers.ensures);
    }

pub run_instruction-requires : goal.run_instruction-requires
run_instruction-requires c =
    reads-here c.program-instr-items.result.now c.loop-instr.instr-index _ c.loop-instr-test.true
    (length c.loop-instr.left.now) c.loop-instr.invariant.reads

pub loop-instr-preserved : goal.loop-instr-preserved
loop-instr-preserved c =
    let program = c.program-instr-items.result.now in
    let i = c.loop-instr.instr-index in
    let now = c.loop-instr.thread in
    let new = c.run_instruction.new.thread in
    let left = c.run_instruction.new.reads.now in
    record {
      place = ap (λ n. n + 1) c.loop-instr.invariant.place;
      reads =
          reads-more program i _ c.loop-instr-test.true (length c.loop-instr.left.now) (length left)
          c.in_ok-run_instruction.ensures.left c.loop-instr.invariant.reads;
      entries = entries-more program i _ c.loop-instr-test.true c.args.core.0 c.loop-instr.place now.registers c.loop-instr.left.now new.registers left
          _ now.entries.items new.entries.items c.in_ok-run_instruction.ensures.entries c.loop-instr.invariant.entries;
      registers =
          registers-more program i _ c.loop-instr-test.true now.registers c.loop-instr.left.now new.registers left _
          c.in_ok-run_instruction.ensures.registers c.loop-instr.invariant.registers;
    }

pub returns-clause-entries : goal.returns-clause-entries
returns-clause-entries c =
    let t = c.args.test.now in
    entries-all c.program-instr-items.result.now c.loop-instr.instr-index c.loop-instr-test.false c.args.core.0
    c.loop-instr.place c.loop-instr.thread.registers c.loop-instr.left.now
    _ c.loop-instr.thread.entries.items c.loop-instr.invariant.entries
    ∙ ap (λ p. entries_of c.args.core.0 0 p (slice_index_or t.registers c.args.core.0 []) c.args.reads.now) c.program-instr-items.ensures.value

pub returns-clause-registers : goal.returns-clause-registers
returns-clause-registers c =
    let t = c.args.test.now in
    registers-all c.program-instr-items.result.now c.loop-instr.instr-index c.loop-instr-test.false
    c.loop-instr.thread.registers c.loop-instr.left.now _ c.loop-instr.invariant.registers
    ∙ ap (λ p. registers_after p (slice_index_or t.registers c.args.core.0 []) c.args.reads.now) c.program-instr-items.ensures.value
