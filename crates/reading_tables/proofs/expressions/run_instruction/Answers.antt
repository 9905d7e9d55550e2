use Rattle.reading_tables.proofs.Vocabulary.{◌∙◌, ap, sym, length, map, append-nil}
use Rattle.std.specs.Prelude.{slice_set}
use Rattle.tso_terms.specs.Registers.{index_of}
use Rattle.tso_terms.specs.declared.action.Action.TheVariants.{Load}
use Rattle.possible_reads.specs.Expressions.{Returned}
use Rattle.reading_tables.specs.inner.Told.{held_of, made_in, held_registers, told_writes}
use Rattle.reading_tables.proofs.Walking.{write-step, register-step}
use Rattle.reading_tables.proofs.expressions.run_instruction.Goals as goal

pub note-requires-clause-value : goal.note-requires-clause-value
note-requires-clause-value c = c.operand_in-value.ensures.made (length c.args.walk.now.makings.items) c.requires.registers

pub returns-in-Load-clause-walk : goal.returns-in-Load-clause-walk
returns-in-Load-clause-walk c = record {
  registers = c.take_returned.ensures.made (length c.args.walk.now.makings.items) c.requires.registers;
  written = c.requires.written;
}

pub returns-in-Load-clause-written : goal.returns-in-Load-clause-written
returns-in-Load-clause-written c rest =
    let old = c.args.walk.now in
    let registers = held_registers old in
    write-step c.args.core.0 c.args.place c.args.instr (Load c.in-Load.reg c.in-Load.loc) rest (told_writes old) (told_writes old) registers
    (map (held_of (made_in old)) c.take_returned.new.registers) c.in-Load.ensures (sym (append-nil (told_writes old)))
    (c.take_returned.ensures.held (made_in old) ∙ ap (λ e. slice_set registers (index_of c.in-Load.reg) (Returned e)) c.event-read.ensures)

pub returns-in-Load-clause-registers : goal.returns-in-Load-clause-registers
returns-in-Load-clause-registers c rest =
    let old = c.args.walk.now in
    let registers = held_registers old in
    register-step c.args.core.0 c.args.place c.args.instr (Load c.in-Load.reg c.in-Load.loc) rest registers
    (map (held_of (made_in old)) c.take_returned.new.registers) c.in-Load.ensures
    (c.take_returned.ensures.held (made_in old) ∙ ap (λ e. slice_set registers (index_of c.in-Load.reg) (Returned e)) c.event-read.ensures)
