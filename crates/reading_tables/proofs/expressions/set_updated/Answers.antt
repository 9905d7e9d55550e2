use Rattle.reading_tables.proofs.Vocabulary.{◌∙◌, ap, length}
use Rattle.std.specs.Prelude.{slice_set}
use Rattle.tso_terms.specs.Registers.{index_of}
use Rattle.possible_reads.specs.Expressions.{updated_by}
use Rattle.reading_tables.specs.inner.Told.{held_of, made_in, held_registers}
use Rattle.reading_tables.proofs.Makings.{same-registers, same-writes, still-walk}
use Rattle.reading_tables.proofs.expressions.set_updated.Goals as goal

pub updated_by-requires-clause-word : goal.updated_by-requires-clause-word
updated_by-requires-clause-word c = c.held_in-word.ensures.made (length c.args.walk.now.makings.items) c.requires.registers

pub returns-clause-walk : goal.returns-clause-walk
returns-clause-walk c =
    let new = c.updated_by.new.walk in
    let walk = still-walk c.args.walk.now new c.in_ok-held.ensures.more c.requires c.updated_by.ensures.written c.updated_by.ensures.registers in
    record {
      registers = c.set_register.ensures.made (length new.makings.items) walk.registers c.in_ok-held.ensures.made;
      written = walk.written;
    }

pub returns-clause-writes : goal.returns-clause-writes
returns-clause-writes c =
    same-writes c.args.walk.now c.updated_by.new.walk c.in_ok-held.ensures.more c.requires c.updated_by.ensures.written

pub returns-clause-registers : goal.returns-clause-registers
returns-clause-registers c =
    let old = c.args.walk.now in
    let new = c.updated_by.new.walk in
    let n = index_of c.args.reg in
    c.set_register.ensures.held (made_in new)
    ∙ (ap (λ rs. slice_set rs n (held_of (made_in new) c.in_ok-held.held))
    (same-registers old new c.in_ok-held.ensures.more c.requires c.updated_by.ensures.registers)
    ∙ ap (λ e. slice_set (held_registers old) n e)
    (c.in_ok-held.ensures.held ∙ ap (updated_by c.args.update (held_registers old)) (c.held_in-word.ensures.held (made_in old))))
