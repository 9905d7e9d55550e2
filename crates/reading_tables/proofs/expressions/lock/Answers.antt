use Rattle.reading_tables.proofs.Vocabulary.{◌∙◌, ◌++◌, ◌∷◌, [], List, ap, length, map}
use Rattle.std.specs.Prelude.{Vec}
use Rattle.std.specs.Global.{Global}
use Rattle.possible_reads.specs.Expressions.{Expression, Returned, Written, taken_by}
use Rattle.reading_tables.specs.declared.expressions.Making.{Making}
use Rattle.reading_tables.specs.inner.Told.{held_of, all_made, made_in, told_writes}
use Rattle.reading_tables.proofs.Makings.{same-registers, same-writes, still-walk}
use Rattle.reading_tables.proofs.expressions.lock.Goals as goal

pub note-requires-clause-walk : goal.note-requires-clause-walk
note-requires-clause-walk c =
    still-walk c.args.walk.now c.updated_by.new.walk c.in_ok-value.ensures.more c.requires c.updated_by.ensures.written c.updated_by.ensures.registers

pub returns-clause-walk : goal.returns-clause-walk
returns-clause-walk c = record {
  registers = c.take_returned.ensures.made (length c.note.new.walk.makings.items) c.in_ok-note.ensures.walk.registers;
  written = c.in_ok-note.ensures.walk.written;
}

pub returns-clause-writes : goal.returns-clause-writes
returns-clause-writes c =
    let old = c.args.walk.now in
    let new = c.updated_by.new.walk in
    c.in_ok-note.ensures.written
    ∙ (ap (λ (ws : List Written). ws ++ (record { write = c.args.write; value = held_of (made_in new) c.in_ok-value.value } ∷ []))
    (same-writes old new c.in_ok-value.ensures.more c.requires c.updated_by.ensures.written)
    ∙ ap (λ (e : Expression). told_writes old ++ (record { write = c.args.write; value = e } ∷ [])) c.in_ok-value.ensures.held)

pub returns-clause-registers : goal.returns-clause-registers
returns-clause-registers c =
    let new = c.updated_by.new.walk in
    let noted = c.note.new.walk in
    c.take_returned.ensures.held (made_in noted)
    ∙ ap (λ (rs : List Expression). taken_by rs c.args.target (Returned c.args.read))
    (ap (λ (ms : Vec Making Global). map (held_of (all_made ms.items)) noted.registers) c.note.ensures.makings
    ∙ (ap (map (held_of (made_in new))) c.note.ensures.registers
    ∙ same-registers c.args.walk.now new c.in_ok-value.ensures.more c.requires c.updated_by.ensures.registers))
