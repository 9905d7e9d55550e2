use Rattle.reading_tables.proofs.Vocabulary.{◌∙◌, ap, sym, length}
use Rattle.std.specs.Prelude.{slice_set}
use Rattle.tso_terms.specs.Registers.{index_of}
use Rattle.possible_reads.specs.Expressions.{held_in, changed_by}
use Rattle.reading_tables.specs.inner.Told.{held_of, made_in, held_registers}
use Rattle.reading_tables.proofs.expressions.change.Goals as goal

pub returns-in-Swap-clause-walk : goal.returns-in-Swap-clause-walk
returns-in-Swap-clause-walk c =
    let n = length c.args.walk.now.makings.items in
    let old = c.requires.registers in
    record {
      registers = c.set_register-in-Swap.ensures.made n (c.set_register.ensures.made n old (c.held_in-second.ensures.made n old))
          (c.held_in-first.ensures.made n old);
      written = c.requires.written;
    }

pub returns-in-Swap-clause-registers : goal.returns-in-Swap-clause-registers
returns-in-Swap-clause-registers c =
    let made = made_in c.args.walk.now in
    let old = held_registers c.args.walk.now in
    let n = index_of c.in-Swap.reg in
    let k = index_of c.in-Swap.other in
    c.set_register-in-Swap.ensures.held made
    ∙ (ap (λ rs. slice_set rs k (held_of made c.held_in-first.result)) (c.set_register.ensures.held made)
    ∙ (ap (λ e. slice_set (slice_set old n e) k (held_of made c.held_in-first.result)) (c.held_in-second.ensures.held made)
    ∙ (ap (λ e. slice_set (slice_set old n (held_in old c.in-Swap.other)) k e) (c.held_in-first.ensures.held made)
    ∙ ap (λ change. changed_by change old) (sym c.in-Swap.is))))
