use Rattle.reading_tables.proofs.Vocabulary.{◌≡◌, ◌∙◌, None, if◌then◌else◌, ap, sym, map}
use Rattle.tso_terms.specs.ProgramOrder.{same_kind}
use Rattle.basic_laws.specs.Types.{LW}
use Rattle.possible_reads.specs.Expressions.{expression_of, expression_among}
use Rattle.possible_reads.specs.Possible.{addend_in, load_part_of, amount_in}
use Rattle.reading_tables.specs.inner.Told.{held_of, written_of, all_made}
use Rattle.reading_tables.proofs.Addends.{held-amount}
use Rattle.reading_tables.proofs.amounts.amount_of.Goals as goal

pub returns-in_default : goal.returns-in_default
returns-in_default c t are =
    let write = c.args.write.now in
    let makings = c.args.made.now.makings.items in
    let held = c.value_among.result in
    let is : held_of (all_made makings) held ≡ expression_of t write =
    c.value_among.ensures (all_made makings)
    ∙ (ap (λ ws. expression_among (map (written_of (all_made makings)) ws) write) c.deref.ensures.value ∙ ap (λ ws. expression_among ws write) are.written) in
    c.amount_added.ensures
    ∙ (ap (λ ms. if same_kind write.kind LW then addend_in (load_part_of write) (held_of (all_made ms) held) else None) c.deref-in_default.ensures.value
    ∙ (sym (held-amount write makings held c.in_default.not-Number) ∙ ap (amount_in write) is))
