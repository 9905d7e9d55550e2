use Rattle.reading_tables.proofs.Vocabulary.{◌≡◌, ◌∙◌, ap, sym, map}
use Rattle.possible_reads.specs.Expressions.{expression_of, expression_among}
use Rattle.possible_reads.specs.Possible.{addend_in, addend_or_none, load_part_of, least_read, least_sum, least_by}
use Rattle.reading_tables.specs.inner.Told.{held_of, written_of, all_made}
use Rattle.reading_tables.proofs.Addends.{held-least, none-is-zero}
use Rattle.reading_tables.proofs.amounts.bound_of.Goals as goal

pub returns-in_default : goal.returns-in_default
returns-in_default c t table are =
    let write = c.args.write.now in
    let makings = c.args.made.now.makings.items in
    let held = c.value_among.result in
    let own = load_part_of write in
    let is : held_of (all_made makings) held ≡ expression_of t write =
    c.value_among.ensures (all_made makings)
    ∙ (ap (λ ws. expression_among (map (written_of (all_made makings)) ws) write) c.deref.ensures.value ∙ ap (λ ws. expression_among ws write) are.written) in
    let added : c.unwrap_or.result ≡ addend_or_none (addend_in own (held_of (all_made makings) held)) =
    c.unwrap_or.ensures
    ∙ (none-is-zero c.addend_in.result
    ∙ ap addend_or_none (c.addend_in.ensures
    ∙ (ap (λ r. addend_in r (held_of (all_made c.deref-in_default.result.now) held)) c.load_part_of-own.ensures
    ∙ ap (λ ms. addend_in own (held_of (all_made ms) held)) c.deref-in_default.ensures.value))) in
    ap (λ r. least_sum (least_read table r) c.unwrap_or.result) c.load_part_of-own.ensures
    ∙ (ap (least_sum (least_read table own)) added ∙ (sym (held-least table write makings held c.in_default.not-Number) ∙ ap (least_by table write) is))
