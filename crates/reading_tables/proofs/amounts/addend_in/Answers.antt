use Rattle.reading_tables.proofs.Vocabulary.{◌∙◌, ap, sym}
use Rattle.possible_reads.specs.Possible.{addend_in}
use Rattle.reading_tables.specs.inner.Told.{held_of, all_made}
use Rattle.reading_tables.specs.inner.Addends.{made_addend}
use Rattle.reading_tables.proofs.Addends.{addend-at, no-addend}
use Rattle.reading_tables.proofs.amounts.addend_in.Goals as goal

pub returns-in-Some : goal.returns-in-Some
returns-in-Some c =
    let own = c.args.own.now in
    let makings = c.args.makings.now in
    let found = c.in-Some.making.now in
    c.addend_made.ensures
    ∙ (ap (made_addend own) c.in-Some.ensures.lookup.1
    ∙ (sym (addend-at own makings c.in-Made.number found c.in-Some.ensures.lookup.3.0)
    ∙ ap (λ held. addend_in own (held_of (all_made makings) held)) (sym c.in-Made.is)))

pub returns-in-None : goal.returns-in-None
returns-in-None c =
    let own = c.args.own.now in
    let makings = c.args.makings.now in
    sym (no-addend own makings c.in-Made.number c.in-None.ensures.lookup.3)
    ∙ ap (λ held. addend_in own (held_of (all_made makings) held)) (sym c.in-Made.is)
