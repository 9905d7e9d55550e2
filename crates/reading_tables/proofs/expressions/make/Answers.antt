-- What is made comes last, and what was made stays as it is.
use Rattle.reading_tables.proofs.Vocabulary.{◌∙◌, ap, sym, subst, length}
use Rattle.reading_tables.specs.declared.expressions.Held.TheVariants.{Made}
use Rattle.reading_tables.specs.inner.Told.{held_of, all_made, IsMore}
use Rattle.reading_tables.proofs.Makings.{last-made, one-made}
use Rattle.reading_tables.proofs.expressions.make.Goals as goal

pub returns-clause-held : goal.returns-clause-held
returns-clause-held c =
    let old = c.args.walk.now.makings.items in
    let new = c.push.new.self.items in
    ap (λ n. held_of (all_made new) (Made n)) (c.len-number.ensures ∙ c.args.walk.now.makings.ok.0)
    ∙ (ap (λ ms. held_of (all_made ms) (Made (length old))) c.in_ok-push.ensures.items ∙ last-made old c.args.making)

pub returns-clause-more : goal.returns-clause-more
returns-clause-more c =
    let old = c.args.walk.now.makings.items in
    subst (IsMore old) (sym c.in_ok-push.ensures.items) (one-made old c.args.making)
