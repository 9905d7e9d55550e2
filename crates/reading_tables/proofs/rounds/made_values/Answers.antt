use Rattle.reading_tables.proofs.Vocabulary.{◌≡◌, ◌∙◌, ap, subst}
use Rattle.std.specs.Prelude.{IfOk}
use Rattle.possible_reads.specs.Possible.{values_of, values_read}
use Rattle.reading_tables.specs.inner.Told.{known_of, unmade}
use Rattle.reading_tables.proofs.MadeValues.{made-value-at}
use Rattle.reading_tables.proofs.rounds.made_values.Goals as goal

pub returns-in-Some : goal.returns-in-Some
returns-in-Some c readings es are =
    let found = c.in-Some.values.now in
    subst (λ values. IfOk c.copy.result (λ v. known_of v ≡ values))
    (ap known_of c.in-Some.ensures.lookup.1
    ∙ made-value-at (values_of (values_read readings)) es c.args.made.now c.args.number found unmade are c.in-Some.ensures.lookup.3.0) c.copy.ensures
