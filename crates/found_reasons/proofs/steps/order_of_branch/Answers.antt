use Rattle.found_reasons.proofs.Vocabulary.{known_of, facts_of}
use Rattle.reading_tables.specs.inner.Tables.{readings_of}
use Rattle.found_reasons.proofs.Determining.{allowed-told}
use Rattle.found_reasons.proofs.steps.order_of_branch.Goals as goal

pub make_order-requires-clause-allowed : goal.make_order-requires-clause-allowed
make_order-requires-clause-allowed c =
    allowed-told c.last_words_are_possible.ensures c.args.model c.args.told.test.now c.know_limits.ensures (facts_of c.args.told.facts.now) c.requires.branch
    (readings_of c.args.told.readings.now) c.requires.table (known_of c.args.answers.now) c.requires.answers c.requires.full c.requires.leafless
