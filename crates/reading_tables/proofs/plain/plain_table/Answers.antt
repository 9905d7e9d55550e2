use Rattle.reading_tables.proofs.Vocabulary.{◌≡◌, true, list_all, subst}
use Rattle.std.specs.Prelude.{IfOk}
use Rattle.refutation_laws.specs.Known.{events_of}
use Rattle.reading_tables.specs.Told.{facts_of}
use Rattle.reading_tables.specs.inner.Plain.{is_no_load_part}
use Rattle.reading_tables.specs.inner.Tables.{readings_of}
use Rattle.reading_tables.proofs.OneRound.{one-round-tells, problem-constants}
use Rattle.reading_tables.proofs.plain.plain_table.Goals as goal

pub returns-clause-readings : goal.returns-clause-readings
returns-clause-readings c =
    let p = c.args.problem.now in
    let t = p.test.now in
    let parts : list_all is_no_load_part (events_of t) ≡ true =
    subst (λ es. list_all is_no_load_part es ≡ true) c.requires.problem.events c.requires.parts in
    subst (λ rs. IfOk c.first_round.result (λ x. readings_of x.readings.items ≡ rs))
    (one-round-tells t p.expressions.written.items (problem-constants t p c.requires.problem c.requires.numbers) (facts_of c.args.facts.now) parts)
    c.first_round.ensures.readings
