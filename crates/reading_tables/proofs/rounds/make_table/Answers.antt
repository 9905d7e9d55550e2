use Rattle.std.proofs.Common.{rules}
use Rattle.reading_tables.proofs.Vocabulary.{◌<◌, ◌∙◌, sym, ap, length}
use Rattle.reading_tables.specs.Told.{facts_of}
use Rattle.reading_tables.specs.inner.Tables.{readings_of}
use Rattle.reading_tables.proofs.Settled.{settled-at}
use Rattle.reading_tables.proofs.rounds.make_table.Goals as goal

pub returns-then-same_readings-clause-readings : goal.returns-then-same_readings-clause-readings
returns-then-same_readings-clause-readings c =
    let within : c.loop-round._round < length c.args.problem.now.events.items = search rules in
    settled-at c.args.problem.now.test.now (facts_of c.args.facts.now) c.args.problem.now.events.items c.loop-round._round c.requires.events
    within (readings_of c.in_ok-next.next.readings.items)
    (readings_of c.loop-round.table.readings.items) c.in_ok-next.ensures.readings c.loop-round.invariant.readings
    (ap readings_of (sym c.deref.ensures.value) ∙ (c.same_readings.ensures c.if-same_readings.true ∙ ap readings_of c.deref-in-loop-round.ensures.value))
