use Rattle.reading_tables.proofs.Vocabulary.{List, Option, map, ap, ◌∙◌, sym, subst}
use Rattle.std.specs.Prelude.{ℕ, Vec}
use Rattle.std.specs.Global.{Global}
use Rattle.reading_tables.specs.declared.expressions.Making.{Making}
use Rattle.reading_tables.specs.declared.expressions.Written.{Written}
use Rattle.reading_tables.specs.declared.tables.Reading.{Reading}
use Rattle.reading_tables.specs.inner.Told.{all_made}
use Rattle.reading_tables.specs.inner.Bounds.{bounded_by}
use Rattle.reading_tables.specs.inner.Tables.{readings_of, AreMadeValues, AreValues}
use Rattle.reading_tables.proofs.rounds.table_of.Goals as goal

pub returns-clause-values : goal.returns-clause-values
returns-clause-values c =
    let readings = c.args.readings.items in
    let makings = c.args.problem.now.expressions.makings.items in
    let made = c.in_ok-made.made.items in
    let values = c.in_ok-values.values.items in
    let are : AreMadeValues (readings_of readings) (all_made makings) made =
    subst (λ (ms : List Making). AreMadeValues (readings_of readings) (all_made ms) made) c.deref-2.ensures.value
    (subst (λ (rs : List Reading). AreMadeValues (readings_of rs) (all_made c.deref-2.result.now) made) c.deref.ensures.value c.in_ok-made.ensures) in
    let given : AreMadeValues (readings_of c.deref-3.result.now) (all_made makings) c.deref-4.result.now =
    subst (λ (vs : List (Option (Vec ℕ Global))). AreMadeValues (readings_of c.deref-3.result.now) (all_made makings) vs) (sym c.deref-4.ensures.value)
    (subst (λ (rs : List Reading). AreMadeValues (readings_of rs) (all_made makings) made) (sym c.deref-3.ensures.value) are) in
    record {
      made = are;
      written = subst (λ (ws : List Written). AreValues (readings_of readings) (all_made makings) ws values) c.deref-5.ensures.value
          (subst (λ (rs : List Reading). AreValues (readings_of rs) (all_made makings) c.deref-5.result.now values) c.deref-3.ensures.value
          (c.in_ok-values.ensures (all_made makings) given));
      least = c.in_ok-least.ensures
          ∙ (ap (λ (rs : List Reading). map (bounded_by (readings_of rs)) c.deref-7.result.now) c.deref-6.ensures.value
          ∙ (ap (map (bounded_by (readings_of readings))) c.deref-7.ensures.value ∙ c.requires.bounds (readings_of readings)));
    }
