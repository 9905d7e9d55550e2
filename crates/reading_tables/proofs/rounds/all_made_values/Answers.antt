use Rattle.reading_tables.proofs.Vocabulary.{sym, subst, List, Option}
use Rattle.std.specs.Prelude.{ℕ, Vec, take, ◌+◌}
use Rattle.std.specs.Global.{Global}
use Rattle.reading_tables.specs.inner.Told.{all_made}
use Rattle.reading_tables.specs.inner.Tables.{readings_of, AreMadeValues}
use Rattle.reading_tables.proofs.MadeValues.{one-value-more}
use Rattle.reading_tables.proofs.rounds.all_made_values.Goals as goal

pub loop-making-preserved : goal.loop-making-preserved
loop-making-preserved c =
    let table = readings_of c.args.readings.now in
    let makings = c.args.makings.now in
    let i = c.loop-making.making-index in
    let done = c.loop-making.made.items in
    subst (λ (vs : List (Option (Vec ℕ Global))). AreMadeValues table (all_made (take (i + 1) makings)) vs) (sym c.in_ok-push.ensures.items)
    (one-value-more table makings i _ done c.in_ok-values.values c.loop-making-test.true c.loop-making.invariant
    (c.in_ok-values.ensures (all_made (take i makings))
    (subst (λ (vs : List (Option (Vec ℕ Global))). AreMadeValues table (all_made (take i makings)) vs) (sym c.deref.ensures.value) c.loop-making.invariant)))
