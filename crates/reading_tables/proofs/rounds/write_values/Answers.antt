use Rattle.reading_tables.proofs.Vocabulary.{◌∙◌, ◌++◌, ◌∷◌, [], ap, map, map-append, refl, appended, all-appended}
use Rattle.possible_reads.specs.Possible.{Values, values_of, values_read}
use Rattle.reading_tables.specs.declared.expressions.Written.{Written}
use Rattle.reading_tables.specs.inner.Told.{held_of, known_of}
use Rattle.reading_tables.specs.inner.Tables.{readings_of}
use Rattle.reading_tables.proofs.rounds.write_values.Goals as goal

pub loop-x-preserved : goal.loop-x-preserved
loop-x-preserved c es are =
    let value : Written → Values = λ x. values_of (values_read (readings_of c.args.readings.now)) (held_of es x.value) in
    let done = c.loop-x.values.items in
    appended (map value) c.args.written.now c.loop-x.x-index _ _ (map known_of done) (map known_of c.push.new.self.items) _ c.loop-x-test.true refl
    (ap (map known_of) c.in_ok-push.ensures.items
    ∙ (map-append known_of done (c.in_ok-held_values.field-0 ∷ [])
    ∙ ap (λ v. map known_of done ++ (v ∷ [])) (c.in_ok-held_values.ensures es are)))
    (c.loop-x.invariant es are)

pub returns : goal.returns
returns c es are =
    let value : Written → Values = λ x. values_of (values_read (readings_of c.args.readings.now)) (held_of es x.value) in
    let done = c.loop-x.values.items in
    ap (map known_of) c.in_ok-push-2.ensures.items
    ∙ (map-append known_of done (c.in_ok-one.field-0 ∷ [])
    ∙ (ap (λ vs. vs ++ (known_of c.in_ok-one.field-0 ∷ []))
    (all-appended (map value) c.args.written.now c.loop-x.x-index (map known_of done) _ c.loop-x-test.false refl (c.loop-x.invariant es are))
    ∙ ap (λ v. map value c.args.written.now ++ (v ∷ [])) c.in_ok-one.ensures))
