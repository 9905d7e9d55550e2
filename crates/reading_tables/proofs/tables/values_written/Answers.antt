use Rattle.reading_tables.proofs.Vocabulary.{◌≡◌, ◌∙◌, sym, ap, subst, slice_index_or}
use Rattle.possible_reads.specs.Expressions.{expression_among}
use Rattle.possible_reads.specs.Possible as spec
use Rattle.reading_tables.specs.inner.Told.{known_of, all_made}
use Rattle.reading_tables.specs.inner.Tables.{readings_of}
use Rattle.reading_tables.proofs.WriteNumbers.{values-among}
use Rattle.reading_tables.proofs.tables.values_written.Goals as goal

pub returns : goal.returns
returns c =
    let told = c.args.told in
    let reads = spec.values_read (readings_of told.readings.now) in
    ap (λ n. known_of (slice_index_or told.values.now n c.index-told-number_among.result)) c.number_among.ensures.number
    ∙ (values-among reads (all_made told.makings.now) told.written.now told.values.now c.args.write.now
    c.index-told-number_among.result c.requires.values
    ∙ ap (λ ws. spec.values_of reads (expression_among ws c.args.write.now)) c.requires.written)
