use Rattle.reading_tables.proofs.Vocabulary.{◌∙◌, ◌++◌, ◌≡◌, ◌∷◌, [], Some, ap, false, filter, map}
use Rattle.basic_laws.specs.Types.{LR}
use Rattle.tso_terms.specs.ProgramOrder.{same_kind}
use Rattle.refutation_laws.specs.Refutations.{sources_of}
use Rattle.std.specs.Prelude.{slice_index}
use Rattle.refutation_laws.proofs.Tests.{from-not}
use Rattle.possible_reads.specs.Possible.{any_of, least_after, sources_after, values_from}
use Rattle.reading_tables.specs.Told.{facts_of}
use Rattle.reading_tables.specs.inner.Plain.{first_chosen, is_choice, number_written}
use Rattle.reading_tables.specs.inner.Told.{known_of, speaks_of}
use Rattle.reading_tables.proofs.OneRound.{AreNumbers, all-sources, all-values, plain-is, told-constants}
use Rattle.reading_tables.proofs.OwnFacts.{kept-own}
use Rattle.reading_tables.proofs.plain.plain_reading.Goals as goal

pub returns : goal.returns
returns c =
    let told = c.args.told in
    let t = told.test.now in
    let ws = told.written.now in
    let read = c.args.read.now in
    let facts = facts_of told.facts.now in
    let own = filter (speaks_of read) facts in
    let kind : same_kind read.kind LR ≡ false = from-not (same_kind read.kind LR) c.requires.part in
    let are : AreNumbers t (number_written ws) = told-constants told c.requires.told c.requires.numbers in
    let is-own : facts_of c.deref.result.now ≡ own = ap facts_of c.deref.ensures.value ∙ c.in_ok-facts.ensures in
    let same : sources_after t own [] read ≡ sources_after t facts [] read = kept-own t facts [] read (sources_of t read) in
    let sources : c.in_ok-sources.field-0.sources.items ≡ sources_after t facts [] read =
    c.in_ok-sources.ensures.sources
    ∙ ((λ i. first_chosen t (is-own i) read ++ map (λ x. Some x.write) (filter (is_choice t (is-own i) read) (c.requires.choices i)))
    ∙ (all-sources t ws are own read kind ∙ same)) in
    let values : map (λ n. Some (n ∷ [])) c.in_ok-sources.field-0.values.items ≡ map (values_from t [] read) (sources_after t facts [] read) =
    ap (map (λ n. Some (n ∷ []))) (c.in_ok-sources.ensures.values
    ∙ (λ i. map (λ s. slice_index t.words read.loc.0) (first_chosen t (is-own i) read)
    ++ map (λ x. x.value) (filter (is_choice t (is-own i) read) (c.requires.choices i))))
    ∙ (all-values t ws are own read kind ∙ ap (map (values_from t [] read)) same) in
    plain-is t ws are facts read kind c.in_ok-sources.field-0.sources.items c.in_ok-sources.field-0.values.items (known_of c.in_ok-from.from)
    (known_of c.in_ok-by_facts.by_facts) (known_of c.in_ok-all.all) (known_of c.in_ok-kept.kept) c.least_after-least.result sources values
    (c.in_ok-from.ensures ∙ ap (λ vs. any_of (map (λ n. Some (n ∷ [])) vs)) c.deref-2.ensures.value) c.in_ok-by_facts.ensures c.in_ok-all.ensures
    c.in_ok-kept.ensures
    (c.least_after-least.ensures ∙ (λ i. least_after t (c.requires.first i) read (c.deref-3.ensures.value i) (known_of c.in_ok-kept.kept)))
