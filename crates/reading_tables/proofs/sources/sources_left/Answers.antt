use Rattle.reading_tables.proofs.Vocabulary.{◌≡◌, ◌∙◌, sym, ap, subst, filter}
use Rattle.std.specs.Prelude.{IfOk}
use Rattle.possible_reads.specs.Possible as spec
use Rattle.reading_tables.specs.Told.{facts_of}
use Rattle.reading_tables.specs.inner.Told.{speaks_of}
use Rattle.reading_tables.specs.inner.Tables.{readings_of}
use Rattle.reading_tables.proofs.OwnFacts.{kept-own}
use Rattle.reading_tables.proofs.sources.sources_left.Goals as goal

pub returns : goal.returns
returns c =
    let told = c.args.told in
    let read = c.args.read.now in
    let facts = facts_of told.facts.now in
    let table = readings_of told.readings.now in
    let same : filter (spec.can_read_from c.with_facts.result.test.now (facts_of c.with_facts.result.facts.now)
    (readings_of c.with_facts.result.readings.now) read) c.args.sources.now
    ≡ filter (spec.can_read_from told.test.now facts table read) c.args.sources.now =
    ap (λ t. filter (spec.can_read_from t (facts_of c.with_facts.result.facts.now)
    (readings_of c.with_facts.result.readings.now) read) c.args.sources.now) c.with_facts.ensures.test
    ∙ (ap (λ rs. filter (spec.can_read_from told.test.now (facts_of c.with_facts.result.facts.now) (readings_of rs) read) c.args.sources.now)
    c.with_facts.ensures.readings
    ∙ (ap (λ fs. filter (spec.can_read_from told.test.now (facts_of fs) table read) c.args.sources.now)
    (c.with_facts.ensures.facts ∙ c.deref.ensures.value)
    ∙ (ap (λ fs. filter (spec.can_read_from told.test.now fs table read) c.args.sources.now) c.in_ok-facts.ensures
    ∙ kept-own told.test.now facts table read c.args.sources.now))) in
    subst (λ kept. IfOk c.kept_sources.result (λ ss. ss.items ≡ kept)) same c.kept_sources.ensures
