use Rattle.reading_tables.proofs.Vocabulary.{◌≡◌, ◌∙◌, ◌<◌, ◌≤◌, ℕ, Bool, true, false, refl, sym, ap, subst, get_or, length, if◌then◌else◌}
use Rattle.std.proofs.lemmas.List.{length-map}
use Rattle.possible_reads.specs.Expressions.{Constant, expression_among, expression_of}
use Rattle.possible_reads.specs.Possible.{never_wraps, least_by}
use Rattle.reading_tables.specs.inner.Told.{all_made}
use Rattle.reading_tables.specs.inner.Numbers.{number_among}
use Rattle.reading_tables.specs.inner.Tables.{readings_of}
use Rattle.reading_tables.proofs.WriteNumbers.{least-among, none-among}
use Rattle.reading_tables.proofs.leasts.least_written.Goals as goal

pub returns-in-Some : goal.returns-in-Some
returns-in-Some c =
    let told = c.args.told in
    c.in-Some.ensures.lookup.1
    ∙ (ap (λ n. get_or told.least.now n c.in-Some.least.now) c.number_among.ensures.number
    ∙ least-among told.test.now (readings_of told.readings.now) told.written.now told.least.now c.args.write.now c.in-Some.least.now
    c.requires.least (subst (λ n. n < length told.least.now) c.number_among.ensures.number c.in-Some.ensures.lookup.3.0))

pub returns-in-None : goal.returns-in-None
returns-in-None c =
    let told = c.args.told in
    let write = c.args.write.now in
    let made = all_made told.makings.now in
    let past : length told.written.now ≤ number_among told.written.now write =
    subst (λ n. n ≤ number_among told.written.now write) (ap length c.requires.least ∙ length-map told.written.now _)
    (subst (λ n. length told.least.now ≤ n) c.number_among.ensures.number c.in-None.ensures.lookup.3) in
    let none : expression_of told.test.now write ≡ Constant 0 =
    ap (λ ws. expression_among ws write) (sym c.requires.written) ∙ none-among made told.written.now write past in
    sym (ap (λ e. if never_wraps told.test.now write.loc.0 then least_by (readings_of told.readings.now) write e else 0) none
    ∙ both (never_wraps told.test.now write.loc.0))
  where
    both : (b : Bool) → ◌≡◌ {A = ℕ} (if b then 0 else 0) 0
    both true = refl
    both false = refl
