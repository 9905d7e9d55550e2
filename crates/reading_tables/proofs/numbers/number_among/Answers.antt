use Rattle.reading_tables.proofs.Vocabulary.{◌≤◌, ◌∙◌, sym, ap, subst, refl, length, arith}
use Rattle.reading_tables.specs.inner.Numbers.{others_before}
use Rattle.reading_tables.proofs.WriteNumbers.{passed, no-more-others}
use Rattle.reading_tables.proofs.numbers.number_among.Goals as goal

pub loop-number-init : goal.loop-number-init
loop-number-init c =
    let written = c.args.written.now in
    let core = c.args.write.now.core.0 in
    let first = c.first_of_core-number.result in
    let few : first ≤ others_before written core =
    subst (λ n. n ≤ others_before written core) (sym c.first_of_core-number.ensures) (c.requires core) in
    let most = no-more-others written core in
    record {
      rest = passed written core first c.args.write.now refl few;
      within = omega (arith, few, most);
    }
