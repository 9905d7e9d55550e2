use Rattle.scheduler.proofs.Vocabulary.{sym, ◌∙◌, arith}
use Rattle.scheduler.proofs.Items.{seeded_none, seeded_short, after_two, seeded_bad_seed, seeded_bad_count, seeded_too_many, seeded_there}
use Rattle.scheduler.proofs.item.read_seeded.Goals as goal

pub returns-in_default-clause-item : goal.returns-in_default-clause-item
returns-in_default-clause-item c = seeded_none c.args.room c.args.number _ c.in_default.ensures.none

pub returns-in_default-first_word-clause-item : goal.returns-in_default-first_word-clause-item
returns-in_default-first_word-clause-item c = seeded_short c.args.room c.args.number _ _ _ c.in-Some.ensures.some c.in_default-first_word.ensures.none

pub returns-in_default-seed_of-clause-item : goal.returns-in_default-seed_of-clause-item
returns-in_default-seed_of-clause-item c =
    seeded_bad_seed c.args.room c.args.number _ _ _ _ _ c.in-Some.ensures.some c.in-Some-first_word.ensures.some
    (sym c.in_default-seed_of.is ∙ c.seed_of.ensures)

pub returns-then-not-is_numeral-clause-item : goal.returns-then-not-is_numeral-clause-item
returns-then-not-is_numeral-clause-item c =
    seeded_bad_count c.args.room c.args.number _ _ _ _ _ _ c.in-Some.ensures.some c.in-Some-first_word.ensures.some
    (sym c.in-Some-seed_of.is ∙ c.seed_of.ensures)
    (sym c.is_numeral.ensures ∙ c.if-not-is_numeral.true)

pub returns-in_default-number_up_to-clause-item : goal.returns-in_default-number_up_to-clause-item
returns-in_default-number_up_to-clause-item c =
    seeded_too_many c.args.room c.args.number _ _ _ _ _ _ c.in-Some.ensures.some c.in-Some-first_word.ensures.some
    (sym c.in-Some-seed_of.is ∙ c.seed_of.ensures)
    (sym c.is_numeral.ensures ∙ c.if-not-is_numeral.false) (sym c.in_default-number_up_to.is ∙ c.number_up_to.ensures.value)

pub returns-clause-item : goal.returns-clause-item
returns-clause-item c =
    seeded_there c.args.room c.args.number _ _ _ _ _ _ _ c.in-Some.ensures.some c.in-Some-first_word.ensures.some (sym c.in-Some-seed_of.is ∙ c.seed_of.ensures)
    (sym c.is_numeral.ensures ∙ c.if-not-is_numeral.false) (sym c.in-Some-number_up_to.is ∙ c.number_up_to.ensures.value)

pub returns-clause-after : goal.returns-clause-after
returns-clause-after c = after_two _ _ _ _ _ c.in-Some.ensures.some c.in-Some-first_word.ensures.some

pub returns-clause-shorter : goal.returns-clause-shorter
returns-clause-shorter c =
    let first = c.in-Some.ensures.shorter in
    let second = c.in-Some-first_word.ensures.shorter in
    omega (arith, first, second)
