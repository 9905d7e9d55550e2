use Rattle.scheduler.proofs.Vocabulary.{Ok, sym, ap, ◌∙◌, One}
use Rattle.scheduler.proofs.Items.{one_none, one_bad_letter, one_bad_digits, one_no_core, one_full, one_there}
use Rattle.scheduler.proofs.item.read_one.Goals as goal

pub returns-in_default-clause-fault : goal.returns-in_default-clause-fault
returns-in_default-clause-fault c = one_none c.args.cores c.args.room c.args.number c.args.word.now c.in_default.ensures.cases

pub returns-in_default-of-clause-fault : goal.returns-in_default-of-clause-fault
returns-in_default-of-clause-fault c =
    one_bad_letter c.args.cores c.args.room c.args.number c.args.word.now c.in-Some.digits.now c.in-Some.letter.now
    c.in-Some.ensures.cases.0 (sym c.in_default-of.is ∙ c.of.ensures)

pub returns-in_default-capped_number-clause-fault : goal.returns-in_default-capped_number-clause-fault
returns-in_default-capped_number-clause-fault c =
    one_bad_digits c.args.cores c.args.room c.args.number c.args.word.now c.in-Some.digits.now c.in-Some.letter.now
    c.in-Some-of.action c.in-Some.ensures.cases.0 (sym c.in-Some-of.is ∙ c.of.ensures)
    c.in_default-capped_number.ensures.none

pub returns-then-core-cores-clause-fault : goal.returns-then-core-cores-clause-fault
returns-then-core-cores-clause-fault c =
    one_no_core c.args.cores c.args.room c.args.number c.args.word.now c.in-Some.digits.now c.in-Some.letter.now
    c.in-Some-capped_number.core c.in-Some-of.action c.requires c.in-Some.ensures.cases.0
    (sym c.in-Some-of.is ∙ c.of.ensures) c.in-Some-capped_number.ensures.some.0 c.in-Some-capped_number.ensures.some.1 c.if-core-cores.true

pub returns-then-room-eq0-clause-fault : goal.returns-then-room-eq0-clause-fault
returns-then-room-eq0-clause-fault c =
    one_full c.args.cores c.args.room c.args.number c.args.word.now c.in-Some.digits.now c.in-Some.letter.now
    c.in-Some-capped_number.core c.in-Some-of.action c.in-Some.ensures.cases.0
    (sym c.in-Some-of.is ∙ c.of.ensures) c.in-Some-capped_number.ensures.some.0 c.in-Some-capped_number.ensures.some.1 c.if-core-cores.false c.if-room-eq0.true

pub returns-clause-choice : goal.returns-clause-choice
returns-clause-choice c =
    one_there c.args.cores c.args.room c.args.number c.args.word.now c.in-Some.digits.now c.in-Some.letter.now
    c.in-Some-capped_number.core c.in-Some-of.action c.in-Some.ensures.cases.0
    (sym c.in-Some-of.is ∙ c.of.ensures) c.in-Some-capped_number.ensures.some.0 c.in-Some-capped_number.ensures.some.1 c.if-core-cores.false c.if-room-eq0.false
    ∙ ap (λ choice. Ok (One choice)) (sym c.by.ensures)
