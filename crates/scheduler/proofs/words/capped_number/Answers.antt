use Rattle.scheduler.proofs.Vocabulary.{◌≡◌, ◌+◌, ◌*◌, ◌<◌, length, take, min, refl, sym, ap, ◌∙◌, take_all, arith, is_ascii_digit}
use Rattle.scheduler.proofs.Vocabulary.{list_all, list_all_more, decimal_value}
use Rattle.scheduler.proofs.Capped.{nothing_capped, one_capped, no_numeral, bad_digit, good_digits}
use Rattle.scheduler.proofs.words.capped_number.Goals as goal

pub returns-then-is_empty-clause-none : goal.returns-then-is_empty-clause-none
returns-then-is_empty-clause-none c = no_numeral c.args.word.now (grind arith)

pub loop-byte-init : goal.loop-byte-init
loop-byte-init c = record { digits = refl; so_far = nothing_capped c.from-most.result }

pub returns-then-not-is_ascii_digit-clause-none : goal.returns-then-not-is_ascii_digit-clause-none
returns-then-not-is_ascii_digit-clause-none c =
    bad_digit c.args.word.now c.loop-byte.byte-index c.loop-byte-test.true (sym c.is_ascii_digit.ensures.value ∙ c.if-not-is_ascii_digit.true)

pub loop-byte-preserved : goal.loop-byte-preserved
loop-byte-preserved c =
    let i = c.loop-byte.invariant in
    let digit = sym c.is_ascii_digit.ensures.value ∙ c.if-not-is_ascii_digit.false in
    record {
      digits = list_all_more is_ascii_digit c.args.word.now c.loop-byte.byte-index 0 c.loop-byte-test.true ∙ rw (i.digits, digit) refl;
      so_far = c.min-value.ensures ∙ (ap (λ digit. min (c.loop-byte.value * 10 + digit) c.from-most.result) c.from.ensures
          ∙ one_capped c.args.word.now c.loop-byte.byte-index c.from-most.result c.loop-byte.value c.loop-byte-test.true i.so_far);
    }

pub returns-clause-some : goal.returns-clause-some
returns-clause-some c =
    let i = c.loop-byte.invariant in
    let some : 0 < length c.args.word.now = grind arith in
    let whole : take c.loop-byte.byte-index c.args.word.now ≡ c.args.word.now = take_all c.loop-byte.byte-index c.args.word.now c.loop-byte-test.false in (
      good_digits c.args.word.now some (sym (ap (list_all is_ascii_digit) whole) ∙ i.digits),
      i.so_far
          ∙ (ap (λ digits. min (decimal_value digits) c.from-most.result) whole
          ∙ ap (λ most. min (decimal_value c.args.word.now) most) c.from-most.ensures),
    )
