use Rattle.std.proofs.Common.{arith, ap, map, ◌∙◌}
use Rattle.hints.specs.inner.Hint.{shown_byte, most_hint_bytes}
use Rattle.hints.proofs.Printed.{cut}
use Rattle.hints.proofs.printing.printable_words.Goals as goal

pub returns : goal.returns
returns c =
    let least = c.min-count.ensures in
    let within = c.loop-at.auto.at-end in
    let past = c.loop-at-test.false in
    c.loop-at.invariant
    ∙ ap (map shown_byte)
    (cut most_hint_bytes c.loop-at.at c.args.words.now (omega (arith, least, within)) (omega (arith, least, within))
    (λ lt. omega (arith, least, past, lt)))
