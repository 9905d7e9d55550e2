use Rattle.order_builder.proofs.Vocabulary.{List, ℕ, lines_of, bytes_eq, length-drop, ap, sym, ◌∙◌, arith}
use Rattle.order_builder.proofs.LineLemmas.{some_line}
use Rattle.order_builder.proofs.OrderLine.{rest_from}
use Rattle.order_builder.proofs.reading.after_order_at.Goals as goal
use Rattle.order_builder.proofs.reading.after_order_at.Goals.{in_default-via-in-Some+else-eq, in_default-via-in_default}

pub returns-in_default-clause-none : goal.returns-in_default-clause-none
returns-in_default-clause-none c = λ begins.
    let rest = ap lines_of (rest_from c.args.text.now c.args.at) in
    elim c.in_default.branch [
      | in_default-via-in-Some+else-eq w ↦ (
        lines_of w.in-Some.after.now,
        (
          w.in-Some.line.now,
          rest ∙ w.in-Some.ensures.some,
          ap (λ (l : List ℕ). bytes_eq w.in-Some.line.now l) (sym w.as_slice.ensures) ∙ sym w.if-eq.ensures,
        ),
      )
      | in_default-via-in_default w ↦ absurd (some_line _ (omega (arith, length-drop c.args.at c.args.text.now)) (rest ∙ w.in_default.ensures.none))
    ]
