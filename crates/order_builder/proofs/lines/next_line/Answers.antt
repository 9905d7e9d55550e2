use Rattle.order_builder.proofs.Vocabulary.{[], ◌∷◌, length, ap, sym, ◌∙◌, arith, List, ℕ, eqb-true, eqb-false, lines_of}
use Rattle.order_builder.proofs.LineLemmas.{lines_of-nil, lines_of-split_once, lines_of-alone}
use Rattle.order_builder.proofs.lines.next_line.Goals as goal

pub returns-then-is_empty-clause-none : goal.returns-then-is_empty-clause-none
returns-then-is_empty-clause-none c = lines_of-nil c.args.text.now (eqb-true _ _ (sym c.if-is_empty.ensures))

pub returns-in-Some-clause-some : goal.returns-in-Some-clause-some
returns-in-Some-clause-some c =
    lines_of-split_once c.args.text.now c.in-Some.line.now c.in-Some.rest.now c.in-Some.ensures.value
    ∙ ap (λ (l : List ℕ). l ∷ lines_of c.in-Some.rest.now) (sym c.without_return.ensures)

pub returns-in-None-clause-some : goal.returns-in-None-clause-some
returns-in-None-clause-some c =
    lines_of-alone c.args.text.now c.in-None.ensures.value (let some = eqb-false (length c.args.text.now) 0 (sym c.if-is_empty.ensures) in omega (arith, some))
    ∙ ap (λ (l : List ℕ). l ∷ lines_of []) (sym c.without_return-in-None.ensures)
