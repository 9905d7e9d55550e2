use Rattle.litmus_reader.proofs.Vocabulary.{sym, ◌∙◌, err_from_is_err_and}
use Rattle.litmus_reader.proofs.Informed.{braces_here, braces_gap_fails, braces_line_fails}
use Rattle.litmus_reader.proofs.information.braces_at.Goals as goal

pub returns-in_err-at : goal.returns-in_err-at
returns-in_err-at c =
    let p = err_from_is_err_and c.from_residual.result c.from_residual.ensures.1 in
    rw (p.1, p.2) (braces_gap_fails c.in_err-at.field-0.0 c.loop-at.rest.now _ c.in_err-at.ensures.value c.loop-at.invariant)

pub returns-then-begins_initial : goal.returns-then-begins_initial
returns-then-begins_initial c =
    braces_here c.loop-at.rest.now c.in_ok-at.at.now _ c.in_ok-at.ensures.value
    (sym c.begins_initial.ensures ∙ c.if-begins_initial.true) c.loop-at.invariant

pub returns-in_err-rest : goal.returns-in_err-rest
returns-in_err-rest c =
    let p = err_from_is_err_and c.from_residual-in_err-rest.result c.from_residual-in_err-rest.ensures.1 in
    rw (p.1, p.2)
    (braces_line_fails c.in_err-rest.field-0.0 c.loop-at.rest.now c.in_ok-at.at.now _ c.in_ok-at.ensures.value
    (sym c.begins_initial.ensures ∙ c.if-begins_initial.false) c.in_err-rest.ensures.value c.loop-at.invariant)
