use Rattle.trace_report.proofs.Vocabulary.{◌≡◌, ◌∙◌, ap, ◌++◌, [], ◌∷◌, List, ℕ, Some, codes, subst, sym, append_assoc, append-nil, IfOk}
use Rattle.trace_report.proofs.Vocabulary.{string, view, printed_move}
use Rattle.std.specs.Fmt.{decimal}
use Rattle.tso_terms.specs.Registers.{name_of}
use Rattle.trace_report.specs.declared.step.Given.{Given}
use Rattle.trace_report.specs.declared.step.Moved.TheVariants.{Both}
use Rattle.trace_report.proofs.step_as_json.move_value.Goals as goal

both-printed : (first second : List ℕ) (g h : Given) → first ≡ name_of g.reg → second ≡ name_of h.reg
    → first ++ (codes "=" ++ (decimal g.value ++ (codes " " ++ (second ++ (codes "=" ++ (decimal h.value ++ [])))))) ≡ printed_move (Both g h)
both-printed first second g h one two =
    rw (one, two, append-nil (decimal h.value)) (sym (append_assoc (name_of g.reg) (codes "=" ++ decimal g.value) _))

pub returns-in-Some-Both : goal.returns-in-Some-Both
returns-in-Some-Both c =
    let g = c.in-Some-Both.given in
    let h = c.in-Some-Both.other in
    let inner : c.in-Some-Both.field-0 ≡ Both g h = rw c.in-Some-Both.is at c.in-Some-Both.field-0-is in
    let moved : c.args.moved ≡ Some (Both g h) = c.in-Some-Both.is ∙ ap Some inner in
    rw moved (subst (λ text. IfOk c.text_value-in-Some-Both.result (λ value. view value ≡ string text))
    (both-printed c.name-in-Some-Both.result.now c.name-in-Some-Both-2.result.now g h c.name-in-Some-Both.ensures c.name-in-Some-Both-2.ensures)
    c.text_value-in-Some-Both.ensures)
