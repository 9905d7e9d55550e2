use Rattle.trace_report.proofs.Vocabulary.{◌≡◌, ◌*◌, ◌≤◌, List, ℕ, length, arith, subst, string, view, IfOk}
use Rattle.trace_report.proofs.LineLengths.{unnamed}
use Rattle.trace_report.proofs.texts_as_json.line_value.Goals as goal

pub returns-then-from : goal.returns-then-from
returns-then-from c =
    let place : c.from.result * c.from-2.result ≡ c.args.line * c.args.words = (λ i. c.from.ensures i * c.from-2.ensures i) in
    let past : length c.args.test.now.locations ≤ c.args.line * c.args.words = omega (arith, place) in
    subst (λ (name : List ℕ). IfOk c.word_value.result (λ value. view value ≡ string name))
    (unnamed c.args.test.now c.args.words c.args.line past) c.word_value.ensures
