use Rattle.search_report.proofs.Vocabulary.{◌≡◌, ◌∙◌, ◌++◌, ap, sym, false, map, flat_map, flat_map-map, model_name, asked_line, verdict_line}
use Rattle.std.specs.Fmt.{decimal}
use Rattle.search_report.specs.LineText.{line_text}
use Rattle.search_report.specs.inner.LineViews.{reason_line_of}
use Rattle.search_report.specs.Lines.{leaves_in}
use Rattle.search_report.proofs.ShownReasons.{never-from, never-head, never-joined}
use Rattle.search_report.proofs.line_text.never_text.Goals as goal

pub returns : goal.returns
returns c =
    let t = c.args.test.now in
    let steps = map reason_line_of c.args.lines.now in
    let name : c.name.result.now ≡ t.name = c.name.ensures in
    let model : c.model_name.result.now ≡ model_name c.args.model = c.model_name.ensures in
    let leaves : c.leaves_in.result ≡ leaves_in steps = c.leaves_in.ensures in
    let shown : flat_map (λ s. line_text t (reason_line_of s)) c.args.lines.now ≡ flat_map (line_text t) steps =
    sym (flat_map-map (line_text t) reason_line_of c.args.lines.now) in
    c.in_ok-write_verdict.ensures
    ∙ (ap (λ z. z ++ verdict_line t.condition false) (c.in_ok-write_each.ensures
    ∙ ap (λ z. z ++ flat_map (λ s. line_text t (reason_line_of s)) c.args.lines.now) (c.in_ok-write_asked.ensures
    ∙ ap (λ z. z ++ asked_line t.condition) (c.in_ok-write_pieces.ensures
    ∙ ap (λ z. z ++ never-head c.name.result.now c.model_name.result.now (decimal c.leaves_in.result)) c.new-text.ensures.bytes)))
    ∙ (never-joined c.name.result.now c.model_name.result.now (decimal c.leaves_in.result) (asked_line t.condition)
    (flat_map (λ s. line_text t (reason_line_of s)) c.args.lines.now) (verdict_line t.condition false)
    ∙ (λ i. never-from (name i) (model i) (decimal (leaves i)) (asked_line t.condition) (shown i) (verdict_line t.condition false))))
