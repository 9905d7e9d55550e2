use Rattle.search_report.proofs.Vocabulary.{◌≡◌, sym, subst, codes, map, map-map, put, no_members, string, array, items_of, count}
use Rattle.search_report.proofs.Vocabulary.{model_name, asked_value, outcomes_verdict_value, false}
use Rattle.tso_report.specs.inner.Objects.{HasMembers}
use Rattle.search_report.specs.Lines.{leaves_in}
use Rattle.search_report.specs.LineJson.{line_value}
use Rattle.search_report.specs.inner.LineViews.{reason_line_of}
use Rattle.search_report.proofs.NoFloatsInLines.{lines-have-no-float}
use Rattle.search_report.proofs.line_json.never_json.Goals as goal

pub line-requires : goal.line-requires
line-requires c =
    let t = c.args.test.now in
    let steps = map reason_line_of c.args.lines.now in
    let name : c.name.result.now ≡ t.name = c.name.ensures in
    let model : c.model_name.result.now ≡ model_name c.args.model = c.model_name.ensures in
    let leaves : c.leaves_in.result ≡ leaves_in steps = c.leaves_in.ensures in
    let shown : map (λ s. line_value t (reason_line_of s)) c.args.lines.now ≡ map (line_value t) steps =
    sym (map-map (line_value t) reason_line_of c.args.lines.now) in
    let whole =
    subst (HasMembers c.member-7.result)
    (λ i.
    put (codes "verdict") (outcomes_verdict_value t.condition false)
    (put (codes "test") (string (name i)) (put (codes "steps") (array (items_of (shown i)))
    (put (codes "model") (string (model i)) (put (codes "leaves") (count (leaves i)) (put (codes "asked") (asked_value t.condition)
    (put (codes "answer") (string (codes "never")) no_members)))))))
    (c.member-7.ensures _ _ (c.member-6.ensures _ _ (c.member-5.ensures _ _ (c.member-4.ensures _ _ (c.member-3.ensures _ (count c.leaves_in.result)
    (c.member-2.ensures _ _ (c.member.ensures _ _ c.new.ensures c.word_value.ensures) c.asked_value.ensures) c.from.ensures) c.word_value-2.ensures)
    c.array_of.ensures) c.word_value-3.ensures) c.outcomes_verdict_value.ensures) in
    (_, whole, lines-have-no-float c.args.model t steps)

pub returns : goal.returns
returns c =
    let t = c.args.test.now in
    let steps = map reason_line_of c.args.lines.now in
    let name : c.name.result.now ≡ t.name = c.name.ensures in
    let model : c.model_name.result.now ≡ model_name c.args.model = c.model_name.ensures in
    let leaves : c.leaves_in.result ≡ leaves_in steps = c.leaves_in.ensures in
    let shown : map (λ s. line_value t (reason_line_of s)) c.args.lines.now ≡ map (line_value t) steps =
    sym (map-map (line_value t) reason_line_of c.args.lines.now) in
    let whole =
    subst (HasMembers c.member-7.result)
    (λ i.
    put (codes "verdict") (outcomes_verdict_value t.condition false)
    (put (codes "test") (string (name i)) (put (codes "steps") (array (items_of (shown i)))
    (put (codes "model") (string (model i)) (put (codes "leaves") (count (leaves i)) (put (codes "asked") (asked_value t.condition)
    (put (codes "answer") (string (codes "never")) no_members)))))))
    (c.member-7.ensures _ _ (c.member-6.ensures _ _ (c.member-5.ensures _ _ (c.member-4.ensures _ _ (c.member-3.ensures _ (count c.leaves_in.result)
    (c.member-2.ensures _ _ (c.member.ensures _ _ c.new.ensures c.word_value.ensures) c.asked_value.ensures) c.from.ensures) c.word_value-2.ensures)
    c.array_of.ensures) c.word_value-3.ensures) c.outcomes_verdict_value.ensures) in
    c.line.ensures _ whole
