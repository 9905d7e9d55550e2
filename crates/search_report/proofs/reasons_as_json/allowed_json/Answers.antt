use Rattle.search_report.proofs.Vocabulary.{◌∙◌, ap, line, compact_text, IfOk-weaker}
use Rattle.search_report.proofs.NoFloatsInReasons.{allowed-has-no-float}
use Rattle.search_report.proofs.ShownReasons.{value-is}
use Rattle.search_report.proofs.reasons_as_json.allowed_json.Goals as goal

pub line-requires : goal.line-requires
line-requires c =
    let t = c.args.test.now in
    let shown = c.args.shown.now in (
      _,
      (c.member-9.ensures _ _ (c.member-8.ensures _ _ (c.member-7.ensures _ _ (c.member-6.ensures _ _ (c.member-5.ensures _ _ (c.member-4.ensures _ _
          (c.member-3.ensures _ _
          (c.member-2.ensures _ _ (c.member.ensures _ _ c.new.ensures c.word_value.ensures) c.asked_value.ensures)
          c.choices_value.ensures)
          c.coherence_value.ensures) c.word_value-2.ensures) c.array_of.ensures) c.word_value-3.ensures) c.values_value.ensures)
          c.outcomes_verdict_value.ensures),
      allowed-has-no-float t shown.order.now shown.readings.now shown.choices.now c.name.result.now c.model_name.result.now shown.names.now shown.values.now,
    )

pub returns : goal.returns
returns c =
    let t = c.args.test.now in
    let shown = c.args.shown.now in
    IfOk-weaker c.line.result _ _
    (λ text e d is. e ∙ ap (λ v. line (compact_text v))
    (value-is c.args.model t shown.order.now shown.readings.now shown.values.now shown.choices.now d is
    c.name.result.now c.model_name.result.now shown.names.now
    c.name.ensures c.model_name.ensures c.requires.names))
    (c.line.ensures _ (c.member-9.ensures _ _
    (c.member-8.ensures _ _ (c.member-7.ensures _ _ (c.member-6.ensures _ _ (c.member-5.ensures _ _ (c.member-4.ensures _ _
    (c.member-3.ensures _ _ (c.member-2.ensures _ _ (c.member.ensures _ _ c.new.ensures c.word_value.ensures) c.asked_value.ensures) c.choices_value.ensures)
    c.coherence_value.ensures) c.word_value-2.ensures) c.array_of.ensures) c.word_value-3.ensures) c.values_value.ensures) c.outcomes_verdict_value.ensures))
