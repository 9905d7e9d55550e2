use Rattle.search_report.proofs.Vocabulary.{◌∙◌, ◌++◌, ◌<◌, [], ap, sym, subst, string_bytes, slice_index_or, append-nil, writes_to, coherence_line}
use Rattle.search_report.proofs.ShownReasons.{none-go, line-is, location-written, coherence-more}
use Rattle.search_report.proofs.reasons_as_text.write_coherence.Goals as goal
use Rattle.search_report.proofs.reasons_as_text.write_coherence.Goals.{then-has_write+in_ok-write_pieces+in_ok-write_writes+in_ok-write_characters}
use Rattle.search_report.proofs.reasons_as_text.write_coherence.Goals.{else-has_write}

pub loop-number-preserved : goal.loop-number-preserved
loop-number-preserved c =
    let t = c.args.test.now in
    let n = c.loop-number.number in
    let name = slice_index_or t.locations n [] in
    let bytes = string_bytes c.loop-number.text in
    coherence-more t c.args.order.now t.locations n bytes (string_bytes c.if-has_write.text) _
    (subst (λ m. n < m) c.locations-number-end.ensures.value c.loop-number-test.true)
    (elim c.if-has_write.branch [
      | then-has_write+in_ok-write_pieces+in_ok-write_writes+in_ok-write_characters w ↦
          ap string_bytes w.text-is
          ∙ (location-written bytes name _ _ _ _ _ w.location_name.ensures w.in_ok-write_pieces.ensures
          w.in_ok-write_writes.ensures w.in_ok-write_characters.ensures
          ∙ ap (λ z. bytes ++ z) (sym (line-is t name (writes_to n) c.args.order.now (sym c.has_write.ensures ∙ w.if-has_write.true))))
      | else-has_write w ↦
          ap string_bytes w.text-is
          ∙ sym
          (ap (λ ws. bytes ++ coherence_line t name ws) (none-go (writes_to n) c.args.order.now (sym c.has_write.ensures ∙ w.if-has_write.false))
          ∙ append-nil bytes)
    ])
    c.loop-number.invariant
