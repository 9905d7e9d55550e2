use Rattle.trace_report.proofs.Vocabulary.{◌+◌, ◌++◌, ◌∙◌, append-nil, ap, codes, inl, inr, drop, drop_more, string_bytes}
use Rattle.trace_report.proofs.Writing.{one-store}
use Rattle.trace_report.proofs.text.write_stores.Goals as goal
use Rattle.trace_report.proofs.text.write_stores.Goals.{then-at-eq0, else-at-eq0}

pub loop-at-preserved : goal.loop-at-preserved
loop-at-preserved c =
    let xs = c.args.stores.now in
    let at = c.loop-at.at in
    let written = c.in_ok-write_pieces.ensures
    ∙ ap (λ digits. string_bytes c.loop-at.text ++ (c.if-at-eq0.space.now ++ (c.location_name.result.now ++ (codes "=" ++ digits)))) (append-nil _) in
    one-store c.args.test.now at _ (drop (at + 1) xs) (drop at xs) c.if-at-eq0.space.now c.location_name.result.now
    (string_bytes c.loop-at.text) (string_bytes c.write_pieces.new.text) _
    (elim c.if-at-eq0.branch [
      | then-at-eq0 w ↦ inl (w.if-at-eq0.true, ap (λ s. s.now) w.space-is)
      | else-at-eq0 w ↦ inr (w.if-at-eq0.false, ap (λ s. s.now) w.space-is)
    ]) c.location_name.ensures written (drop_more xs at _ c.loop-at-test.true) c.loop-at.invariant
