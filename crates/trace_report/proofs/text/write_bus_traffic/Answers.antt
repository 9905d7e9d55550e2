use Rattle.std.proofs.lemmas.Result.{on_ok_weaker}
use Rattle.std.specs.Fmt.{decimal}
use Rattle.trace_report.specs.Lines.{request_text, flush_text, write_back_text, line_name, printed_request}
use Rattle.trace_report.specs.Shown.{shown_step}
use Rattle.trace_report.proofs.Vocabulary.{◌≡◌, ◌∙◌, ◌++◌, ap, sym, append_assoc, append-nil, codes, string_bytes}
use Rattle.trace_report.proofs.Writing.{three-parts}
use Rattle.trace_report.proofs.text.write_bus_traffic.Goals as goal
use Rattle.trace_report.proofs.text.write_bus_traffic.Goals.{in-Some+in_ok-push+in_ok-write_line_request, in_default}
use Rattle.trace_report.proofs.text.write_bus_traffic.Goals.{in-Some-flushed+in_ok-write_pieces, in_default-flushed}

pub returns-in_ok-push_str-in-Some-wrote_back : goal.returns-in_ok-push_str-in-Some-wrote_back
unfolding lib.Utf8.encode
returns-in_ok-push_str-in-Some-wrote_back c =
    let t = c.args.test.now in
    let words = c.args.words in
    let s = shown_step c.args.step.now in
    let old = string_bytes c.args.text.now in
    let first = string_bytes c.match-step.text in
    let second = string_bytes c.match-step-2.text in
    let name = line_name t words c.in-Some-wrote_back.line in
    let asked : first ≡ old ++ request_text t words s.request = elim c.match-step.branch [
      | in-Some+in_ok-push+in_ok-write_line_request w ↦ let printed = printed_request t words w.in-Some.request in
          ap string_bytes w.text-is ∙ (w.in_ok-write_line_request.ensures ∙ (ap (λ front. front ++ printed) w.in_ok-push.ensures.bytes
          ∙ (append_assoc old (codes " ") printed ∙ sym (ap (λ r. old ++ request_text t words r) w.in-Some.is))))
      | in_default w ↦ ap string_bytes w.text-is ∙ (sym (append-nil old) ∙ sym (ap (λ r. old ++ request_text t words r) w.in_default.is))
    ] in
    let flushed : second ≡ first ++ flush_text s.flushed = elim c.match-step-2.branch [
      | in-Some-flushed+in_ok-write_pieces w ↦
          ap string_bytes w.text-is
          ∙ (w.in_ok-write_pieces.ensures ∙ (ap (λ digits. first ++ (codes " flush P" ++ digits)) (append-nil _)
          ∙ (ap (λ n. first ++ (codes " flush P" ++ decimal n)) w.from-number.ensures ∙ sym (ap (λ f. first ++ flush_text f) w.in-Some-flushed.is))))
      | in_default-flushed w ↦ ap string_bytes w.text-is ∙ (sym (append-nil first) ∙ sym (ap (λ f. first ++ flush_text f) w.in_default-flushed.is))
    ] in
    on_ok_weaker c.write_line_name.result
    (λ e.
    three-parts old (request_text t words s.request) (flush_text s.flushed) (write_back_text t words s.wrote_back)
    first second (string_bytes c.write_line_name.new.text) asked flushed
    (e
    ∙ (ap (λ front. front ++ name) c.in_ok-push_str-in-Some-wrote_back.ensures.bytes
    ∙ (append_assoc second (codes " write-back ") name
    ∙ sym (ap (λ w. second ++ write_back_text t words w) c.in-Some-wrote_back.is)))))
    c.write_line_name.ensures
