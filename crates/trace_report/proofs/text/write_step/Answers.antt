use Rattle.std.proofs.lemmas.Result.{on_ok_weaker}
use Rattle.tso_terms.specs.FlatMachine.{chosen}
use Rattle.trace_report.specs.Lines.{outcome_text, done_text, bus_traffic_text, buffer_text}
use Rattle.trace_report.specs.Shown.{shown_step}
use Rattle.trace_report.proofs.Vocabulary.{◌∙◌, ◌++◌, ap, string_bytes, changes_text}
use Rattle.trace_report.proofs.Writing.{five-parts}
use Rattle.trace_report.proofs.text.write_step.Goals as goal

pub returns : goal.returns
returns c =
    let t = c.args.test.now in
    let words = c.args.words in
    let s = shown_step c.args.step.now in
    on_ok_weaker c.write_pieces.result
    (λ e. five-parts (string_bytes c.args.text.now) (outcome_text c.args.number s.choice s.outcome) (done_text t s) (bus_traffic_text t words s)
    (changes_text t words s.changes) (buffer_text t (chosen s.choice) s.buffer) (string_bytes c.write_outcome.new.text) (string_bytes c.write_done.new.text)
    (string_bytes c.write_bus_traffic.new.text) (string_bytes c.write_changes.new.text) (string_bytes c.write_buffer.new.text)
    (string_bytes c.write_pieces.new.text) c.in_ok-write_outcome.ensures c.in_ok-write_done.ensures c.in_ok-write_bus_traffic.ensures
    (c.in_ok-write_changes.ensures ∙ ap (λ cs. string_bytes c.write_bus_traffic.new.text ++ changes_text t words cs) c.deref.ensures.value)
    (c.in_ok-write_buffer.ensures ∙ ap (λ core. string_bytes c.write_changes.new.text ++ buffer_text t core s.buffer) c.core_of.ensures) e)
    c.write_pieces.ensures
