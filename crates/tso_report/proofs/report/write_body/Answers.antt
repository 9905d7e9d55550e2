use Rattle.tso_report.proofs.Vocabulary.{◌∙◌, ◌++◌, ap, string_bytes, on_ok_weaker, printed_order, register_lines, memory_line}
use Rattle.tso_report.proofs.Vocabulary.{condition_line, choices_line, cache_lines}
use Rattle.tso_report.proofs.Texts.{seven_pieces}
use Rattle.tso_report.proofs.report.write_body.Goals as goal

pub returns-clause-text : goal.returns-clause-text
returns-clause-text c =
    let t = c.args.test.now in
    let r = c.args.run.now in
    let order = string_bytes c.write_order.new.text in
    let registers = string_bytes c.write_registers.new.text in
    let choices = string_bytes c.write_pieces.new.text in
    on_ok_weaker c.write_caches.result
    (λ e. seven_pieces (string_bytes c.args.text.now) (printed_order t r.left.execution.order.items) (register_lines 0 r.left.state.registers.items)
    (memory_line t r.left.state.memory.items) (condition_line t r.holds) (choices_line r.used r.stalled r.unused) (cache_lines 0 r.left.counts.items)
    order registers (string_bytes c.write_memory.new.text) (string_bytes c.write_condition.new.text) choices (string_bytes c.write_caches.new.text)
    c.in_ok-write_order.ensures.text (c.in_ok-write_registers.ensures ∙ ap (λ rs. order ++ register_lines 0 rs) c.deref.ensures.value)
    (c.in_ok-write_memory.ensures ∙ ap (λ words. registers ++ memory_line t words) c.deref-2.ensures.value)
    c.in_ok-write_condition.ensures c.in_ok-write_pieces.ensures
    (e ∙ ap (λ counts. choices ++ cache_lines 0 counts) c.deref-3.ensures.value)) c.write_caches.ensures
