use Rattle.std.proofs.Common.{◌↔◌, IfOk, IsTrue, ap, sym, ◌∙◌, subst}
use Rattle.std.proofs.lemmas.Result.{IfOk-weaker}
use Rattle.tso_terms.specs.Axioms.{IsTsoExecution}
use Rattle.refutation_laws.specs.Models.{IsExecutionOf}
use Rattle.execution_check.specs.inner.Orders.{keeps}
use Rattle.execution_check.proofs.Keeping.{keeps_all}
use Rattle.execution_check.proofs.meeting.is_execution.Goals as goal

pub returns-in-Tso : goal.returns-in-Tso
returns-in-Tso c =
    subst (λ m.
    IfOk c.is_tso_execution.result (λ b. IsTrue b ↔ IsExecutionOf m c.args.test.now c.args.execution.now.order.items))
    (sym c.in-Tso.is) c.is_tso_execution.ensures

pub returns-then-keeps_all_order : goal.returns-then-keeps_all_order
returns-then-keeps_all_order c =
    let t = c.args.test.now in
    let order = c.args.execution.now.order.items in
    let result = c.is_tso_execution-then-keeps_all_order.result in
    let keeps = keeps_all order (ap keeps (sym c.deref.ensures.value) ∙ sym c.keeps_all_order.ensures ∙ c.if-keeps_all_order.true) in
    subst (λ m. IfOk result (λ b. IsTrue b ↔ IsExecutionOf m t order)) (sym c.in-Sequential.is)
    (IfOk-weaker result (λ b. IsTrue b ↔ IsTsoExecution t order) _
    (λ b tso. (λ yes. record { execution = tso.0 yes; keeps = keeps }, λ e. tso.1 e.execution))
    c.is_tso_execution-then-keeps_all_order.ensures)
