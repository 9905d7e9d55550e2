use Rattle.tso_cli.proofs.Vocabulary.{◌≡◌, ◌≢◌, well-formed, string_bytes, subst, sym, IsCheckAnswer, valid, valid_line, invalid_line}
use Rattle.tso_cli.proofs.Vocabulary.{order_refusal, Good, Invalid, Refused}
use Rattle.order_breaches.specs.declared.breach.Breach.TheVariants as breaches
use Rattle.order_builder.specs.declared.fault.OrderFault.TheVariants as faults
use Rattle.tso_cli.proofs.AnswerLemmas.{refusal-is}
use Rattle.tso_cli.proofs.NamedBreaches.{named}
use Rattle.tso_cli.proofs.checking.check_answer.Goals as goal
use Rattle.tso_cli.specs.CommandAnswers.{refused, judged, invalid}

pub invalid-requires : goal.invalid-requires
invalid-requires c =
    let t = c.args.test.now in
    let order = c.in-Ok.execution.order.items in
    named t order c.in-Err-check_order.breach (λ e. c.made_entries_fit_the_test.ensures t order e (well-formed t c.know_limits.ensures))
    (c.order_can_be_printed.ensures t order c.in-Ok.ensures.found.entries) c.in-Err-check_order.ensures.first

pub returns-in-Ok-check_order : goal.returns-in-Ok-check_order
returns-in-Ok-check_order c =
    let t = c.args.test.now in
    let order = c.in-Ok.execution.order.items in
    let written : string_bytes c.in_ok-from_str-in-Ok-check_order.field-0 ≡ valid_line = c.in_ok-from_str-in-Ok-check_order.ensures.ok in
    subst (λ out. IsCheckAnswer t c.args.text.now out Good) (sym written)
    (judged order valid_line Good c.in-Ok.ensures.found (valid c.in-Ok-check_order.ensures.valid))

pub returns-in-Ok : goal.returns-in-Ok
returns-in-Ok c =
    let t = c.args.test.now in
    let order = c.in-Ok.execution.order.items in
    let line = invalid_line t c.in-Err-check_order.breach in
    refusal-is (IsCheckAnswer t c.args.text.now) (c.in-Err-check_order.breach ≢ breaches.NoMemory) c.invalid.result
    line Invalid c.invalid.ensures.says c.invalid.ensures.real
    (λ real. judged order line Invalid c.in-Ok.ensures.found (invalid c.in-Err-check_order.breach (c.in-Err-check_order.ensures.first real)))

pub returns : goal.returns
returns c =
    refusal-is (IsCheckAnswer c.args.test.now c.args.text.now) (c.in-Err.fault ≢ faults.NoMemory) c.refused_order.result
    (order_refusal c.in-Err.fault) Refused c.refused_order.ensures.says c.refused_order.ensures.real
    (λ real. refused c.in-Err.fault (c.in-Err.ensures.fault real))
