use Rattle.tso_cli.proofs.Vocabulary.{◌≢◌, well-formed, order_refusal, invalid_line, IsWitness, IsWitnessAnswer, Refused, Invalid, invalid, judged}
use Rattle.order_breaches.specs.declared.breach.Breach.TheVariants as breaches
use Rattle.order_builder.specs.declared.fault.OrderFault.TheVariants as faults
use Rattle.tso_cli.specs.Witness.{refused}
use Rattle.tso_cli.proofs.AnswerLemmas.{answer-means, refusal-is}
use Rattle.tso_cli.proofs.NamedBreaches.{named}
use Rattle.tso_cli.proofs.witnessing.witness_answer.Goals as goal

pub invalid-requires : goal.invalid-requires
invalid-requires c =
    let t = c.args.test.now in
    let order = c.in-Ok.execution.order.items in
    named t order c.in-Err-check_order.breach (λ e. c.made_entries_fit_the_test.ensures t order e (well-formed t c.know_limits.ensures))
    (c.order_can_be_printed.ensures t order c.in-Ok.ensures.found.entries) c.in-Err-check_order.ensures.first

pub returns-in-Ok-check_order : goal.returns-in-Ok-check_order
returns-in-Ok-check_order c =
    let t = c.args.test.now in
    let order = c.in-Ok.execution.order.items in
    answer-means (IsWitness t c.args.depth order) (IsWitnessAnswer t c.args.depth c.args.text.now) c.reached.result
    (λ out status is. judged order out status c.in-Ok.ensures.found is) c.reached.ensures

pub returns-in-Ok : goal.returns-in-Ok
returns-in-Ok c =
    let t = c.args.test.now in
    let order = c.in-Ok.execution.order.items in
    let line = invalid_line t c.in-Err-check_order.breach in
    refusal-is (IsWitnessAnswer t c.args.depth c.args.text.now) (c.in-Err-check_order.breach ≢ breaches.NoMemory) c.invalid.result
    line Invalid c.invalid.ensures.says c.invalid.ensures.real
    (λ real. judged order line Invalid c.in-Ok.ensures.found (invalid c.in-Err-check_order.breach (c.in-Err-check_order.ensures.first real)))

pub returns : goal.returns
returns c =
    refusal-is (IsWitnessAnswer c.args.test.now c.args.depth c.args.text.now) (c.in-Err.fault ≢ faults.NoMemory) c.refused_order.result
    (order_refusal c.in-Err.fault) Refused c.refused_order.ensures.says c.refused_order.ensures.real
    (λ real. refused c.in-Err.fault (c.in-Err.ensures.fault real))
