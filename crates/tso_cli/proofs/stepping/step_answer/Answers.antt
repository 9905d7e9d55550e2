use Rattle.tso_cli.proofs.Vocabulary.{arith, ◌≤◌, length, refl, refusal, Refused, too_large, refused, longest_input, input_refusal}
use Rattle.tso_cli.proofs.Vocabulary.{test_refusal, parts_of, IsStepAnswer, IsLastStep}
use Rattle.tso_cli.specs.Step as step
use Rattle.tso_cli.proofs.StepLemmas.{step-of-test}
use Rattle.tso_cli.proofs.stepping.step_answer.Goals as goal
use Rattle.tso_cli.proofs.AnswerLemmas.{answer-is, answer-means}

pub returns-then-input-gt-MAX_INPUT : goal.returns-then-input-gt-MAX_INPUT
returns-then-input-gt-MAX_INPUT c =
    answer-is (IsStepAnswer c.args.protocol c.args.config c.args.instructions c.args.input.now) c.refused_input.result input_refusal Refused
    c.refused_input.ensures (step.refused input_refusal (too_large c.if-input-gt-MAX_INPUT.true))

pub returns-in-Ok : goal.returns-in-Ok
returns-in-Ok c =
    let kind = c.args.protocol in
    let config = c.args.config in
    let set = c.args.instructions in
    let input = c.args.input.now in
    let small : length input ≤ longest_input = omega arith in
    answer-means (IsLastStep c.in-Ok.test kind config (parts_of input).rest) (IsStepAnswer kind config set input) c.test_answer.result
    (λ out status. step-of-test kind config set input c.in-Ok.test out status small (rw c.parts_of-parts.ensures.test at c.in-Ok.ensures.found))
    (rw c.parts_of-parts.ensures.rest at c.test_answer.ensures)

pub returns-in-Err-Fault : goal.returns-in-Err-Fault
returns-in-Err-Fault c =
    let small : length c.args.input.now ≤ longest_input = omega arith in
    let text = (parts_of c.args.input.now).test in
    let fault = c.in-Err-Fault.fault in
    let line = test_refusal (refusal text fault) in
    let told = rw c.parts_of-parts.ensures.test at c.refused_test.ensures in
    let says = rw c.in-Err-Fault.field-0-is at told in
    answer-is (IsStepAnswer c.args.protocol c.args.config c.args.instructions c.args.input.now) c.refused_test.result line Refused
    says
    (step.refused line (refused (refusal text fault) small
    (record {
      at_fault = fault;
      is =
          rw c.parts_of-parts.ensures.test at (c.in-Err-Fault.ensures.fault fault (rw c.in-Err-Fault.field-0-is refl));
      line = refl;
      why = refl;
    })))
