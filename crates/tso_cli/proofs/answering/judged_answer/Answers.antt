use Rattle.tso_cli.proofs.Vocabulary.{arith, ◌≤◌, length, refl, refusal, Refused, longest_input, IsInputAnswer, IsAnswerTo, too_large}
use Rattle.tso_cli.proofs.Vocabulary.{refused, answered, input_refusal, test_refusal, parts_of}
use Rattle.tso_cli.proofs.answering.judged_answer.Goals as goal
use Rattle.tso_cli.proofs.AnswerLemmas.{answer-is, answer-means}

pub returns-then-input-gt-MAX_INPUT : goal.returns-then-input-gt-MAX_INPUT
returns-then-input-gt-MAX_INPUT g c =
    answer-is (IsInputAnswer c.args.settings.now c.args.input.now) c.refused_input.result input_refusal Refused
    c.refused_input.ensures (too_large c.if-input-gt-MAX_INPUT.true)

pub returns-in-Ok : goal.returns-in-Ok
returns-in-Ok g c =
    let s = c.args.settings.now in
    let input = c.args.input.now in
    let small : length input ≤ longest_input = omega arith in
    answer-means (IsAnswerTo s c.in-Ok.test (parts_of input).rest) (IsInputAnswer s input) c.told_answer.result
    (λ out status is. answered c.in-Ok.test out status small (rw (c.parts_of-parts.ensures.test, c.instructions.ensures) at c.in-Ok.ensures.found) is)
    (rw c.parts_of-parts.ensures.rest at c.told_answer.ensures)

pub returns-in-Err-Fault : goal.returns-in-Err-Fault
returns-in-Err-Fault g c =
    let small : length c.args.input.now ≤ longest_input = omega arith in
    let text = (parts_of c.args.input.now).test in
    let fault = c.in-Err-Fault.fault in
    answer-is (IsInputAnswer c.args.settings.now c.args.input.now) c.refused_test.result (test_refusal (refusal text fault)) Refused
    (rw c.parts_of-parts.ensures.test at c.refused_test.ensures)
    (refused (refusal text fault) small (record {
      at_fault = fault;
      is =
          rw (
            c.parts_of-parts.ensures.test,
            c.instructions.ensures,
          ) at (c.in-Err-Fault.ensures.fault fault (rw c.in-Err-Fault.field-0-is refl));
      line = refl;
      why = refl;
    }))
