use Rattle.tso_cli.proofs.Vocabulary.{◌≡◌, refl, rules, string_bytes, choices_along, depth_line, witness_line, IsWitness, reached, too_small, Good, Invalid}
use Rattle.tso_laws.specs.Depth.{needed}
use Rattle.tso_cli.proofs.AnswerLemmas.{same-answer}
use Rattle.tso_cli.proofs.witnessing.reached.Goals as goal

pub returns-in_ok-push-in-Ok : goal.returns-in_ok-push-in-Ok
returns-in_ok-push-in-Ok c =
    let t = c.args.test.now in
    let order = c.args.execution.now.order.items in
    let written : string_bytes c.push.new.self ≡ witness_line c.deref.result.now = search rules in
    same-answer (IsWitness t c.args.depth order) _ (witness_line (choices_along t order)) Good Good
    (rw (c.deref.ensures.value, c.in-Ok.ensures.exact) at written) refl
    (reached c.requires.order c.in-Ok.ensures.depth)

pub returns-in_ok-text-in-Err-Depth : goal.returns-in_ok-text-in-Err-Depth
returns-in_ok-text-in-Err-Depth c =
    let t = c.args.test.now in
    let order = c.args.execution.now.order.items in
    let because = c.in-Err-Depth.ensures.depth (λ e. absurd cc) in
    let same : c.in-Err-Depth.needed ≡ needed order = (let is = because.0 in cc) in
    let written : string_bytes c.in_ok-text-in-Err-Depth.text ≡ depth_line c.in-Err-Depth.needed = search rules in
    same-answer (IsWitness t c.args.depth order) _ (depth_line (needed order)) Invalid Invalid
    (rw same at written) refl (too_small c.requires.order because.1)
