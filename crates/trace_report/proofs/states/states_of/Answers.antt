use Rattle.trace_report.proofs.Vocabulary.{◌≡◌, ◌<◌, ◌-◌, ◌++◌, ◌∙◌, ap, sym, append-nil, rules, length, arith, line_states}
use Rattle.trace_report.proofs.Vocabulary.{number_of_lines, placed_states_from, PlacedState, LineState}
use Rattle.trace_report.proofs.Listing.{one-core, one-line}
use Rattle.trace_report.proofs.states.states_of.Goals as goal

pub loop-line-preserved : goal.loop-line-preserved
loop-line-preserved g c =
    let m = c.args.machine.now in
    let core = c.loop-number.number in
    let made : LineState → PlacedState = λ s. record { core = record { 0 = core }; line = c.loop-line.line; state = s } in
    one-line m core c.loop-line.line c.div_ceil-lines.result (made c.line_state-state.result) c.loop-line.states.items c.push.new.self.items
    (c.loop-number.states.items ++ line_states m core 0 c.div_ceil-lines.result) c.loop-line-test.true (search rules)
    (ap made c.line_state-state.ensures) c.loop-line.invariant

pub loop-number-preserved : goal.loop-number-preserved
loop-number-preserved g c =
    let m = c.args.machine.now in
    let core = c.loop-number.number in
    let cores = length c.args.test.now.programs in
    let states = c.loop-number.states.items in
    let within : core < cores = omega arith in
    let none : c.div_ceil-lines.result - c.loop-line.line ≡ 0 = omega arith in
    let lines : c.div_ceil-lines.result ≡ number_of_lines m = search rules in
    let noted : c.loop-line.states.items ≡ states ++ line_states m core 0 (number_of_lines m) =
    sym (append-nil c.loop-line.states.items) ∙ (sym (ap (λ n. c.loop-line.states.items ++ line_states m core c.loop-line.line n) none)
    ∙ (c.loop-line.invariant ∙ ap (λ n. states ++ line_states m core 0 n) lines)) in
    one-core m core cores states c.loop-line.states.items (placed_states_from m 0 cores) within noted c.loop-number.invariant
