use Rattle.order_builder.proofs.Vocabulary.{◌+◌, lines_of, arith}
use Rattle.order_builder.proofs.OrderLine.{nothing_past, one_past, first_within, up_to_first, up_to_end, order_found, order_nowhere}
use Rattle.order_builder.proofs.reading.around_order_line.Goals as goal

pub loop-others-init : goal.loop-others-init
loop-others-init c = record {
  past = nothing_past c.args.text.now;
  within = omega arith;
}

pub loop-others-preserved : goal.loop-others-preserved
loop-others-preserved c =
    let loop = c.loop-others in
    let within = first_within c.args.text.now loop.at c.in-Some.others loop.invariant.within c.in-Some.ensures.0 in
    let here = up_to_first c.args.text.now loop.at c.in-Some.others loop.invariant.within loop.invariant.past c.in-Some.ensures.0 in
    record {
      past = one_past c.args.text.now (loop.at + c.in-Some.others) within here c.in_default-after_order_at.ensures.none;
      within = omega (arith, within);
    }

pub returns-in-Some-after_order_at-clause-value : goal.returns-in-Some-after_order_at-clause-value
returns-in-Some-after_order_at-clause-value c =
    let loop = c.loop-others in
    order_found c.args.text.now (loop.at + c.in-Some.others) (lines_of c.in-Some-after_order_at.after.now)
    (up_to_first c.args.text.now loop.at c.in-Some.others loop.invariant.within loop.invariant.past c.in-Some.ensures.0)
    c.in-Some-after_order_at.ensures.some

pub returns-clause-value : goal.returns-clause-value
returns-clause-value c =
    order_nowhere c.args.text.now
    (up_to_end c.args.text.now c.loop-others.at c.loop-others.invariant.within c.loop-others.invariant.past c.in_default.ensures)
