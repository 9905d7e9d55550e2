use Rattle.order_builder.proofs.Vocabulary.{◌+◌, count_by, is_line_feed, ap, ◌∙◌, Err, BadLine, arith}
use Rattle.order_builder.proofs.LoopLemmas.{goes_on, ends_bad, ends_good, ends_miscounted, ends_early}
use Rattle.order_builder.proofs.reading.read_entries.Goals as goal

pub returns-then-number_is : goal.returns-then-number_is
returns-then-number_is c =
    ends_good c.args.test.now (count_by is_line_feed c.args.before.now + 1) c.len.result c.loop-line.order.items c.loop-line.rest.now c.in-Some.line.now
    c.in-Some.after.now c.in-Some-end_in.digits.now _
    c.in-Some.ensures.some c.in-Some-end_in.ensures c.if-number_is.ensures c.loop-line.invariant.same (omega (arith, c.len.ensures))

pub returns-in-Some-end_in : goal.returns-in-Some-end_in
returns-in-Some-end_in c =
    ends_miscounted c.args.test.now (count_by is_line_feed c.args.before.now + 1) c.len.result c.loop-line.order.items c.loop-line.rest.now
    c.in-Some.line.now c.in-Some.after.now c.in-Some-end_in.digits.now _
    c.in-Some.ensures.some c.in-Some-end_in.ensures c.if-number_is.ensures c.loop-line.invariant.same (omega (arith, c.len.ensures))

pub returns-in-None : goal.returns-in-None
returns-in-None c =
    ends_bad c.args.test.now (count_by is_line_feed c.args.before.now + 1) c.len-in-None.result c.loop-line.order.items c.loop-line.rest.now
    c.in-Some.line.now c.in-Some.after.now _ c.in-Some.ensures.some
    c.in_default-end_in.ensures c.in-None.ensures c.loop-line.invariant.same (omega (arith, c.len-in-None.ensures))
    ∙ ap (λ number. Err (BadLine number)) (omega (arith, c.line_feeds_in.ensures))

pub loop-line-preserved : goal.loop-line-preserved
loop-line-preserved c = record {
  same =
      rw c.in_ok-push-in-Some-entry_in.ensures.items
      (goes_on c.args.test.now (count_by is_line_feed c.args.before.now + 1) c.loop-line.order.items c.loop-line.rest.now c.in-Some.line.now
      c.in-Some.after.now c.in-Some-entry_in.entry _ c.in-Some.ensures.some
      c.in_default-end_in.ensures c.in-Some-entry_in.ensures c.loop-line.invariant.same);
  within = omega (arith, c.in_ok-push-in-Some-entry_in.ensures.len, c.in-Some.ensures.shorter, c.loop-line.invariant.within);
}

pub returns : goal.returns
returns c =
    ends_early c.args.test.now (count_by is_line_feed c.args.before.now + 1) c.loop-line.order.items
    c.loop-line.rest.now _ c.in_default.ensures.none c.loop-line.invariant.same
