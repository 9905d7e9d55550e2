use Rattle.order_builder.proofs.Vocabulary.{◌-◌, ◌≤◌, length}
use Rattle.order_builder.proofs.OrderLine.{IsPast}
use Rattle.order_builder.proofs.reading.around_order_line.Given as goal

abbrev pub invariant-loop-others : goal.invariant-loop-others
invariant-loop-others l = record {
  past : IsPast l.text l.at;
  within : l.at ≤ length l.text;
}

abbrev pub decreases-loop-others : goal.decreases-loop-others
decreases-loop-others l = length l.text - l.at
