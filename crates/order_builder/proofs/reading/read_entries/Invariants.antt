use Rattle.order_builder.proofs.Vocabulary.{◌≡◌, ◌+◌, ◌≤◌, length, count_by, is_line_feed, lines_of, entries_in}
use Rattle.order_builder.proofs.LoopLemmas.{with_front}
use Rattle.order_builder.proofs.reading.read_entries.Given as goal

abbrev pub invariant-loop-line : goal.invariant-loop-line
invariant-loop-line l = record {
  same : with_front l.order.items
      (entries_in l.test (count_by is_line_feed l.before + 1) (length l.order.items) (lines_of l.rest))
      ≡ entries_in l.test (count_by is_line_feed l.before + 1) 0 (lines_of l.text);
  within : length l.order.items + length l.rest ≤ length l.text;
}

abbrev pub decreases-loop-line : goal.decreases-loop-line
decreases-loop-line l = length l.rest
