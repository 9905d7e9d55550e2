use Rattle.order_builder.proofs.Vocabulary.{◌≡◌, take, count_by, is_line_feed}
use Rattle.order_builder.proofs.lines.line_feeds_in.Given as goal

abbrev pub invariant-loop-at : goal.invariant-loop-at
invariant-loop-at l = l.count ≡ count_by is_line_feed (take l.at l.text)
