use Rattle.order_builder.proofs.Vocabulary.{◌≡◌, ◌<◌, ℕ, get_or, false, eqb}
use Rattle.order_builder.proofs.lines.split_once.Given as goal

abbrev pub invariant-loop-at : goal.invariant-loop-at
invariant-loop-at l = (k : ℕ) → k < l.at → eqb (get_or l.text k 0) l.byte ≡ false
