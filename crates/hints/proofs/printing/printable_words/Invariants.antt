use Rattle.std.proofs.Common.{◌≡◌, map, take}
use Rattle.hints.specs.inner.Hint.{shown_byte}
use Rattle.hints.proofs.printing.printable_words.Given as goal

abbrev pub invariant-loop-at : goal.invariant-loop-at
invariant-loop-at l = l.shown.items ≡ map shown_byte (take l.at l.words)
