use Rattle.scheduler.proofs.Vocabulary.{◌≡◌, ◌+◌, drop, prefix_len}
use Rattle.scheduler.proofs.FirstWord.{is_of}
use Rattle.scheduler.proofs.words.prefix_length.Given as goal

abbrev pub invariant-loop-at : goal.invariant-loop-at
invariant-loop-at l = prefix_len (is_of l.of_space) l.text ≡ l.at + prefix_len (is_of l.of_space) (drop l.at l.text)
