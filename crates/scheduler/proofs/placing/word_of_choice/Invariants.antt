use Rattle.scheduler.proofs.Vocabulary.{◌+◌, ◌≤◌, length, words_of_text}
use Rattle.scheduler.proofs.Stopping.{Passed}
use Rattle.scheduler.proofs.placing.word_of_choice.Given as goal

-- the words that were read are items, and the rest of the text has the others
abbrev pub invariant-loop-word : goal.invariant-loop-word
invariant-loop-word l = record {
  passed : Passed l.cores (words_of_text l.fn.text) l.place l.words l.room (words_of_text l.text);
  within : l.words + length l.text ≤ length l.fn.text;
}

abbrev pub decreases-loop-word : goal.decreases-loop-word
decreases-loop-word l = length l.text
