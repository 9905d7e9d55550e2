use Rattle.scheduler.proofs.Vocabulary.{◌≡◌, ◌≤◌, ◌+◌, length, take, drop, most_choices, words_of_text, AreItems}
use Rattle.scheduler.proofs.choices.choices_of.Given as goal

-- the choices are those of the words that were read, and the rest of the text has the others
abbrev pub invariant-loop-word : goal.invariant-loop-word
invariant-loop-word l = record {
  items : AreItems l.cores (take l.words (words_of_text l.fn.text)) l.choices.items;
  few : length l.choices.items ≤ most_choices;
  to_come : drop l.words (words_of_text l.fn.text) ≡ words_of_text l.text;
  within : l.words + length l.text ≤ length l.fn.text;
}

abbrev pub decreases-loop-word : goal.decreases-loop-word
decreases-loop-word l = length l.text
