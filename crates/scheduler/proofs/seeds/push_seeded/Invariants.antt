use Rattle.scheduler.proofs.Vocabulary.{◌≡◌, List, ◌++◌, length, map, Choice, choice_of_word, drawn_words, seeded_choices}
use Rattle.scheduler.specs.declared.coming.Seeded.{Seeded}
use Rattle.scheduler.proofs.seeds.push_seeded.Given as goal

abbrev to_come : Seeded → List Choice
to_come s = map (choice_of_word s.cores) (drawn_words s.left s.generator)

-- what is made and what is to come are the whole
abbrev pub invariant-loop-choice : goal.invariant-loop-choice
invariant-loop-choice l = l.choices.items ++ to_come l.drawn ≡ l.fn.choices.items ++ seeded_choices l.fn.cores l.fn.seed l.fn.count

abbrev pub decreases-loop-choice : goal.decreases-loop-choice
decreases-loop-choice l = length (to_come l.drawn)
