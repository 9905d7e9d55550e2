use Rattle.found_reasons.proofs.Vocabulary.{◌≡◌, ◌+◌, drop, known_of, question_of, read_or, pair_or, first_pair, first_unread, first_beside, next_question}
use Rattle.found_reasons.proofs.questions.next_question.Given as goal

abbrev pub invariant-loop-r : goal.invariant-loop-r
invariant-loop-r l =
    read_or (first_unread (known_of l.answers) (drop l.r-index l.events)) (question_of (first_pair (known_of l.answers) l.events l.events))
    ≡ next_question (known_of l.answers) l.events

abbrev pub invariant-loop-w : goal.invariant-loop-w
invariant-loop-w l =
    question_of (first_pair (known_of l.answers) (drop l.w-index l.events) l.events) ≡ next_question (known_of l.answers) l.events

abbrev pub invariant-loop-v : goal.invariant-loop-v
invariant-loop-v l =
    question_of (pair_or l.w (first_beside (known_of l.answers) l.w (drop l.v-index l.events))
    (first_pair (known_of l.answers) (drop (l.w-index + 1) l.events) l.events)) ≡ next_question (known_of l.answers) l.events
