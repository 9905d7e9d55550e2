use Rattle.trace_report.proofs.Vocabulary.{◌≡◌, ◌++◌, take, drop, own_words_from, own_words}
use Rattle.trace_report.proofs.own_words.follow_words.Given as goal

abbrev pub invariant-loop-loc : goal.invariant-loop-loc
invariant-loop-loc g l =
    take l.loc l.memory ++ own_words_from l.machine l.loc (drop l.loc l.memory) (drop l.loc l.machine.state.flat.memory) ≡ own_words l.machine l.initial.memory
