use Rattle.scheduler.proofs.Vocabulary.{◌≡◌, ◌++◌, drop, string_bytes, printed_after}
use Rattle.scheduler.proofs.printing.write_after.Given as goal

abbrev pub invariant-loop-choice : goal.invariant-loop-choice
invariant-loop-choice l = string_bytes l.text ++ printed_after (drop l.choice-index l.choices) ≡ string_bytes l.initial.text ++ printed_after l.choices
