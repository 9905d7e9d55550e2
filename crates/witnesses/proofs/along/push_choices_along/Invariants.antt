use Rattle.witnesses.proofs.Vocabulary.{◌≡◌, ◌++◌, drop, length, choices_along, choices_from}
use Rattle.witnesses.proofs.along.push_choices_along.Given as goal

abbrev pub invariant-loop-entry : goal.invariant-loop-entry
invariant-loop-entry l = record {
  made : l.choices.items ++ choices_from l.test l.places (drop l.entry-index l.order) ≡ l.fn.choices.items ++ choices_along l.test l.order;
  cores : length l.places ≡ length l.test.programs;
}
