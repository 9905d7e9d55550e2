use Rattle.flat_machine.proofs.Vocabulary.{◌≡◌, drop, filter, writes_to, last_value}
use Rattle.flat_machine.proofs.acting.newest.Given as goal

abbrev pub invariant-loop-entry : goal.invariant-loop-entry
invariant-loop-entry l =
    last_value (filter (writes_to l.loc.0) (drop l.entry-index l.pending)) l.value
    ≡ last_value (filter (writes_to l.loc.0) l.pending) l.word
