use Rattle.refutations.proofs.Vocabulary.{◌≡◌, known_of, known_writes}
use Rattle.refutations.proofs.facts.known_facts.Given as goal

abbrev pub invariant-loop-round : goal.invariant-loop-round
invariant-loop-round l = l.writes.items ≡ known_writes l.test (known_of l.answers) l._round
