use Rattle.found_reasons.proofs.Vocabulary.{◌≡◌, drop, list_any, known_of, same_event, has_source}
use Rattle.refutation_laws.specs.declared.known.Source.{Source}
use Rattle.found_reasons.proofs.questions.is_read_known.Given as goal

abbrev pub invariant-loop-s : goal.invariant-loop-s
invariant-loop-s l =
    list_any (λ (x : Source). same_event x.read l.r) (drop l.s-index l.s-items) ≡ has_source (known_of l.answers) l.r
