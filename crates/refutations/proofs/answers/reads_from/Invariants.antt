use Rattle.refutations.proofs.Vocabulary.{◌≡◌, ◌&&◌, drop, list_any, known_of, Source, same_event, is_write_of, reads_from}
use Rattle.refutations.proofs.answers.reads_from.Given as goal

abbrev pub invariant-loop-s : goal.invariant-loop-s
invariant-loop-s l =
    list_any (λ (x : Source). same_event x.read l.r && is_write_of l.w x.write) (drop l.s-index l.s-items) ≡ reads_from (known_of l.answers) l.w l.r
