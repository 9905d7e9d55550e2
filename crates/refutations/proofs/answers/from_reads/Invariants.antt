use Rattle.refutations.proofs.Vocabulary.{◌≡◌, ◌&&◌, drop, list_any, known_of, Source, same_event, is_overwritten, from_reads}
use Rattle.refutations.proofs.answers.from_reads.Given as goal

abbrev pub invariant-loop-s : goal.invariant-loop-s
invariant-loop-s l =
    list_any (λ (x : Source). same_event x.read l.r && is_overwritten (known_of l.answers) l.r x.write l.v) (drop l.s-index l.s-items)
    ≡ from_reads (known_of l.answers) l.r l.v
