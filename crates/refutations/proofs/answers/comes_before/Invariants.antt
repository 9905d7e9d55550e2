use Rattle.refutations.proofs.Vocabulary.{◌≡◌, ◌&&◌, drop, list_any, known_of, Pair, same_event, comes_before}
use Rattle.refutations.proofs.answers.comes_before.Given as goal

abbrev pub invariant-loop-p : goal.invariant-loop-p
invariant-loop-p l =
    list_any (λ (x : Pair). same_event x.first l.w && same_event x.second l.v) (drop l.p-index l.p-items) ≡ comes_before (known_of l.answers) l.w l.v
