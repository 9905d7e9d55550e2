use Rattle.litmus_reader.proofs.Vocabulary.{ap, sym, ◌∙◌, List, ℕ, initial_at, tokens_in, stop_of}
use Rattle.litmus_reader.proofs.Within.{names_are_text}
use Rattle.litmus_reader.proofs.reader.body_with.Goals as goal

pub parts_of-requires-clause-names : goal.parts_of-requires-clause-names
parts_of-requires-clause-names c =
    let first =
    sym (ap (λ (l : List (List ℕ)). initial_at (stop_of c.args.set c.args.text.now) l (tokens_in c.args.set c.args.text.now)) c.requires.names)
    ∙ c.in_ok-rest.ensures.value in
    let further = rw c.in_ok-rest.ensures.stop at (rw c.deref.ensures.value at c.in_ok-rest-2.ensures.value) in
    let ending = rw (c.in_ok-rest-2.ensures.stop, c.in_ok-rest.ensures.stop) at c.in_ok-cond.ensures in
    rw c.as_slice.ensures.value (names_are_text c.args.set c.args.text.now _ _ _ _ _ first further ending)
