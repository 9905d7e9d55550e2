use Rattle.explorer.proofs.Vocabulary.{[], ap, sym, ◌∙◌, arith, read_word}
use Rattle.explorer.proofs.ReadBack.{read-one-more, list-read}
use Rattle.explorer.proofs.unpacking.unpack_memory.Goals as goal

pub loop-at-init : goal.loop-at-init
loop-at-init c = ap (λ z. (z, c.take_number-count.result.1.now)) (sym c.clear.ensures.items)

pub loop-at-preserved : goal.loop-at-preserved
loop-at-preserved c =
    read-one-more (λ _. []) read_word c.loop-at._at _ _ _ _ _ c.loop-at.invariant (sym c.take_word-word.ensures)
    ∙ ap (λ z. (z, c.take_word-word.result.1.now)) (sym c.in_ok-push.ensures.items)

pub returns : goal.returns
returns c =
    let l = c.loop-at-test.false in
    let m = c.loop-at.auto._at-end in
    list-read read_word c.args.bytes.now _ _ _ c.loop-at._at _ c.take_number-count.ensures (omega (arith, l, m)) c.loop-at.invariant
