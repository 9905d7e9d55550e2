use Rattle.explorer.proofs.Vocabulary.{on-ok, subst, arith, Packs, number_bytes, read_number}
use Rattle.explorer.proofs.ReadBack.{packs-word}
use Rattle.explorer.proofs.packing.push_word.Goals as goal

pub returns : goal.returns
returns c =
    let l = c.ranges.word in
    on-ok c.push_number.result
    (λ h.
    packs-word c.args.word _ _ (omega (arith, l))
    (subst (λ z. Packs number_bytes read_number z c.args.bytes.now.items c.push_number.new.bytes.items) c.from.ensures h))
    c.push_number.ensures
