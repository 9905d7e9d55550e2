use Rattle.explorer.proofs.Vocabulary.{◌++◌, ap, ◌∙◌, arith}
use Rattle.explorer.proofs.ReadBack.{packs-short, packs-long}
use Rattle.explorer.proofs.packing.push_number.Goals as goal

pub returns-then-number : goal.returns-then-number
returns-then-number c = packs-short c.args.number _ _ c.if-number.true c.in_ok-push.ensures.items

pub returns : goal.returns
returns c =
    let l = c.ranges.number in
    packs-long c.args.number _ c.push-2.new.self.items _ c.if-number.false (omega (arith, l)) c.in_ok-push-2.ensures.items
    (c.in_ok-extend_from_slice.ensures.items ∙ ap (λ z. c.push-2.new.self.items ++ z) c.to_le_bytes.ensures)
