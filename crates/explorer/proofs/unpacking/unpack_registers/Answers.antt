use Rattle.explorer.proofs.Vocabulary.{◌≡◌, ap, sym, ◌∙◌, arith, length-set, read_word, read_all, read_registers}
use Rattle.std.proofs.lemmas.List.{take_all}
use Rattle.explorer.proofs.ReadBack.{next-read}
use Rattle.explorer.proofs.unpacking.unpack_registers.Goals as goal

pub loop-at-preserved : goal.loop-at-preserved
loop-at-preserved c =
    let l = c.loop-at-test.true in let n = c.loop-at.invariant.count in
    record {
      read =
          next-read read_word c.loop-at.at c.args.bytes.now _ _ c.loop-at.registers _ (omega (arith, l, n))
          c.loop-at.invariant.read c.take_word-word.ensures;
      count = length-set c.loop-at.registers c.loop-at.at _ ∙ n;
    }

pub returns : goal.returns
unfolding read_registers
returns c =
    let l = c.loop-at-test.false in
    let m = c.loop-at.auto.at-end in
    let n = c.loop-at.invariant.count in
    let six : c.loop-at.at ≡ 6 = omega (arith, l, m) in
    sym (ap (λ k. read_all read_word k c.args.bytes.now) (sym six)
    ∙ c.loop-at.invariant.read
    ∙ ap (λ z. (z, c.loop-at.rest.now)) (take_all c.loop-at.at c.loop-at.registers (omega (arith, l, n))))
