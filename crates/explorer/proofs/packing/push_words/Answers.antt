use Rattle.explorer.proofs.Vocabulary.{take_more, ◌+◌, subst, sym, Packs, number_bytes, all_bytes, read_word, read_all}
use Rattle.explorer.proofs.ReadBack.{packs-more, packs-none, all-packed}
use Rattle.explorer.proofs.packing.push_words.Goals as goal

pub loop-word-preserved : goal.loop-word-preserved
loop-word-preserved c =
    subst (λ z. Packs (all_bytes number_bytes) (read_all read_word (c.loop-word.word-index + 1)) z c.args.bytes.now.items c.push_word.new.bytes.items)
    (sym (take_more c.args.words.now c.loop-word.word-index _ c.loop-word-test.true))
    (packs-more number_bytes read_word c.loop-word.word-index _ _ _ _ _ c.loop-word.invariant c.in_ok-push_word.ensures)

pub loop-word-init : goal.loop-word-init
loop-word-init c = packs-none number_bytes read_word c.args.bytes.now.items

pub returns : goal.returns
returns c =
    all-packed number_bytes read_word c.args.words.now c.loop-word.word-index _ _ c.loop-word-test.false
    c.loop-word.auto.word-index-end c.loop-word.invariant
