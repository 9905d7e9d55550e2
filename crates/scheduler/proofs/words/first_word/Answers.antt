use Rattle.std.proofs.lemmas.Bool.{eqb-false}
use Rattle.scheduler.proofs.Vocabulary.{length, sym, arith, eqb-true}
use Rattle.scheduler.proofs.FirstWord.{none_found, word_found}
use Rattle.scheduler.proofs.words.first_word.Goals as goal

pub returns-then-is_empty-clause-none : goal.returns-then-is_empty-clause-none
returns-then-is_empty-clause-none c =
    none_found c.args.text.now c.split_at.result.1.now c.prefix_length.result c.prefix_length.ensures.value
    c.split_at.ensures.back (eqb-true _ _ (sym c.if-is_empty.ensures))

pub returns : goal.returns
returns c =
    let left = c.split_at.result.1.now in
    let apart = eqb-false (length left) 0 (sym c.if-is_empty.ensures) in
    let found =
    word_found c.args.text.now left c.split_at-2.result.0.now c.split_at-2.result.1.now c.after_first.result.now
    c.prefix_length.result c.prefix_length-2.result
    c.prefix_length.ensures.value c.split_at.ensures.back (omega (arith, apart)) c.prefix_length-2.ensures.value
    c.split_at-2.ensures.front c.split_at-2.ensures.back c.after_first.ensures in
    record { none = tt; some = found.0; shorter = found.1 }
