use Rattle.std.proofs.Common.{refl, ap, ◌∙◌}
use Rattle.tso_terms.specs.FinalState.{words_from}
use Rattle.execution_check.proofs.Growing.{all-made}
use Rattle.execution_check.proofs.final_state.words_left.Goals as goal

pub returns : goal.returns
returns c =
    all-made (λ ws. words_from c.loop-word.loc ws c.args.order.now) refl c.initial_words-word-items.result.now c.loop-word.word-index
    c.loop-word.left.items _ c.loop-word-test.false c.loop-word.invariant.words
    ∙ ap (λ ws. words_from 0 ws c.args.order.now) c.initial_words-word-items.ensures.value
