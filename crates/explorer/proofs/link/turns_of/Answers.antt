use Rattle.explorer.proofs.Vocabulary.{[], ◌++◌, map, ap, ◌∙◌, Made, Exchanged}
use Rattle.std.proofs.lemmas.List.{take_all}
use Rattle.explorer.proofs.Linking.{one-told}
use Rattle.explorer.proofs.link.turns_of.Goals as goal

pub loop-choice-preserved : goal.loop-choice-preserved
loop-choice-preserved c =
    one-told Made c.args.choices.now c.loop-choice.choice-index _ [] c.loop-choice.turns.items c.push.new.self.items
    c.loop-choice-test.true c.in_ok-push.ensures.items c.loop-choice.invariant

pub loop-pair-preserved : goal.loop-pair-preserved
loop-pair-preserved c =
    one-told Exchanged c.args.exchanges.now c.loop-pair.pair-index _ c.loop-choice.turns.items c.loop-pair.turns.items c.push-in-loop-pair.new.self.items
    c.loop-pair-test.true c.in_ok-push-2.ensures.items c.loop-pair.invariant

pub returns : goal.returns
returns c =
    c.loop-pair.invariant
    ∙ (ap (λ z. c.loop-choice.turns.items ++ map Exchanged z) (take_all c.loop-pair.pair-index c.args.exchanges.now c.loop-pair-test.false)
    ∙ ap (λ z. z ++ map Exchanged c.args.exchanges.now)
    (c.loop-choice.invariant ∙ ap (map Made) (take_all c.loop-choice.choice-index c.args.choices.now c.loop-choice-test.false)))
