use Rattle.scheduler.proofs.Vocabulary.{choice_of_word}
use Rattle.scheduler.proofs.Generated.{none-drawn, one-drawn}
use Rattle.scheduler.proofs.coming.SeededChoices.next.Goals as goal

pub returns-then-self-eq0 : goal.returns-then-self-eq0
returns-then-self-eq0 c =
    let none = none-drawn (choice_of_word c.args.self.now.cores) c.args.self.now.left c.args.self.now.generator c.if-self-eq0.true in
    (none, none)

pub returns : goal.returns
returns c =
    one-drawn (choice_of_word c.args.self.now.cores) c.args.self.now.left c.args.self.now.generator c.next_word.new.self
    c.next_word.result c.choice_of_word.result
    c.if-self-eq0.false c.next_word.ensures c.choice_of_word.ensures
