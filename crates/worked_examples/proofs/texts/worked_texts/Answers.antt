use Rattle.std.proofs.Common.{refl}
use Rattle.worked_examples.proofs.TextsRead.{computed_reading}
use Rattle.worked_examples.proofs.texts.worked_texts.Goals as goal

pub returns-clause-whole : goal.returns-clause-whole
unfolding computed_reading
returns-clause-whole c = refl

pub returns-clause-least : goal.returns-clause-least
unfolding computed_reading
returns-clause-least c = refl

pub returns-clause-eight : goal.returns-clause-eight
unfolding computed_reading
returns-clause-eight c = refl

pub returns-clause-whole_in_larger_set : goal.returns-clause-whole_in_larger_set
unfolding computed_reading
returns-clause-whole_in_larger_set c = refl

pub returns-clause-larger : goal.returns-clause-larger
unfolding computed_reading
returns-clause-larger c = refl
