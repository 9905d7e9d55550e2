use Rattle.explorer.proofs.Vocabulary.{on-ok}
use Rattle.explorer.proofs.Appending.{all-appended}
use Rattle.explorer.proofs.running_on.go_on.Goals as goal

pub returns-clause-made : goal.returns-clause-made
returns-clause-made c = on-ok c.make-2.result (λ made. all-appended _ _ _ _ _ _ _ _ c.in_ok-has_stepped.ensures.made made) c.make-2.ensures.made
