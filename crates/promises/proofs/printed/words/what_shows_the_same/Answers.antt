use Rattle.promises.proofs.printed.words.what_shows_the_same.Goals as goal

pub returns-clause-alike : goal.returns-clause-alike
returns-clause-alike c = λ t names outcomes others same. same.alike

pub returns-clause-choices : goal.returns-clause-choices
returns-clause-choices c = λ t names outcomes others same. same.choices
