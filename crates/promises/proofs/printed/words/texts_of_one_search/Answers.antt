use Rattle.promises.proofs.printed.words.texts_of_one_search.Goals as goal

pub returns-clause-first : goal.returns-clause-first
returns-clause-first c = λ t s json again out other said. said.first

pub returns-clause-second : goal.returns-clause-second
returns-clause-second c = λ t s json again out other said. said.second

pub returns-clause-alike : goal.returns-clause-alike
returns-clause-alike c = λ t s json again out other said. said.alike

pub returns-clause-but_for_choices : goal.returns-clause-but_for_choices
returns-clause-but_for_choices c = λ t s json again out other said. said.but_for_choices

pub returns-clause-more : goal.returns-clause-more
returns-clause-more c = λ t s json out none. none.more

pub returns-clause-unfinished : goal.returns-clause-unfinished
returns-clause-unfinished c = λ t s json out none. none.printed

pub returns-clause-some : goal.returns-clause-some
returns-clause-some c = λ t s json out said. said.some
