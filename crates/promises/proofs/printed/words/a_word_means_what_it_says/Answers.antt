use Rattle.promises.proofs.printed.words.a_word_means_what_it_says.Goals as goal

pub returns-clause-never : goal.returns-clause-never
returns-clause-never c = c.words_mean_what_they_say.ensures.never

pub returns-clause-always : goal.returns-clause-always
returns-clause-always c = c.words_mean_what_they_say.ensures.always

pub returns-clause-sometimes : goal.returns-clause-sometimes
returns-clause-sometimes c = c.words_mean_what_they_say.ensures.sometimes
