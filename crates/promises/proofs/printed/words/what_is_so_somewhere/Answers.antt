use Rattle.promises.proofs.Vocabulary.{refl}
use Rattle.promises.proofs.printed.words.what_is_so_somewhere.Goals as goal

pub returns-clause-runs : goal.returns-clause-runs
returns-clause-runs c = λ t depth claim truth so. so.runs

pub returns-clause-buffered : goal.returns-clause-buffered
returns-clause-buffered c = λ t depth claim truth so. so.buffered

pub returns-clause-sequential : goal.returns-clause-sequential
returns-clause-sequential c = λ t claim truth so. so.sequential refl
