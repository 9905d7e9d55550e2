use Rattle.scheduler.proofs.Vocabulary.{sym, append-nil, drawn_words}
use Rattle.scheduler.proofs.seeds.push_seeded.Goals as goal

pub returns-then-count-eq0 : goal.returns-then-count-eq0
unfolding drawn_words
returns-then-count-eq0 c = rw c.if-count-eq0.true (sym (append-nil _))
