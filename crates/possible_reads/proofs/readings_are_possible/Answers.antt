use Rattle.possible_reads.proofs.Rounds.{read-possible}
use Rattle.possible_reads.proofs.readings_are_possible.Goals as goal

pub returns : goal.returns
returns c t k facts rounds read r a met at p = read-possible c.no_two_read_one_source.ensures c.reads_add_up.ensures t k a facts met rounds read r at p
