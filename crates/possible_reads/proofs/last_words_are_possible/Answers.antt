use Rattle.possible_reads.proofs.Ends.{word-possible}
use Rattle.possible_reads.proofs.last_words_are_possible.Goals as goal

pub returns : goal.returns
returns c t k facts rounds loc a met =
    word-possible c.no_two_read_one_source.ensures c.words_add_up.ensures c.reads_add_up.ensures t k a facts met rounds loc
