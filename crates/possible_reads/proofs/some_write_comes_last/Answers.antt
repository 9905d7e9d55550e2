use Rattle.possible_reads.specs.Possible.{readings_after}
use Rattle.possible_reads.proofs.Rounds.{possible, has-last}
use Rattle.possible_reads.proofs.some_write_comes_last.Goals as goal

pub returns : goal.returns
returns c t k facts rounds loc w a met i h =
    has-last c.no_two_read_one_source.ensures c.reads_add_up.ensures t k a facts met (readings_after t facts rounds)
    (possible c.no_two_read_one_source.ensures c.reads_add_up.ensures t k a facts met rounds) loc w i h
