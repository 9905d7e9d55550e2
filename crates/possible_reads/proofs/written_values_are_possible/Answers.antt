use Rattle.possible_reads.specs.Possible.{readings_after}
use Rattle.possible_reads.proofs.Rounds.{possible, written-possible}
use Rattle.possible_reads.proofs.written_values_are_possible.Goals as goal

pub returns : goal.returns
returns c t k facts rounds write w a met at p =
    written-possible c.no_two_read_one_source.ensures c.reads_add_up.ensures t k a facts met (readings_after t facts rounds)
    (possible c.no_two_read_one_source.ensures c.reads_add_up.ensures t k a facts met rounds) write w at p
