use Rattle.possible_reads.specs.Possible.{readings_after}
use Rattle.possible_reads.proofs.Rounds.{possible, ordered}
use Rattle.possible_reads.proofs.known_order_is_right.Goals as goal

pub returns : goal.returns
returns c t k facts rounds first second w v a met p q h e =
    ordered c.no_two_read_one_source.ensures c.reads_add_up.ensures t k a facts met (readings_after t facts rounds)
    (possible c.no_two_read_one_source.ensures c.reads_add_up.ensures t k a facts met rounds) first second w v p q h e
