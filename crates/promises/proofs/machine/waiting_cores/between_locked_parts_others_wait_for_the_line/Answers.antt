use Rattle.promises.proofs.Waiting.{others-wait-if}
use Rattle.promises.proofs.machine.waiting_cores.between_locked_parts_others_wait_for_the_line.Goals as goal

pub returns : goal.returns
returns g c =
    others-wait-if c.between_locked_parts_its_core_alone_hits.result
    c.between_locked_parts_its_core_alone_hits.new.machine c.between_locked_parts_its_core_alone_hits.ensures
