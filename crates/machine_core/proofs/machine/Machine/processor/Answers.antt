use Rattle.machine_core.proofs.LookingLemmas.{core_found}
use Rattle.machine_core.proofs.machine.Machine.processor.Goals as goal

pub returns : goal.returns
returns g c =
    rw (← c.self.view_is)
    (core_found c.self.inside.hardware.processors.items c.args.core.0 c.get.result
    (rw (c.from.ensures, c.deref.ensures.value) at c.get.ensures.lookup.0)
    (rw (c.from.ensures, c.deref.ensures.value) at c.get.ensures.lookup.1))
