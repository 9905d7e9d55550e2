use Rattle.tso_report.proofs.Tallies.{known-in-state}
use Rattle.tso_report.proofs.tally.Tally.add_state.Goals as goal

pub values_at-requires : goal.values_at-requires
values_at-requires c =
    known-in-state c.self.inside.test.now c.self.inside.counters c.args.self.now c.args.registers.now c.args.memory.now
    c.self.inside.names.items c.deref.result.now
    c.self.view_is c.requires.registers c.requires.memory c.self.invariant.0 c.deref.ensures.value
