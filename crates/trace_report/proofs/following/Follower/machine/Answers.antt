use Rattle.trace_report.proofs.Tracing.{is-shown}
use Rattle.trace_report.proofs.following.Follower.machine.Goals as goal

pub machine_value-requires-clause-shown : goal.machine_value-requires-clause-shown
machine_value-requires-clause-shown g c = is-shown c.args.self.now.test.now c.args.self.now.config c.args.machine.now c.requires.0.machine c.requires.1.each
