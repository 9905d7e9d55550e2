use Rattle.std.proofs.Common.{rules}
use Rattle.refutations.proofs.Vocabulary.{returned}
use Rattle.refutations.proofs.Walking.{core-more}
use Rattle.refutations.proofs.facts.run_all.Goals as goal

pub loop-number-preserved : goal.loop-number-preserved
loop-number-preserved c = record {
  writes =
      core-more (returned c.args.test.now c.args.before.now c.args.sources.now) c.args.test.now.programs c.args.test.now.registers c.loop-number.number
      c.known_first_registers.result c.loop-number.writes.items c.run_program.new.walk.writes.items _ (search rules) c.known_first_registers.ensures
      c.in_ok-run_program.ensures.writes c.loop-number.invariant.writes;
  count = search rules;
  each = search rules;
}
