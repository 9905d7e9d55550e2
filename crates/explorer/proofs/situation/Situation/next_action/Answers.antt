use Rattle.explorer.proofs.Vocabulary.{core_of_processor, state_of_snapshot}
use Rattle.explorer.proofs.Mapping.{next-is}
use Rattle.explorer.proofs.situation.Situation.next_action.Goals as goal

pub returns : goal.returns
returns c =
    next-is c.args.self.now.test.now (state_of_snapshot c.args.self.now.state.now) c.args.core.0
    c.program-program.result.now c.from-place.result (core_of_processor c.processor.result.now) _ c.action.result
    c.program-program.ensures.value c.processor.ensures c.from-place.ensures c.if-place-program.false c.action.ensures
