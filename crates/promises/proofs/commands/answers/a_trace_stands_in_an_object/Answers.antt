use Rattle.promises.proofs.TracedRuns.{objects_on_atomic, objects_on_split, refuses_on_atomic, refuses_on_split}
use Rattle.promises.proofs.commands.answers.a_trace_stands_in_an_object.Goals as goal

pub returns-clause-atomic : goal.returns-clause-atomic
returns-clause-atomic c = λ is small.
    objects_on_atomic c.answer_to.result c.args.protocol c.args.config c.args.instructions c.args.input.now is small c.answer_to.ensures.headline

pub returns-clause-split : goal.returns-clause-split
returns-clause-split c = λ is small.
    objects_on_split c.answer_to.result c.args.protocol c.args.config c.args.instructions c.args.input.now is small c.answer_to.ensures.headline

pub returns-clause-long_on_atomic : goal.returns-clause-long_on_atomic
returns-clause-long_on_atomic c = λ is small.
    refuses_on_atomic c.answer_to.result c.args.protocol c.args.config c.args.instructions c.args.input.now is small c.answer_to.ensures.headline

pub returns-clause-long_on_split : goal.returns-clause-long_on_split
returns-clause-long_on_split c = λ is small.
    refuses_on_split c.answer_to.result c.args.protocol c.args.config c.args.instructions c.args.input.now is small c.answer_to.ensures.headline
