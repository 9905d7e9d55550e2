use Rattle.promises.proofs.TracedRuns.{stands_on_atomic, stands_on_split}
use Rattle.promises.proofs.commands.answers.a_trace_stands_in_a_report.Goals as goal

pub returns-clause-atomic : goal.returns-clause-atomic
returns-clause-atomic c = λ is small.
    stands_on_atomic c.answer_to.result c.args.protocol c.args.config c.args.instructions c.args.input.now is small c.answer_to.ensures.headline

pub returns-clause-split : goal.returns-clause-split
returns-clause-split c = λ is small.
    stands_on_split c.answer_to.result c.args.protocol c.args.config c.args.instructions c.args.input.now is small c.answer_to.ensures.headline
