use Rattle.std.proofs.Common.{length, ap, ◌∙◌}
use Rattle.execution_check.proofs.Counting.{registers-count, words-count}
use Rattle.execution_check.proofs.meeting.is_met.Goals as goal

pub is_asked_true-requires-clause-registers : goal.is_asked_true-requires-clause-registers
is_asked_true-requires-clause-registers c =
    ap length (c.deref-3.ensures.value ∙ c.in_ok-registers.ensures)
    ∙ registers-count 0 c.args.test.now.programs c.args.test.now.registers c.deref.result.now

pub is_asked_true-requires-clause-words : goal.is_asked_true-requires-clause-words
is_asked_true-requires-clause-words c =
    ap length (c.deref-4.ensures.value ∙ c.in_ok-words.ensures)
    ∙ words-count 0 c.args.test.now.words c.deref-2.result.now
