use Rattle.std.proofs.Common.{refl, sym, ◌∙◌}
use Rattle.wrong_reads.proofs.wrong_read.Goals as goal

pub returns-clause-found : goal.returns-clause-found
returns-clause-found c ours = (
  refl,
  sym c.is_read.ensures ∙ c.if-not-is_read.false,
  c.if-x-due.false,
  (c.source-source.result, c.source-source.ensures ours, c.due_value-due.ensures),
)

pub returns-then-x-due-clause-none : goal.returns-then-x-due-clause-none
returns-then-x-due-clause-none c ours _ _ = (c.source-source.result, c.source-source.ensures ours, c.if-x-due.true ∙ c.due_value-due.ensures)
