use Rattle.order_breaches.proofs.Vocabulary.{sym, ◌∙◌, refl}
use Rattle.order_breaches.proofs.entry_breaches.wrong_write.Goals as goal

pub returns-clause-found : goal.returns-clause-found
returns-clause-found c ours = (
  refl,
  (sym c.is_write.ensures ∙ c.if-not-is_write.false, λ e. c.if-x-due.false (e ∙ sym (c.program_value-due.ensures ours))),
  c.program_value-due.ensures ours,
)
