use Rattle.explorer.proofs.Vocabulary.{sym, subst}
use Rattle.explorer.specs.inner.Coming.{AreAllComing}
use Rattle.explorer.proofs.eager.eager_choice.Goals as goal

pub invariant_of-at : goal.invariant_of-at
invariant_of-at c = record {
  cores = c.requires.cores;
  to_come = subst (AreAllComing c.args.plan.now.test.now) (sym c.deref.ensures.value) c.requires.plan.coming;
}
