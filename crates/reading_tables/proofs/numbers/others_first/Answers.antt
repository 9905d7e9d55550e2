use Rattle.reading_tables.proofs.Vocabulary.{◌≤◌, ℕ, List, sym, subst, slice_index_or, ◌∙◌, ap, length}
use Rattle.std.proofs.Common.{rules}
use Rattle.reading_tables.specs.inner.Numbers.{others_before}
use Rattle.reading_tables.proofs.WriteNumbers.{pushed}
use Rattle.reading_tables.proofs.numbers.others_first.Goals as goal

pub loop-core-preserved : goal.loop-core-preserved
loop-core-preserved c = record {
  counts = λ core. subst (λ (ns : List ℕ). slice_index_or ns core 0 ≤ others_before c.args.written.now core) (sym c.in_ok-push.ensures.items)
      (pushed (others_before c.args.written.now) c.loop-core.counts.items c.others_before.result core (c.loop-core.invariant.counts core)
      (c.others_before.ensures ∙ ap (others_before c.args.written.now) (sym c.loop-core.invariant.length)));
  length = search rules;
}
