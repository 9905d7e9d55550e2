use Rattle.reading_tables.proofs.Vocabulary.{◌≡◌, ◌∙◌, List, Bool, sym, ap, subst, slice_index_or}
use Rattle.std.proofs.Common.{rules}
use Rattle.possible_reads.specs.Possible.{never_wraps}
use Rattle.reading_tables.proofs.WriteNumbers.{told-more}
use Rattle.reading_tables.proofs.amounts.each_never_wraps.Goals as goal

pub loop-loc-preserved : goal.loop-loc-preserved
loop-loc-preserved c = record {
  each = λ loc. subst (λ (bs : List Bool). slice_index_or bs loc (never_wraps c.args.test.now loc) ≡ never_wraps c.args.test.now loc)
      (sym c.in_ok-push.ensures.items)
      (told-more (never_wraps c.args.test.now) c.loop-loc.each.items c.never_wraps.result loc (c.loop-loc.invariant.each loc)
      (c.never_wraps.ensures ∙ ap (never_wraps c.args.test.now) (sym c.loop-loc.invariant.count)));
  count = search rules;
}
