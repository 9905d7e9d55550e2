use Rattle.reading_tables.proofs.Vocabulary.{◌≡◌, length}
use Rattle.reading_tables.specs.inner.Bounds.{NeverWrapWhere}
use Rattle.reading_tables.proofs.amounts.each_never_wraps.Given as goal

abbrev pub invariant-loop-loc : goal.invariant-loop-loc
invariant-loop-loc l = record {
  each : NeverWrapWhere l.test l.each.items;
  count : length l.each.items ≡ l.loc;
}
