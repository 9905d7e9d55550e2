use Rattle.order_breaches.proofs.Vocabulary.{◌≡◌, ◌<◌, ℕ, Some, slice_get, length, Entry, kept_in, IsSource}
use Rattle.order_breaches.proofs.OwnWrites.{AreLatest}
use Rattle.order_breaches.proofs.sources.own_writes.Given as goal

abbrev pub invariant-loop-e : goal.invariant-loop-e
invariant-loop-e l = record {
  latest : AreLatest l.made l.e-index l.latest;
  sources : (k : ℕ) (e : Entry) → k < l.e-index → slice_get l.made k ≡ Some e → IsSource l.made e (kept_in l.sources.items k);
  count : length l.sources.items ≡ l.e-index;
}
