use Rattle.order_builder.proofs.Vocabulary.{◌≡◌, ◌<◌, ℕ, get_or, false, [], bytes_eq}
use Rattle.order_builder.proofs.entries.location_named.Given as goal

abbrev pub invariant-loop-loc : goal.invariant-loop-loc
invariant-loop-loc l = (k : ℕ) → k < l.loc → bytes_eq (get_or l.test.locations k []) l.name ≡ false
