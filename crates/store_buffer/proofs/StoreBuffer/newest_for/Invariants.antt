use Rattle.std.proofs.Common.{◌≡◌, None, fold, map}
use Rattle.store_buffer.specs.inner.Newest.{newer}
use Rattle.store_buffer.proofs.StoreBuffer.newest_for.Given as goal

-- the newest among the stores so far
abbrev pub invariant-loop-p : goal.invariant-loop-p
invariant-loop-p l = l.newest ≡ fold (newer l.loc.0) None (map (λ p. p.now) l.yielded)
