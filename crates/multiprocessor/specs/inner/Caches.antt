-- What the caches hold between the two parts of a locked instruction: its core has the line in M, and nobody else has it.
-- So a write of another core can't hit there, which is what keeps the two parts adjacent for that location.
use Rattle.std.specs.Prelude.{ℕ, ◌/◌, ◌≡◌, ◌≢◌, Some, None}
use Rattle.tso_terms.specs.declared.execution.Entry.{Entry}
use Rattle.protocol_tables.specs.declared.state.State.TheVariants.{M}
use Rattle.multiprocessor.specs.Vocabulary.{tag_at}
use Rattle.multiprocessor.specs.Caches.{Caches}

-- between the two parts of a locked instruction, whose load part this is: its core has the line in M, and no other core has it
pub record HasLineAlone (c : Caches) (e : Entry) : Type 0 where
  pub own : tag_at e.core.0 (e.loc.0 / c.shape.words) c.contents ≡ Some M
  pub others : (core : ℕ) → core ≢ e.core.0 → tag_at core (e.loc.0 / c.shape.words) c.contents ≡ None
