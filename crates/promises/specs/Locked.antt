-- The line of a locked instruction that has read and not yet written: a load of its own core hits there, and no access of
-- another core.
use Rattle.std.specs.Prelude.{ℕ, ◌/◌, ◌≡◌, ◌≢◌, Bool, true, false}
use Rattle.tso_terms.specs.SplitMachine.{HeldBetween}
use Rattle.tso_terms.specs.declared.execution.Entry.{Entry}
use Rattle.multiprocessor.specs.Caches.{Caches, would_hit}
use Rattle.machine_core.specs.Running.{Running}

-- both are locations of one line
abbrev pub ShareLine : Caches → ℕ → ℕ → Type 0
ShareLine c a b = a / c.shape.words ≡ b / c.shape.words

-- a load of the core itself would hit there, and no access of another core
pub record HitsAlone (c : Caches) (e : Entry) : Type 0 where
  pub own : would_hit c e.core.0 e.loc.0 false ≡ true
  pub others : (core loc : ℕ) (write : Bool) → core ≢ e.core.0 → ShareLine c loc e.loc.0 → would_hit c core loc write ≡ false

abbrev pub OwnCoreAloneHits : Running → Type 0
OwnCoreAloneHits m = (e : Entry) → m.state.holder ≡ HeldBetween e → HitsAlone m.statistics.caches e
