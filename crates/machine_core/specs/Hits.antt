-- What is told beforehand of an access, and what the access then is: on a split bus it is decided by this whether an access
-- may go on beside the holder. (Primer, chapter 7.)
use Rattle.std.specs.Prelude.{ℕ, ◌≡◌, ◌≢◌, ◌↔◌, true, false, List, Some}
use Rattle.protocol_tables.specs.declared.state.State.TheVariants.{I}
use Rattle.protocol_tables.specs.declared.requests.Request.TheVariants.{GetS, GetM}
use Rattle.protocol_tables.specs.Tables.{Table}
use Rattle.protocol_tables.specs.Laws.{WritesInPlace}
use Rattle.snoop_bus.specs.declared.access.AccessKind.TheVariants.{Hit}
use Rattle.snoop_bus.specs.CacheContents.{Accessed}
use Rattle.cache_set.specs.CacheTags.{TagSets}
use Rattle.snoop_bus.specs.Asks.{hits, tag_at, in_halves}
use Rattle.snoop_bus.specs.Bus.{BusModel}
use Rattle.snoop_bus.specs.Accesses.{load_of, write_of, would_hit}

-- the access is a hit
abbrev pub IsHit : Accessed → Type 0
IsHit a = a.report.access.kind ≡ Hit

-- a load of a core at a location is a hit exactly where `would_hit` says so of a load; a write access exactly where it says so
-- of one; a load that doesn't hit is none either where it is asked for and completed; and a write access that is made so is a
-- hit exactly where it was told (no copy is in I)
pub record HitsAreToldBeforehand : Type 0 where
  pub loads : (b : BusModel) (core loc : ℕ) → IsHit (load_of b core loc) ↔ (would_hit b core loc false ≡ true)
  pub writes : (b : BusModel) (core loc : ℕ) → IsHit (write_of b core loc) ↔ (would_hit b core loc true ≡ true)
  pub loads_in_halves : (t : Table) (core line : ℕ) (caches : List TagSets)
      → hits t core line false caches ≡ false → IsHit (in_halves t GetS core line caches) → ⊥
  pub writes_in_halves : (t : Table) (core line : ℕ) (caches : List TagSets)
      → WritesInPlace t.written → tag_at core line caches ≢ Some I
      → IsHit (in_halves t GetM core line caches) ↔ (hits t core line true caches ≡ true)
