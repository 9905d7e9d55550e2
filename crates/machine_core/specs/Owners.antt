-- Dirty copies: the words of their line are not memory's. (Primer, chapters 6 and 7: M and O are the states of an owner.)
use Rattle.std.specs.Prelude.{ℕ, ◌≡◌, ◌≢◌, true, List}
use Rattle.protocol_tables.specs.Laws.{is_dirty}
use Rattle.snoop_bus.specs.Coherent.{state_of_copy}
use Rattle.cache_set.specs.Copies.{Sets, copy_at}
use Rattle.snoop_bus.specs.Bus.{BusModel, IsCoherent, counted_copies}

-- this core's copy of the line, among these, is dirty
abbrev pub IsOwner : List Sets → ℕ → ℕ → Type 0
IsOwner caches line core = is_dirty (state_of_copy (copy_at caches core line)) ≡ true

-- of the copies that count, the words that a bus keeps among them, no two of one line are dirty
abbrev pub OneOwnerAtMost : Type 0
OneOwnerAtMost =
    (b : BusModel) (line i j : ℕ) → IsCoherent b → IsOwner (counted_copies b) line i → IsOwner (counted_copies b) line j → i ≢ j → ⊥
