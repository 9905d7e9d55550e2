-- What a load sees of the stores that are pending. (x86-TSO, section 3: it reads the newest own store.)
use Rattle.std.specs.Prelude.{ℕ, List, filter, Option, None, Some, ◌==◌, if◌then◌else◌}
use Rattle.std.specs.Option.{option_map}
use Rattle.std.specs.List.{last_or}
use Rattle.store_buffer.specs.declared.Pending.{Pending}

-- the value of the last of the stores to this location, if there is one
abbrev pub newest_for : ℕ → List Pending → Option ℕ
newest_for loc items = option_map (λ p. p.value) (last_or None (filter (λ p. p.loc.0 == loc) items))

-- the newer of the value found so far and of a later store, if that is to the location
abbrev pub newer : ℕ → Option ℕ → Pending → Option ℕ
newer loc newest p = if p.loc.0 == loc then Some p.value else newest
