-- A choice made on the hardware of a machine with a split bus: the holder's next one, which completes, or any other, which
-- asks, waits or acts at once. (Primer, chapter 7; this project's profile.)
use Rattle.std.specs.Prelude.{◌≡◌, ◌≢◌, ◌<◌, ℕ, length, Bool, true, false, if◌then◌else◌, Option, None, Some}
use Rattle.machine_core.specs.Vocabulary.{access_of, begins, BusEffect, Free, HeldBetween, HeldBy, Holder, Litmus, Locks, MemoryAccess, NoAccess}
use Rattle.machine_core.specs.Vocabulary.{Reads, same_choice, split_effect, words_of, Writes, writes_last}
use Rattle.basic_laws.specs.Types.{Loc, Entry, Choice, Step}
use Rattle.tso_terms.specs.declared.choice.Bus.{Bus}
use Rattle.tso_terms.specs.declared.choice.Bus.TheVariants.{Atomic, Split}
use Rattle.machine_core.specs.declared.hardware.Hardware.{Hardware}
use Rattle.machine_core.specs.declared.split.Course.{Course}
use Rattle.machine_core.specs.declared.split.Course.TheVariants.{Completes, WritesLast, ActsAtOnce, Asks, Stalls}
use Rattle.machine_core.specs.Keeping.{state_in}
use Rattle.machine_core.specs.inner.Effects.{attempt_in}

-- what a choice does, and how it uses the caches then
abbrev pub split_effect_in : {P : Type 0} → Litmus → Hardware P → Choice → BusEffect
split_effect_in t m choice = split_effect t m.config.depth (state_in m).flat (attempt_in t m choice) (state_in m).holder

-- what a choice does that isn't the holder's next one
abbrev pub begins_in : {P : Type 0} → Litmus → Hardware P → Choice → BusEffect
begins_in t m choice = begins t m.config.depth (state_in m).flat (attempt_in t m choice) (state_in m).holder

-- for what an access needs the bus, with the caches' answer whether it hits: a location, and whether it writes there
abbrev pub needed_by : MemoryAccess → Bool → Option (Loc × Bool)
needed_by NoAccess hits = None
needed_by (Reads loc) hits = if hits then None else Some (loc, false)
needed_by (Writes loc) hits = if hits then None else Some (loc, true)
needed_by (Locks loc) hits = Some (loc, true)

-- the access is at one of so many locations
abbrev pub IsAccessAmong : ℕ → MemoryAccess → Type 0
IsAccessAmong locations NoAccess = Unit {0}
IsAccessAmong locations (Reads loc) = loc.0 < locations
IsAccessAmong locations (Writes loc) = loc.0 < locations
IsAccessAmong locations (Locks loc) = loc.0 < locations

-- for what a choice needs the bus
abbrev pub needed_in : {P : Type 0} → Litmus → Hardware P → Choice → Option (Loc × Bool)
needed_in t m choice = needed_by (access_of t m.config.depth (state_in m).flat choice) (attempt_in t m choice).hits

abbrev pub writes_last_in : {P : Type 0} → Litmus → Hardware P → Entry → BusEffect
writes_last_in t m e = writes_last t m.config.depth (state_in m).flat e

-- the choice isn't the holder's next one
abbrev pub IsOther : Holder → Choice → Type 0
IsOther Free choice = Unit {0}
IsOther (HeldBy asked) choice = same_choice asked choice ≡ false
IsOther (HeldBetween e) choice = same_choice (Step e.core) choice ≡ false

-- a choice comes to this: the holder's next one goes on; another one acts at once where it doesn't need the bus, asks for it
-- while it is free, and stalls while it is held
abbrev pub IsCourse : {P : Type 0} → Litmus → Hardware P → Choice → Course → Type 0
IsCourse t m choice Completes = (state_in m).holder ≡ HeldBy choice
IsCourse t m choice (WritesLast e) = ((state_in m).holder ≡ HeldBetween e) × (Step e.core ≡ choice)
IsCourse t m choice ActsAtOnce = IsOther (state_in m).holder choice × (needed_in t m choice ≡ None)
IsCourse t m choice (Asks loc write) =
    ((state_in m).holder ≡ Free) × (needed_in t m choice ≡ Some (loc, write)) × (loc.0 < length (words_of m.bus))
IsCourse t m choice Stalls = IsOther (state_in m).holder choice × ((state_in m).holder ≢ Free) × (needed_in t m choice ≢ None)

-- the same on either bus: on the atomic one every choice acts at once
abbrev pub IsCourseOn : {P : Type 0} → Bus → Litmus → Hardware P → Choice → Course → Type 0
IsCourseOn Atomic t m choice course = course ≡ ActsAtOnce
IsCourseOn Split t m choice course = IsCourse t m choice course

-- it holds the bus, or asks for it
abbrev pub TakesBus : Course → Type 0
TakesBus Completes = Unit {0}
TakesBus (WritesLast e) = Unit {0}
TakesBus ActsAtOnce = ⊥
TakesBus (Asks loc write) = Unit {0}
TakesBus Stalls = ⊥
