-- When a choice may act on the hardware of a machine, at once or as what was asked for, and its effect there.
use Rattle.std.specs.Prelude.{◌≡◌}
use Rattle.machine_core.specs.Vocabulary.{access_of, Attempt, BusEffect, chosen, Effect, effect_of, effect_on, HeldBy, Litmus}
use Rattle.basic_laws.specs.Types.{Choice}
use Rattle.machine_core.specs.declared.hardware.Hardware.{Hardware}
use Rattle.multiprocessor.specs.Caches.{caches_of, attempt_of}
use Rattle.multiprocessor.specs.Keeping.{core_in}
use Rattle.machine_core.specs.Keeping.{state_in}
use Rattle.multiprocessor.specs.inner.Effects.{MayAct}
use Rattle.multiprocessor.specs.inner.Turns.{HasAsked}
use Rattle.multiprocessor.specs.declared.turn.Way.{Way}
use Rattle.multiprocessor.specs.declared.turn.Way.TheVariants.{Whole, Asked}

-- a choice's access may be made this way: where it was asked for it is the holder's next choice
abbrev pub MayMakeIn : {P : Type 0} → Way → Litmus → Hardware P → Choice → Type 0
MayMakeIn Whole t m choice = MayAct m.bus (chosen choice) (access_of t m.config.depth (state_in m).flat choice)
MayMakeIn Asked t m choice =
    ((state_in m).holder ≡ HeldBy choice) × HasAsked m.bus (core_in choice) (access_of t m.config.depth (state_in m).flat choice)

-- a choice with the caches' answer, and what it does to the hardware on their bus
abbrev pub attempt_in : {P : Type 0} → Litmus → Hardware P → Choice → Attempt
attempt_in t m choice = attempt_of t m.config.depth (state_in m).flat (caches_of m.bus) choice

abbrev pub effect_in : {P : Type 0} → Litmus → Hardware P → Choice → BusEffect
effect_in t m choice = effect_on m.config.bus t m.config.depth (state_in m) (attempt_in t m choice)

-- the same of a choice that is made at once, as on the flat machine
abbrev pub flat_effect_in : {P : Type 0} → Litmus → Hardware P → Choice → Effect
flat_effect_in t m choice = effect_of t m.config.depth (state_in m).flat choice
