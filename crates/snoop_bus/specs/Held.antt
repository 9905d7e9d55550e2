-- The bus while an action holds it. The words that it keeps count as the holder's copy, in the state in which its
-- line is to be filled; all that is said of copies is said of those that count. (This project's profile, after Primer,
-- chapter 7.)
use Rattle.std.specs.Prelude.{ℕ, Bool, true, false, List, ◌∷◌, slice_set, Option, Some, None, option_map}
use Rattle.snoop_bus.specs.Vocabulary.{Core, Line, Loc}
use Rattle.cache_set.specs.Contents.{Contents, contents}
use Rattle.cache_set.specs.Copies.{Sets, in_set, cache_of}
use Rattle.snoop_bus.specs.declared.holding.Stage.{Stage}
use Rattle.snoop_bus.specs.declared.holding.Stage.TheVariants.{Load, Write}
use Rattle.snoop_bus.specs.declared.holding.BusAction.{BusAction}
use Rattle.snoop_bus.specs.declared.holding.Transaction.{Transaction}
use Rattle.snoop_bus.specs.declared.holding.HeldBus.{HeldBus}

-- a set in which this copy of a line is found, in place of any other copy of it
abbrev pub with_copy : ℕ → Line → Contents → Contents
with_copy line copy s = contents ((line, copy) ∷ s.copies) s.ways

-- all caches, where this copy of a line counts as a core's own
abbrev pub with_counted_copy : ℕ → ℕ → Line → List Sets → List Sets
with_counted_copy core line copy caches = slice_set caches core (in_set line (with_copy line copy) (cache_of caches core))

abbrev pub counted_in : ℕ → ℕ → Option Transaction → List Sets → List Sets
counted_in core line None caches = caches
counted_in core line (Some x) caches = with_counted_copy core line x.copy caches

-- the copies that count: those of the caches, and the words that the bus keeps as the holder's
abbrev pub counted_copies_of : Option HeldBus → List Sets → List Sets
counted_copies_of None caches = caches
counted_copies_of (Some h) caches = counted_in h.holder.core.0 h.line h.transaction caches

-- whose action holds the bus, if one does
abbrev pub holder_in : Option HeldBus → Option BusAction
holder_in held = option_map (λ h. h.holder) held

abbrev pub transaction_in : Option HeldBus → Option Transaction
transaction_in None = None
transaction_in (Some h) = h.transaction

-- the action of a core at a location
abbrev pub holder : Core → Loc → Stage → BusAction
holder core loc stage = record { core = core; loc = loc; stage = stage }

abbrev pub stage_for : Bool → Stage
stage_for false = Load
stage_for true = Write
