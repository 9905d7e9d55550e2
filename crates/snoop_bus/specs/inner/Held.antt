-- What a bus keeps while an action holds it: from the ask on the words that it keeps count as the holder's copy, so that
-- coherence holds between the two halves of an access too. (Primer, chapter 7.)
use Rattle.std.specs.Prelude.{◌≡◌, ◌≢◌, ◌<◌, ◌/◌, ◌==◌, ◌⊎◌, if◌then◌else◌, ℕ, List, length, Option, Some, None}
use Rattle.std.specs.Prelude.{option_map}
use Rattle.snoop_bus.specs.Vocabulary.{Core, ImD, in_place, IsD, Line, Loc, M, O, S, SmD, Transient, with_state}
use Rattle.cache_set.specs.Geometry.{Geometry}
use Rattle.cache_set.specs.Lines.{Words}
use Rattle.snoop_bus.specs.Coherent.{state_of_copy}
use Rattle.cache_set.specs.Copies.{Sets, copy_at, cache_of}
use Rattle.snoop_bus.specs.declared.holding.Stage.{Stage}
use Rattle.snoop_bus.specs.declared.holding.Stage.TheVariants.{Load, Write, Locked}
use Rattle.snoop_bus.specs.declared.holding.Transaction.{Transaction}
use Rattle.snoop_bus.specs.declared.holding.HeldBus.{HeldBus}
use Rattle.snoop_bus.specs.Held.{holder}
use Rattle.snoop_bus.specs.declared.access.BusRequest.{BusRequest}

-- the holder's own copy of a line that it asked for: none, or in an upgrade one in S or O with the same words
abbrev pub AskedOf : Transient → Line → Option Line → Type 0
AskedOf IsD copy own = own ≡ None
AskedOf ImD copy own = (own ≡ None) × (copy.state ≡ M)
AskedOf SmD copy own = ((own ≡ Some (with_state S copy)) ⊎ (own ≡ Some (with_state O copy))) × (copy.state ≡ M)

-- which transaction there is, and what the holder's own copy is, at each stage: a load asks by GetS, a
-- write access by GetM unless its copy is written in place, and a locked instruction that has read has M
abbrev pub Awaits : Stage → Option Transaction → Option Line → Type 0
Awaits Load None own = ⊥
Awaits Load (Some x) own = (x.transient ≡ IsD) × (own ≡ None)
Awaits Write None own = in_place (state_of_copy own) ≡ Some M
Awaits Write (Some x) own = (x.transient ≢ IsD) × AskedOf x.transient x.copy own
Awaits Locked None own = state_of_copy own ≡ M
Awaits Locked (Some x) own = ⊥

-- what holds while an action holds the bus
pub record IsHeld (caches : List Sets) (memory : List Words) (h : HeldBus) : Type 0 where
  pub core_in : h.holder.core.0 < length caches
  pub line_in : h.line < length memory
  pub some_set : 0 < length (cache_of caches h.holder.core.0)
  pub awaits : Awaits h.holder.stage h.transaction (copy_at caches h.holder.core.0 h.line)

-- the action that holds the bus is at one of so many locations, and its line is that location's
pub record IsPlaced (shape : Geometry) (locations : ℕ) (h : HeldBus) : Type 0 where
  pub loc_in : h.holder.loc.0 < locations
  pub line_is : h.line ≡ h.holder.loc.0 / shape.words

abbrev pub held_by : Core → Loc → Stage → ℕ → Option Transaction → HeldBus
held_by core loc stage line transaction = record { holder = holder core loc stage; line = line; transaction = transaction }

-- the words that the bus keeps for its holder, where they are this line's
abbrev pub kept_by : ℕ → ℕ → Option Transaction → Option Words
kept_by here line None = None
kept_by here line (Some x) = if here == line then Some x.copy.words else None

abbrev pub kept_words : Option HeldBus → ℕ → Option Words
kept_words None line = None
kept_words (Some h) line = kept_by h.line line h.transaction

-- the request of a transaction, if there is one
abbrev pub request_in : Option Transaction → Option BusRequest
request_in x = option_map (λ x. x.request) x
