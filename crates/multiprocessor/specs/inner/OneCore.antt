-- What an action of one core does to the core, to the bus and to the commits. (This project's profile; what an action does
-- is the flat machine's.)
use Rattle.std.specs.Prelude.{◌≡◌, ◌≢◌, ◌++◌, ◌∷◌, [], ℕ, Bool, List, None, Result, IsOk, length, slice_set}
use Rattle.multiprocessor.specs.Vocabulary.{BusModel, cores_of, Effect, holder_of, memory_after, MemoryAccess, Pending, words_of}
use Rattle.basic_laws.specs.Types.{NoMemory, Loc, Entry, Outcome, Committed}
use Rattle.commit_order.specs.inner.Noted.{Noted}
use Rattle.multiprocessor.specs.declared.accesses.CacheUse.TheVariants.{Through}
use Rattle.multiprocessor.specs.declared.processor.Processor.{Processor}
use Rattle.multiprocessor.specs.declared.turn.Way.{Way}
use Rattle.multiprocessor.specs.declared.turn.Turn.{Turn}
use Rattle.multiprocessor.specs.Cores.{core_state, store_of}
use Rattle.multiprocessor.specs.inner.Cores.{pending_in}
use Rattle.multiprocessor.specs.inner.Turns.{by_way}
use Rattle.multiprocessor.specs.Caches.{caches_of, whole_by, completing_by, completion_by, use_of}
use Rattle.multiprocessor.specs.Effects.{ChoiceAnswer, HasUsed}
use Rattle.snoop_bus.specs.declared.access.AccessReport.{AccessReport}

-- an action of the core that makes its access this way had this effect, and answered its outcome and how it used the caches;
-- an access that was asked for frees the bus
pub record HasActed (way : Way) (access : MemoryAccess) (core : ℕ) (old new : Processor) (bus bus' : BusModel)
    (noted noted' : Noted) (f : Effect) (r : ChoiceAnswer) : Type 0 where
  pub outcome : r.0 ≡ f.outcome
  pub after : core_state core new ≡ f.after
  pub words : words_of bus' ≡ memory_after f.commits (words_of bus)
  pub commits : noted'.entries ≡ noted.entries ++ f.commits
  pub caches : HasUsed (by_way way (use_of (caches_of bus) (pending_in core old) f.commits) (completing_by (caches_of bus) core access)) bus' r.1
  pub holder : holder_of bus' ≡ by_way way (holder_of bus) None

-- the core has acted, with the effect that this has on the core of that number where memory has the words of the bus
abbrev pub Acts : Turn → MemoryAccess → (ℕ → Processor → List ℕ → Effect)
    → Processor → Processor → BusModel → BusModel → Noted → Noted → ChoiceAnswer → Type 0
Acts turn access does old new bus bus' noted noted' =
    HasActed turn.way access turn.core.0 old new bus bus' noted noted' (does turn.core.0 old (words_of bus))

-- the core answered this outcome, and what it did has reached neither the bus nor the commits
pub record Waits (core : ℕ) (new : Processor) (f : Effect) (answer : Outcome) : Type 0 where
  pub outcome : answer ≡ f.outcome
  pub after : core_state core new ≡ f.after
  pub commits : f.commits ≡ []

-- only what commits takes memory
abbrev pub SucceedsUnlessCommitting : {A : Type 0} → Result A NoMemory → Effect → Type 0
SucceedsUnlessCommitting r f = f.outcome ≢ Committed → IsOk r

-- the core, the bus and the commits are as they were
pub record AreUnchanged (old new : Processor) (before after : BusModel) (noted noted' : Noted) : Type 0 where
  pub core : new ≡ old
  pub bus : after ≡ before
  pub commits : noted'.entries ≡ noted.entries

-- the bus has as many cores and words as before
pub record HasSameSizes (old new : BusModel) : Type 0 where
  pub cores : cores_of new ≡ cores_of old
  pub count : length (words_of new) ≡ length (words_of old)

-- this entry was committed
abbrev pub Notes : Noted → Noted → Entry → Type 0
Notes old new e = new.entries ≡ old.entries ++ e ∷ []

-- this store of the core went to memory, and was committed
pub record IsStored (core : ℕ) (store : Pending) (bus bus' : BusModel) (noted noted' : Noted) : Type 0 where
  pub words : words_of bus' ≡ slice_set (words_of bus) store.loc.0 store.value
  pub commits : Notes noted noted' (store_of core store)

-- an access made in this turn, a load or a write access, did this, whole or by its completion; the latter frees the bus
pub record IsMade (turn : Turn) (write : Bool) (loc : Loc) (old new : BusModel) (report : AccessReport) : Type 0 where
  pub caches : HasUsed
      (by_way turn.way (whole_by (caches_of old) turn.core.0 loc.0 write) (completion_by (caches_of old) turn.core.0 loc.0))
      new (Through report)
  pub holder : holder_of new ≡ by_way turn.way (holder_of old) None
