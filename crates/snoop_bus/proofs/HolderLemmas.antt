-- What the action that holds the bus tells of all copies of its line.
use Rattle.snoop_bus.proofs.Vocabulary.{◌≡◌, ◌≢◌, ℕ, ◌<◌, ◌/◌, Bool, true, false, Option, Some, None, IfSome, option_map, List, length}
use Rattle.snoop_bus.proofs.Vocabulary.{refl, sym, ap, ◌∙◌, Core, Loc, in_place, Table, M, Line, Geometry, Words, Coherent, state_of_copy}
use Rattle.snoop_bus.proofs.Vocabulary.{Sets, copy_at, cache_of, tags_of, AllCoherent, bus_with, StandsAlone, HeldBus, Stage, Load, Write}
use Rattle.snoop_bus.proofs.Vocabulary.{Locked, Transaction, with_counted_copy, counted_copies_of, holder, holder_in, IsHeld, IsPlaced}
use Rattle.snoop_bus.proofs.Vocabulary.{Awaits, held_by, hits, is_some, next_in_place}
use Rattle.snoop_bus.specs.declared.holding.BusAction.{BusAction}
use Rattle.cache_set.proofs.Numbers.{differ, itself}
use Rattle.snoop_bus.proofs.Coherence.{alone}
use Rattle.snoop_bus.proofs.AccessLemmas.{tag_here}
use Rattle.snoop_bus.proofs.HeldLemmas.{counting-at}
use Rattle.snoop_bus.proofs.AcquireAsked.{kept_m}
use Rattle.snoop_bus.proofs.UpgradeAsk.{hits-absent}

-- where a core has M or E, no other core has the line
placed_alone : (caches : List Sets) (w m : Words) (core line i : ℕ)
    → Coherent w m (λ i. copy_at caches i line)
    → in_place (state_of_copy (copy_at caches core line)) ≡ Some M
    → i ≢ core
    → copy_at caches i line ≡ None
placed_alone caches w m core line i h writes d = by_copy (copy_at caches core line) refl writes
  where
    by_copy : (o : Option Line) → copy_at caches core line ≡ o → in_place (state_of_copy o) ≡ Some M → copy_at caches i line ≡ None
    by_copy None e w = cc
    by_copy (Some copy) e w = alone _ _ core (λ i. copy_at caches i line) copy h e w i d

-- from the ask for a write access to its end no other core has the line
pub held_alone : (caches : List Sets) (memory : List Words) (h : HeldBus) (i : ℕ)
    → AllCoherent (counted_copies_of (Some h) caches) memory
    → IsHeld caches memory h
    → h.holder.stage ≢ Load
    → i ≢ h.holder.core.0
    → copy_at caches i h.line ≡ None
held_alone caches memory h i coherent held writes d = by_stage h.holder.stage refl h.transaction refl held.awaits
  where
    core : ℕ
    core = h.holder.core.0

    line : ℕ
    line = h.line

    by_stage : (s : Stage)
        → h.holder.stage ≡ s
        → (x : Option Transaction) → h.transaction ≡ x
        → Awaits s x (copy_at caches h.holder.core.0 h.line)
        → copy_at caches i h.line ≡ None
    by_stage Load e x f a = absurd (writes e)
    by_stage Locked e None f a =
        let real : AllCoherent caches memory = rw f at coherent in
        placed_alone caches _ _ h.holder.core.0 h.line i (real.each h.line held.line_in) (rw a refl) d
    by_stage Locked e (Some x) f a = absurd a
    by_stage Write e None f a =
        let real : AllCoherent caches memory = rw f at coherent in
        placed_alone caches _ _ h.holder.core.0 h.line i (real.each h.line held.line_in) a d
    by_stage Write e (Some x) f a =
        let counts : AllCoherent (with_counted_copy h.holder.core.0 h.line x.copy caches) memory = rw f at coherent in
        let here = counting-at caches h.holder.core.0 h.line x.copy h.holder.core.0 h.line held.core_in held.some_set in
        let kept : copy_at (with_counted_copy h.holder.core.0 h.line x.copy caches) h.holder.core.0 h.line
        ≡ Some x.copy =
        rw (itself h.holder.core.0, itself h.line) at here in
        let there = counting-at caches h.holder.core.0 h.line x.copy i h.line held.core_in held.some_set in
        let same : copy_at (with_counted_copy h.holder.core.0 h.line x.copy caches) i h.line ≡ copy_at caches i h.line =
        rw (differ i h.holder.core.0 d) at there in
        let m : x.copy.state ≡ M = kept_m x (copy_at caches h.holder.core.0 h.line) a in
        sym same
        ∙ placed_alone (with_counted_copy h.holder.core.0 h.line x.copy caches) _ _ h.holder.core.0 h.line i
        (counts.each h.line held.line_in) (rw (kept, m) refl) d

abbrev core_of : ℕ → Core
core_of n = record { 0 = n }

-- so no access of another core to it would be a hit
pub taken : (t : Table) (locations : ℕ) (shape : Geometry) (caches : List Sets) (memory : List Words)
    (held : Option HeldBus) (core : Core) (loc : Loc) (write : Bool)
    → AllCoherent (counted_copies_of held caches) memory →
    IfSome held (IsHeld caches memory) → IfSome held (IsPlaced shape locations) →
    IfSome (holder_in held) (λ h.
    h.loc.0 / shape.words ≡ loc.0 / shape.words
    → h.stage ≢ Load
    → h.core ≢ core
    → hits t core.0 (loc.0 / shape.words) write (tags_of caches) ≡ false)
taken t locations shape caches memory None core loc write coherent held placed = tt
taken t locations shape caches memory (Some h) core loc write coherent held placed = λ at writes other.
    let line : h.line ≡ loc.0 / shape.words = placed.line_is ∙ at in
    let none : copy_at caches core.0 h.line ≡ None = held_alone caches memory h core.0 coherent held writes (λ e. other (ap core_of (sym e))) in
    sym (hits-absent t caches core.0 (loc.0 / shape.words) write (rw line at none))

-- what is no hit of a load isn't there
pub not_here : (t : Table) (caches : List Sets) (core line : ℕ) → hits t core line false (tags_of caches) ≡ false → copy_at caches core line ≡ None
not_here t caches core line misses = by_copy (copy_at caches core line) refl
  where
    by_copy : (o : Option Line) → copy_at caches core line ≡ o → copy_at caches core line ≡ None
    by_copy None e = e
    by_copy (Some copy) e =
        let yes : hits t core line false (tags_of caches) ≡ true =
        ap (λ o. is_some (next_in_place t false o)) (tag_here caches core line ∙ ap (option_map (λ copy. copy.state)) e) in
        cc

-- nobody holds the bus
pub free-held : (held : Option HeldBus) → holder_in held ≡ None → held ≡ None
free-held None e = refl
free-held (Some h) e = cc

-- what a core's action that holds the bus has
pub record Holds (caches : List Sets) (memory : List Words) (shape : Geometry) (locations : ℕ) (core : Core) (loc : Loc)
    (stage : Stage) (held : Option HeldBus) (x : Option Transaction) : Type 0 where
  pub held_is : held ≡ Some (held_by core loc stage (loc.0 / shape.words) x)
  pub core_in : core.0 < length caches
  pub loc_in : loc.0 < locations
  pub within : loc.0 / shape.words < length memory
  pub some_set : 0 < length (cache_of caches core.0)
  pub awaits : Awaits stage x (copy_at caches core.0 (loc.0 / shape.words))

pub holds : (caches : List Sets) (memory : List Words) (shape : Geometry) (locations : ℕ) (core : Core) (loc : Loc)
    (stage : Stage) (held : Option HeldBus)
    → holder_in held ≡ Some (holder core loc stage) →
    IfSome held (IsHeld caches memory)
    → IfSome held (IsPlaced shape locations)
    → (x : Option Transaction) × Holds caches memory shape locations core loc stage held x
holds caches memory shape locations core loc stage None e held placed = cc
holds caches memory shape locations core loc stage (Some h) e held placed =
    let is : h.holder ≡ holder core loc stage = cc in
    let line : h.line ≡ loc.0 / shape.words = placed.line_is ∙ ap (λ (x : BusAction). x.loc.0 / shape.words) is in (
      h.transaction,
      record {
        held_is = rw (← is, ← line) refl;
        core_in = rw is at held.core_in;
        loc_in = rw is at placed.loc_in;
        within = rw line at held.line_in;
        some_set = rw is at held.some_set;
        awaits = rw (is, line) at held.awaits;
      },
    )

-- what is found to hold the bus is the action that is known to
pub same_held : (held : Option HeldBus) (found known : HeldBus) → held ≡ Some found → held ≡ Some known → found ≡ known
same_held held found known a b = cc

-- a locked instruction that has read has its line in M, and the bus keeps nothing
pub locked_real : (x : Option Transaction) (own : Option Line) → Awaits Locked x own → (x ≡ None) × (state_of_copy own ≡ M)
locked_real None own a = (refl, a)
locked_real (Some x) own a = absurd a

-- the lines and states say so too
pub stands_alone : (t : Table) (shape : Geometry) (locations : ℕ) (caches : List Sets) (memory : List Words)
    (held : Option HeldBus)
    → AllCoherent (counted_copies_of held caches) memory →
    IfSome held (IsHeld caches memory)
    → IfSome held (IsPlaced shape locations)
    → IfSome (holder_in held) (StandsAlone (bus_with t shape locations caches memory held))
stands_alone t shape locations caches memory None coherent held placed = tt
stands_alone t shape locations caches memory (Some h) coherent held placed = record {
  others = λ writes core d.
      tag_here caches core (h.holder.loc.0 / shape.words)
      ∙ ap (option_map (λ (copy : Line). copy.state)) (rw placed.line_is at (held_alone caches memory h core coherent held writes d));
  own = λ locked.
      tag_here caches h.holder.core.0 (h.holder.loc.0 / shape.words)
      ∙ modified (copy_at caches h.holder.core.0 (h.holder.loc.0 / shape.words))
      (locked_real h.transaction (copy_at caches h.holder.core.0 (h.holder.loc.0 / shape.words)) (rw (locked, placed.line_is) at held.awaits)).1;
}
  where
    modified : (own : Option Line) → state_of_copy own ≡ M → option_map (λ (copy : Line). copy.state) own ≡ Some M
    modified None m = absurd (let z : ⊥ = cc in z)
    modified (Some copy) m = ap Some m
