-- A choice on a split bus that isn't the holder's next one.
use Rattle.machine_core.proofs.Vocabulary.{◌≡◌, ◌≢◌, ℕ, ◌++◌, Bool, true, false, List, [], Option, None, Some, Result, Ok, Err, IfOk}
use Rattle.machine_core.proofs.Vocabulary.{OnOk, OnErr, inr, length, slice_set, append-nil, refl, sym, ap, ◌∙◌, subst, set-get_or, Litmus}
use Rattle.machine_core.proofs.Vocabulary.{CoreState, Effect, stalled, after_choice, chosen, core_of, idle, MemoryAccess, NoAccess, Reads}
use Rattle.machine_core.proofs.Vocabulary.{Writes, Locks, access_of, Holder, Free, HeldBy, HeldBetween, BusEffect, acts, asks}
use Rattle.machine_core.proofs.Vocabulary.{needs_bus, same_choice, BusState, NoMemory, Split, Core, Loc, Entry, Choice, Outcome}
use Rattle.machine_core.proofs.Vocabulary.{HolderFits, BusModel, words_of, cores_of, holder_of, IsSameMachine, AsksFor, Unused}
use Rattle.machine_core.proofs.Vocabulary.{Next, Complete, Write, Hardware, Way, by_way, Caches, Used, caches_of, at_access, ask_by}
use Rattle.machine_core.proofs.Vocabulary.{not_through, hits_by, is_awaited, used_between, completing_by, use_of, HardwareFitsTest}
use Rattle.machine_core.proofs.Vocabulary.{IsHeldForAccess, held_as, held_for, core_in, holder_by, state_in, ChoiceAnswer, HasUsed}
use Rattle.machine_core.proofs.Vocabulary.{HasEffect, MayAct, attempt_in, flat_effect_in, use_by, IsOther, needed_by, needed_in}
use Rattle.machine_core.proofs.Vocabulary.{begins_in, HasMade, IsUndone, effect_made_in}
use Rattle.tso_terms.specs.FlatMachine.{State, applied}
use Rattle.multiprocessor.specs.declared.accesses.CacheUse.{CacheUse}
use Rattle.multiprocessor.specs.declared.accesses.CacheUse.TheVariants as cache_use
use Rattle.snoop_bus.specs.declared.access.BusRequest.{BusRequest}
use Rattle.std.proofs.Common.{option_map}
use Rattle.tso_terms.specs.declared.choice.Stall.TheVariants as stall
use Rattle.tso_terms.specs.declared.choice.Outcome.TheVariants.{Asked}
use Rattle.multiprocessor.specs.Caches.{would_hit}
use Rattle.snoop_bus.specs.Held as bus
use Rattle.snoop_bus.specs.declared.holding.BusAction as bus_action
use Rattle.multiprocessor.specs.declared.turn.Way.TheVariants as way

-- whether it needs the bus
abbrev pub needs_in : {P : Type 0} → Litmus → Hardware P → Choice → Bool
needs_in t m choice = needs_bus (access_of t m.config.depth (state_in m).flat choice) (attempt_in t m choice).hits

pub begins-acts : {P : Type 0} (t : Litmus) (m : Hardware P) (choice : Choice)
    → needs_in t m choice ≡ false
    → begins_in t m choice ≡ acts (flat_effect_in t m choice) (state_in m).holder
begins-acts t m choice h = rw h refl

pub begins-asks : {P : Type 0} (t : Litmus) (m : Hardware P) (choice : Choice) → needs_in t m choice ≡ true
    → begins_in t m choice ≡ asks (core_of (state_in m).flat (chosen choice)) choice (state_in m).holder
begins-asks t m choice h = rw h refl

-- how a choice that is made at once uses the caches
abbrev pub flat_use_in : {P : Type 0} → Litmus → Hardware P → Choice → Used
flat_use_in t m choice = use_of (caches_of m.bus) (core_of (state_in m).flat (chosen choice)).pending (flat_effect_in t m choice).commits

-- where the same is awaited before it and after it, a choice uses the caches as on the flat machine
pub used-same : (b : Bool) (c : Caches) (core : ℕ) (what : MemoryAccess) (pending commits : List Entry)
    → used_between b b c core what pending commits ≡ use_of c pending commits
used-same true c core what pending commits = refl
used-same false c core what pending commits = refl

pub use-acts : {P : Type 0} (t : Litmus) (m : Hardware P) (choice : Choice)
    → use_by t m choice (acts (flat_effect_in t m choice) (state_in m).holder) ≡ flat_use_in t m choice
use-acts t m choice = used-same (is_awaited (state_in m).holder) _ _ _ _ _

-- where what was awaited comes, by its completion
pub use-frees : {P : Type 0} (t : Litmus) (m : Hardware P) (choice : Choice) (f : BusEffect) → (state_in m).holder ≡ HeldBy choice → is_awaited f.holder ≡ false
    → use_by t m choice f ≡ completing_by (caches_of m.bus) (chosen choice) (access_of t m.config.depth (state_in m).flat choice)
use-frees t m choice f asked free =
    let what = access_of t m.config.depth (state_in m).flat choice in
    let pending = (core_of (state_in m).flat (chosen choice)).pending in
    ap (λ h. used_between (is_awaited h) (is_awaited f.holder) (caches_of m.bus) (chosen choice) what pending f.effect.commits) asked
    ∙ ap (λ b. used_between true b (caches_of m.bus) (chosen choice) what pending f.effect.commits) free

-- the caches after an ask
pub asked-caches : (old new : BusModel) (core : Core) (loc : Loc) (write : Bool) (request : Option BusRequest)
    → AsksFor old new core loc write request
    → IsSameMachine old new
    → caches_of new ≡ (ask_by (caches_of old) core.0 loc.0 write).caches
asked-caches old new core loc write request done machine = rw (machine.rows, machine.shape, done.contents, done.awaited_is) refl

-- and this went on the bus for it
pub asked-how : (old new : BusModel) (core : Core) (loc : Loc) (write : Bool) (request : Option BusRequest) → AsksFor old new core loc write request
    → cache_use.Asked request ≡ (ask_by (caches_of old) core.0 loc.0 write).how
asked-how old new core loc write request done = ap cache_use.Asked done.request_is

-- an action that has asked keeps its access
pub held-kept : (t : Litmus) (depth : ℕ) (state : State) (choice : Choice) (holder : Holder) → IsOther holder choice → HolderFits Split t depth state holder
    → ((a b : Choice)
    → access_of t depth state a ≢ NoAccess
    → same_choice a b ≡ false
    → access_of t depth (after_choice t depth state b) a ≡ access_of t depth state a)
    → held_as t depth (after_choice t depth state choice) holder ≡ held_as t depth state holder
held-kept t depth state choice (HeldBy asked) other fits waits = ap (held_for (core_in asked)) (waits asked choice fits other)
held-kept t depth state choice _ other fits waits = refl

pub held-next : {P : Type 0} (r : Result ChoiceAnswer NoMemory) (t : Litmus) (m new : Hardware P) (choice : Choice)
    → IsHeldForAccess t m
    → IsOther (state_in m).holder choice
    → HolderFits Split t m.config.depth (state_in m).flat (state_in m).holder
    → ((a b : Choice) → access_of t m.config.depth (state_in m).flat a ≢ NoAccess → same_choice a b ≡ false
    → access_of t m.config.depth (after_choice t m.config.depth (state_in m).flat b) a ≡ access_of t m.config.depth (state_in m).flat a)
    → new.config ≡ m.config → OnOk r (holder_of new.bus ≡ holder_of m.bus) → IfOk r (HasMade t m new choice (effect_made_in way.Whole t m choice))
    → OnErr r (IsUndone m new) → IsHeldForAccess t new
held-next (Ok x) t m new choice held other fits waits config same done err =
    let flat : (state_in new).flat ≡ after_choice t m.config.depth (state_in m).flat choice = done.ok.flat in
    same ∙ held ∙ sym (held-kept t m.config.depth (state_in m).flat choice (state_in m).holder other fits waits)
    ∙ ap (λ s. held_as t m.config.depth s (state_in m).holder) (sym flat) ∙ ap (λ h. held_as t m.config.depth (state_in new).flat h) (sym done.ok.holder)
    ∙ ap (λ c. held_as t c.depth (state_in new).flat (state_in new).holder) (sym config)
held-next (Err x) t m new choice held other fits waits config same done err =
    ap holder_of err.bus
    ∙ held
    ∙ ap (λ (s : BusState). held_as t m.config.depth s.flat s.holder) (sym err.state)
    ∙ ap (λ c. held_as t c.depth (state_in new).flat (state_in new).holder) (sym config)

-- nothing but the caches and who holds the bus changes
pub rests-at : (state : State) (core : ℕ) → record { memory = state.memory; cores = slice_set state.cores core (core_of state core) } ≡ state
rests-at state core = rw (set-get_or state.cores core idle) refl

pub performs-stall : {P : Type 0} (t : Litmus) (m : Hardware P) (choice : Choice) (f : BusEffect) (s : Effect) (o : Outcome) → f ≡ acts s (state_in m).holder
    → s.after ≡ core_of (state_in m).flat (chosen choice) → s.commits ≡ [] → o ≡ s.outcome → HasEffect m m choice f o
performs-stall t m choice f s o e after commits outcome =
    let all : HasEffect m m choice (acts s (state_in m).holder) o = record {
      outcome = outcome;
      flat = sym (rw (after, commits) (rests-at (state_in m).flat (chosen choice)));
      holder = refl;
      commits = sym (ap (λ es. m.commits.entries ++ es) commits ∙ append-nil m.commits.entries);
    } in
    subst (λ g. HasEffect m m choice g o) (sym e) all

pub use-rests : {P : Type 0} (t : Litmus) (m : Hardware P) (choice : Choice) (f : BusEffect) (s : Effect)
    → f ≡ acts s (state_in m).holder
    → s.commits ≡ []
    → HasUsed (use_by t m choice f) m.bus Unused
use-rests t m choice f s e none =
    let same : use_by t m choice f ≡ not_through Unused (caches_of m.bus) =
    ap (use_by t m choice) e
    ∙ used-same (is_awaited (state_in m).holder) _ _ _ _ _
    ∙ ap (use_of (caches_of m.bus) (core_of (state_in m).flat (chosen choice)).pending) none in
    subst (λ u. HasUsed u m.bus Unused) (sym same) (record { how_is = refl; caches = refl })

pub performs-ask : {P : Type 0} (t : Litmus) (m new : Hardware P) (choice : Choice) (f : BusEffect)
    → f ≡ asks (core_of (state_in m).flat (chosen choice)) choice Free
    → new.processors.items ≡ m.processors.items
    → words_of new.bus ≡ words_of m.bus
    → (state_in new).holder ≡ HeldBy choice
    → new.commits.entries ≡ m.commits.entries
    → HasEffect m new choice f Asked
performs-ask t m new choice f asks processors words holder commits =
    record {
      outcome = ap (λ (g : BusEffect). g.effect.outcome) (sym asks);
      flat =
          rw (processors, words)
          (sym (ap (λ (g : BusEffect). applied (state_in m).flat (chosen choice) g.effect) asks ∙ rests-at (state_in m).flat (chosen choice)));
      holder = holder ∙ ap (λ (g : BusEffect). g.holder) (sym asks);
      commits = commits ∙ sym (ap (λ (g : BusEffect). m.commits.entries ++ g.effect.commits) asks ∙ append-nil m.commits.entries);
    }

pub use-ask : {P : Type 0} (t : Litmus) (m : Hardware P) (bus : BusModel) (choice : Choice) (core : ℕ) (how : CacheUse) (f : BusEffect)
    → f ≡ asks (core_of (state_in m).flat (chosen choice)) choice Free
    → (state_in m).holder ≡ Free
    → core ≡ chosen choice
    → how
    ≡ (at_access (not_through Unused (caches_of m.bus)) (λ loc write. ask_by (caches_of m.bus) core loc.0 write)
    (access_of t m.config.depth (state_in m).flat choice)).how
    → caches_of bus
    ≡ (at_access (not_through Unused (caches_of m.bus)) (λ loc write. ask_by (caches_of m.bus) core loc.0 write)
    (access_of t m.config.depth (state_in m).flat choice)).caches
    → HasUsed (use_by t m choice f) bus how
use-ask t m bus choice core how f asks free is told caches =
    let what = access_of t m.config.depth (state_in m).flat choice in
    let asked : ℕ → Used = λ k. at_access (not_through Unused (caches_of m.bus)) (λ loc write. ask_by (caches_of m.bus) k loc.0 write) what in
    let same : use_by t m choice f ≡ asked (chosen choice) =
    ap (use_by t m choice) asks
    ∙ ap (λ h.
    used_between (is_awaited h) true (caches_of m.bus) (chosen choice) what (core_of (state_in m).flat (chosen choice)).pending [])
    free in
    subst (λ u. HasUsed u bus how) (sym same) (record {
      how_is = told ∙ ap (λ k. (asked k).how) is;
      caches = caches ∙ ap (λ k. (asked k).caches) is;
    })

-- what needs the bus needs it for its access
pub needs-none : (a : MemoryAccess) (hits : Bool) → None ≡ needed_by a hits → needs_bus a hits ≡ false
needs-none NoAccess hits h = refl
needs-none (Reads loc) true h = refl
needs-none (Reads loc) false h = absurd (let z : ⊥ = cc in z)
needs-none (Writes loc) true h = refl
needs-none (Writes loc) false h = absurd (let z : ⊥ = cc in z)
needs-none (Locks loc) hits h = absurd (let z : ⊥ = cc in z)

needs-bus : (a : MemoryAccess) (hits : Bool) → needed_by a hits ≢ None → needs_bus a hits ≡ true
needs-bus NoAccess hits h = absurd (h refl)
needs-bus (Reads loc) true h = absurd (h refl)
needs-bus (Reads loc) false h = refl
needs-bus (Writes loc) true h = absurd (h refl)
needs-bus (Writes loc) false h = refl
needs-bus (Locks loc) hits h = refl

pub none-needed : {P : Type 0} (t : Litmus) (m : Hardware P) (choice : Choice) → needed_in t m choice ≡ None → needs_in t m choice ≡ false
none-needed t m choice h = needs-none (access_of t m.config.depth (state_in m).flat choice) (attempt_in t m choice).hits (sym h)

pub bus-needed : {P : Type 0} (t : Litmus) (m : Hardware P) (choice : Choice) → needed_in t m choice ≢ None → needs_in t m choice ≡ true
bus-needed t m choice h = needs-bus (access_of t m.config.depth (state_in m).flat choice) (attempt_in t m choice).hits h

module _ (loc : Loc) (write : Bool) where
  pub some-needed : {P : Type 0} (t : Litmus) (m : Hardware P) (choice : Choice) → needed_in t m choice ≡ Some (loc, write) → needs_in t m choice ≡ true
  some-needed t m choice h = bus-needed t m choice (λ q. let z : ⊥ = cc in z)

  pub needed-at : {A : Type 0} (none : A) (f : Loc → Bool → A) (a : MemoryAccess) (hits : Bool)
      → Some (loc, write) ≡ needed_by a hits
      → at_access none f a ≡ f loc write
  needed-at none f NoAccess hits h = absurd (let z : ⊥ = cc in z)
  needed-at none f (Reads at) true h = absurd (let z : ⊥ = cc in z)
  needed-at none f (Reads at) false h = let z : (at, false) ≡ (loc, write) = cc in ap (λ (x : Loc × Bool). f x.0 x.1) z
  needed-at none f (Writes at) true h = absurd (let z : ⊥ = cc in z)
  needed-at none f (Writes at) false h = let z : (at, true) ≡ (loc, write) = cc in ap (λ (x : Loc × Bool). f x.0 x.1) z
  needed-at none f (Locks at) hits h = let z : (at, true) ≡ (loc, write) = cc in ap (λ (x : Loc × Bool). f x.0 x.1) z

  pub needed-misses : (a : MemoryAccess) (hits : Bool) → Some (loc, write) ≡ needed_by a hits → write ≡ false → hits ≡ false
  needed-misses NoAccess hits h reads = absurd (let z : ⊥ = cc in z)
  needed-misses (Reads at) true h reads = absurd (let z : ⊥ = cc in z)
  needed-misses (Reads at) false h reads = refl
  needed-misses (Writes at) true h reads = absurd (let z : ⊥ = cc in z)
  needed-misses (Writes at) false h reads = refl
  needed-misses (Locks at) hits h reads =
      let both : (at, true) ≡ (loc, write) = cc in
      let z : true ≡ false = ap (λ (x : Loc × Bool). x.1) both ∙ reads in
      absurd (let w : ⊥ = cc in w)

-- what is asked for, by what needs it
module _ (old new : BusModel) (core : Core) (loc : Loc) (write : Bool) (access : MemoryAccess) (hits : Bool)
    (needed : Some (loc, write) ≡ needed_by access hits) where
  pub ask-caches : (request : Option BusRequest) → AsksFor old new core loc write request → IsSameMachine old new
      → caches_of new ≡ (at_access (not_through Unused (caches_of old)) (λ l w. ask_by (caches_of old) core.0 l.0 w) access).caches
  ask-caches request done machine =
      asked-caches old new core loc write request done machine
      ∙ ap (λ (u : Used). u.caches)
      (sym (needed-at loc write (not_through Unused (caches_of old)) (λ l w. ask_by (caches_of old) core.0 l.0 w) access hits needed))

  pub ask-how : (request : Option BusRequest) → AsksFor old new core loc write request
      → cache_use.Asked request ≡ (at_access (not_through Unused (caches_of old)) (λ l w. ask_by (caches_of old) core.0 l.0 w) access).how
  ask-how request done =
      asked-how old new core loc write request done
      ∙ ap (λ (u : Used). u.how)
      (sym (needed-at loc write (not_through Unused (caches_of old)) (λ l w. ask_by (caches_of old) core.0 l.0 w) access hits needed))

  pub ask-holder : (request : Option BusRequest) → AsksFor old new core loc write request → holder_of new ≡ held_for core access
  ask-holder request done =
      done.holder_is ∙ sym (needed-at loc write None (λ l w. Some (bus.holder core l (bus.stage_for w))) access hits needed)

pub ask-misses : (caches : Caches) (core at : ℕ) (loc : Loc) (write : Bool) (access : MemoryAccess)
    → Some (loc, write) ≡ needed_by access (hits_by caches at access)
    → core ≡ at
    → write ≡ false
    → would_hit caches core loc.0 false ≡ false
ask-misses caches core at loc write access needed is reads =
    let hits = hits_by caches at access in
    ap (λ k. would_hit caches k loc.0 false) is
    ∙ ap (λ w. would_hit caches at loc.0 w) (sym reads)
    ∙ sym (needed-at loc write false (λ l w. would_hit caches at l.0 w) access hits needed)
    ∙ needed-misses loc write access hits needed reads

pub may-act : {P : Type 0} (t : Litmus) (m : Hardware P) (choice : Choice) → needs_in t m choice ≡ false
    → MayAct m.bus (chosen choice) (access_of t m.config.depth (state_in m).flat choice)
may-act t m choice h = inr h

pub asks-held : (s : CoreState) (choice : Choice) (holder : Holder)
    → holder ≢ Free
    → asks s choice holder ≡ acts (stalled stall.Bus s) holder
asks-held s choice Free h = absurd (h refl)
asks-held s choice (HeldBy asked) h = refl
asks-held s choice (HeldBetween e) h = refl

-- who holds the machine's bus, by the caches' bus and what its holder goes on with
abbrev pub held-with : Next → Option bus_action.BusAction → Holder
held-with next h = holder_by (option_map (λ x. next) h)

-- nobody holds the machine's bus: nor the caches'
pub free-with : (next : Next) (h : Option bus_action.BusAction) → held-with next h ≡ Free → h ≡ None
free-with next None free = refl
free-with (Complete asked) (Some x) free = absurd (let z : ⊥ = cc in z)
free-with (Write e) (Some x) free = absurd (let z : ⊥ = cc in z)

-- an access that is made leaves it so
pub held-made : (w : Way) (next : Next) (h : Option bus_action.BusAction) → held-with next (by_way w h None) ≡ by_way w (held-with next h) Free
held-made way.Whole next h = refl
held-made way.Asked next h = refl

-- an access that needs the bus holds it once it was asked for
pub asks-hold : (core : Core) (access : MemoryAccess) (hit : Bool) (choice : Choice)
    → needs_bus access hit ≡ true
    → held-with (Complete choice) (held_for core access) ≡ HeldBy choice
asks-hold core NoAccess hit choice needs = absurd (let z : ⊥ = cc in z)
asks-hold core _ hit choice needs = refl

-- a bus that nobody holds is held for no access
pub held-freed : (t : Litmus) (depth : ℕ) (state : State) (next : Next) (h : Option bus_action.BusAction)
    → h ≡ None
    → h ≡ held_as t depth state (held-with next h)
held-freed t depth state next h free = free ∙ sym (ap (λ k. held_as t depth state (held-with next k)) free)

-- who holds the caches' bus once it was asked for
pub held-ask : (t : Litmus) (depth : ℕ) (old new : State) (choice : Choice) (core : Core) (access : MemoryAccess)
    (b : Option bus_action.BusAction)
    → core ≡ core_in choice
    → access ≡ access_of t depth old choice → new ≡ old → b ≡ held_for core access → b ≡ held_as t depth new (HeldBy choice)
held-ask t depth old new choice core access b i a s h =
    h ∙ ap (λ k. held_for k access) i ∙ ap (held_for (core_in choice)) (a ∙ ap (λ st. access_of t depth st choice) (sym s))

pub fits-ask : {P : Type 0} (t : Litmus) (m new : Hardware P)
    → HardwareFitsTest t m
    → new.config ≡ m.config
    → new.processors.items ≡ m.processors.items
    → words_of new.bus ≡ words_of m.bus
    → cores_of new.bus ≡ cores_of m.bus → HardwareFitsTest t new
fits-ask t m new fits config processors words cores = record {
  cores = ap length processors ∙ fits.cores;
  on_bus = cores ∙ fits.on_bus;
  words = ap length words ∙ fits.words;
  each = rw (config, processors, words) fits.each;
}
