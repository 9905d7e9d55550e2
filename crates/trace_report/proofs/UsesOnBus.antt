-- What a choice has to do with the caches on either bus, and who holds the bus after it.
use Rattle.trace_report.proofs.Vocabulary.{◌≡◌, ◌≢◌, ◌⊎◌, ℕ, Bool, true, false, inl, inr, refl, ap, subst, each-at, Litmus, State, chosen}
use Rattle.trace_report.proofs.Vocabulary.{core_of, effect_of, applied, MemoryAccess, NoAccess, access_of, next_of, Holder, Free, HeldBy}
use Rattle.trace_report.proofs.Vocabulary.{HeldBetween, BusEffect, needs_bus, acts, asks, begins, completes, as_read, writes_last}
use Rattle.trace_report.proofs.Vocabulary.{split_effect, BusState, Bus, Atomic, Split, Choice, Step, Entry, quiet-same, IsStore, AllStores}
use Rattle.trace_report.proofs.Vocabulary.{access-kept, IsOther, HolderWaits, Unused, Caches, Used, not_through, asking_by, completing_by}
use Rattle.trace_report.proofs.Vocabulary.{hits_by, attempt_of, is_awaited, used_between, use_on, state_after_on, IsUseFor, choice-use, sym}
use Rattle.trace_report.proofs.Vocabulary.{Each, slice_index_or, set-get_or, idle, choice-stores, begins-by}
use Rattle.trace_report.proofs.Vocabulary.{completes-by, split-by, last-unused, needs-some}
use Rattle.tso_terms.specs.declared.choice.Stall.TheVariants as stall
use Rattle.tso_terms.specs.declared.choice.Outcome.TheVariants as out
use Rattle.tso_laws.specs.inner.Pending.{PendingIsOwn}

-- ---- on either bus

-- what holds the bus after a choice to make an access held it before, and its access is the same, by the accesses that choices
-- would make before and after; and an access is awaited as before
pub record Stays (before after : Choice → MemoryAccess) (holder next : Holder) : Type 0 where
  pub held : (other : Choice) → next ≡ HeldBy other → (holder ≡ HeldBy other) × (after other ≡ before other)
  pub waits : is_awaited next ≡ is_awaited holder

-- a choice makes its access whole, on the atomic bus or where none is needed; or makes none; or asks for it, and holds the bus; or
-- completes what it has asked for
pub data UsesOn (on : Bus) (c : Caches) (a : Choice) (before after : Choice → MemoryAccess) (holder next : Holder) (u : Used) : Type 0 where
  made : IsUseFor c (chosen a) (before a) u
      → ((on ≡ Atomic) × (holder ≡ Free) × (next ≡ Free))
      ⊎ (needs_bus (before a) (hits_by c (chosen a) (before a)) ≡ false)
      → Stays before after holder next → UsesOn on c a before after holder next u
  unused : u ≡ not_through Unused c → Stays before after holder next → UsesOn on c a before after holder next u
  begun : on ≡ Split
      → u ≡ asking_by c (chosen a) (before a)
      → before a ≢ NoAccess
      → holder ≡ Free
      → next ≡ HeldBy a
      → after a ≡ before a
      → UsesOn on c a before after holder next u
  ended : on ≡ Split
      → u ≡ completing_by c (chosen a) (before a)
      → before a ≢ NoAccess
      → holder ≡ HeldBy a
      → is_awaited next ≡ false
      → UsesOn on c a before after holder next u

-- and its core's pending stores stay stores
abbrev UsesBy : Bus → Litmus → ℕ → State → Caches → Choice → Holder → BusEffect → Type 0
UsesBy on t d state c a holder f =
    UsesOn on c a (access_of t d state) (access_of t d (applied state (chosen a) f.effect)) holder f.holder
    (used_between (is_awaited holder) (is_awaited f.holder) c (chosen a) (access_of t d state a) (core_of state (chosen a)).pending f.effect.commits)
    × AllStores (applied state (chosen a) f.effect)

pub own-stores : (state : State) → AllStores state → PendingIsOwn state
own-stores state stores core place e q =
    let s = each-at (IsStore core) (core_of state core).pending place e (stores core) q in
    record { kind = s.kind; mine = s.mine }

-- where nothing changes
still : (t : Litmus) (d : ℕ) (state after : State) (holder : Holder) → after ≡ state → Stays (access_of t d state) (access_of t d after) holder holder
still t d state after holder same = record { held = λ other q. (q, ap (λ (s : State). access_of t d s other) same); waits = refl }

asks-uses : (t : Litmus) (d : ℕ) (state : State) (c : Caches) (a : Choice) (holder : Holder)
    → access_of t d state a ≢ NoAccess
    → AllStores state
    → UsesBy Split t d state c a holder (asks (core_of state (chosen a)) a holder)
asks-uses t d state c a Free some stores =
    let same = quiet-same state (chosen a) out.Asked in
    (begun refl refl some refl refl (ap (λ (s : State). access_of t d s a) same), subst AllStores (sym same) stores)
asks-uses t d state c a holder some stores =
    let same = quiet-same state (chosen a) (out.Stalled stall.Bus) in
    (unused refl (still t d state _ holder same), subst AllStores (sym same) stores)

acts-uses : (on : Bus) (t : Litmus) (d : ℕ) (state : State) (c : Caches) (a : Choice) (holder : Holder) → AllStores state
    → ((on ≡ Atomic) × (holder ≡ Free) × (holder ≡ Free)) ⊎ (needs_bus (access_of t d state a) (hits_by c (chosen a) (access_of t d state a)) ≡ false)
    → Stays (access_of t d state) (access_of t d (applied state (chosen a) (effect_of t d state a))) holder holder
    → UsesBy on t d state c a holder (acts (effect_of t d state a) holder)
acts-uses on t d state c a holder stores why stays = (by_waiting (is_awaited holder), choice-stores t d state a stores)
  where
    by_waiting : (b : Bool)
        → UsesOn on c a (access_of t d state)
        (access_of t d (applied state (chosen a) (effect_of t d state a))) holder holder
        (used_between b b c (chosen a) (access_of t d state a) (core_of state (chosen a)).pending (effect_of t d state a).commits)
    by_waiting true = made (choice-use t d state c a (own-stores state stores)) why stays
    by_waiting false = made (choice-use t d state c a (own-stores state stores)) why stays

-- another choice leaves the holder at its access
other-stays : (t : Litmus) (d : ℕ) (state : State) (a : Choice) (holder : Holder) → HolderWaits Split t d state holder → IsOther holder a
    → Stays (access_of t d state) (access_of t d (applied state (chosen a) (effect_of t d state a))) holder holder
other-stays t d state a holder holding other = record { held = λ k q. by_holder holder holding other k q; waits = refl }
  where
    by_holder : (h : Holder)
        → HolderWaits Split t d state h
        → IsOther h a
        → (k : Choice) → h ≡ HeldBy k
        → (h ≡ HeldBy k) × (access_of t d (applied state (chosen a) (effect_of t d state a)) k ≡ access_of t d state k)
    by_holder (HeldBy choice) holding other k q =
        let same : choice ≡ k = cc in (
          q,
          subst (λ b. access_of t d (applied state (chosen a) (effect_of t d state a)) b ≡ access_of t d state b) same
              (access-kept t d state choice a holding other),
        )
    by_holder _ holding other k q = absurd (let z : ⊥ = cc in z)

begins-uses : (t : Litmus) (d : ℕ) (state : State) (c : Caches) (a : Choice) (holder : Holder)
    → HolderWaits Split t d state holder
    → IsOther holder a
    → AllStores state
    → UsesBy Split t d state c a holder (begins t d state (attempt_of t d state c a) holder)
begins-uses t d state c a holder holding other stores =
    begins-by (UsesBy Split t d state c a holder) t d state (attempt_of t d state c a) holder
    (λ q. asks-uses t d state c a holder (needs-some (access_of t d state a) _ q) stores)
    (λ q. acts-uses Split t d state c a holder stores (inr q) (other-stays t d state a holder holding other))

completes-uses : (t : Litmus) (d : ℕ) (state : State) (c : Caches) (a : Choice) → access_of t d state a ≢ NoAccess → AllStores state
    → UsesBy Split t d state c a (HeldBy a) (completes t d state a (access_of t d state a))
completes-uses t d state c a some stores =
    completes-by (λ b g. access_of t d state b ≢ NoAccess → UsesBy Split t d state c b (HeldBy b) g) t d state a
    (λ n has. (ended refl refl has refl refl, choice-stores t d state a stores))
    (λ core loc q has. (
      ended refl refl has refl refl,
      λ k. subst (λ cores. Each (IsStore k) (slice_index_or cores k idle).pending) (sym (set-get_or state.cores core.0 idle)) (stores k),
    )) some

writes-uses : (t : Litmus) (d : ℕ) (state : State) (c : Caches) (e : Entry)
    → AllStores state
    → UsesBy Split t d state c (Step e.core) (HeldBetween e) (writes_last t d state e)
writes-uses t d state c e stores = (
  unused (last-unused c (core_of state e.core.0).pending d e.core.0 (as_read state e).memory (next_of t state e.core.0) (core_of state e.core.0))
      (record { held = λ other q. absurd (let z : ⊥ = cc in z); waits = refl }),
  λ k. choice-stores t d (as_read state e) (Step e.core) stores k,
)

split-uses : (t : Litmus) (d : ℕ) (state : State) (c : Caches) (a : Choice) (holder : Holder) → HolderWaits Split t d state holder → AllStores state
    → UsesBy Split t d state c a holder (split_effect t d state (attempt_of t d state c a) holder)
split-uses t d state c a holder holding stores =
    split-by (λ h b g. HolderWaits Split t d state h → UsesBy Split t d state c b h g) t d state (attempt_of t d state c a) holder
    (λ h other waits. begins-uses t d state c a h waits other stores)
    (λ asked waits. completes-uses t d state c asked waits stores) (λ e waits. writes-uses t d state c e stores) holding

-- a choice on either bus
pub choice-uses : (on : Bus) (t : Litmus) (d : ℕ) (state : BusState) (c : Caches) (a : Choice)
    → HolderWaits on t d state.flat state.holder
    → AllStores state.flat
    → UsesOn on c a (access_of t d state.flat) (access_of t d (state_after_on on t d state c a).flat) state.holder (state_after_on on t d state c a).holder
    (use_on on t d state a c) × AllStores (state_after_on on t d state c a).flat
choice-uses Split t d state c a holding stores = split-uses t d state.flat c a state.holder holding stores
choice-uses Atomic t d state c a holding stores = by_holder state.holder holding
  where
    by_holder : (holder : Holder)
        → HolderWaits Atomic t d state.flat holder
        → UsesBy Atomic t d state.flat c a holder (acts (effect_of t d state.flat a) holder)
    by_holder Free h =
        acts-uses Atomic t d state.flat c a Free stores (inl (refl, refl, refl)) (record {
          held = λ other q. absurd (let z : ⊥ = cc in z);
          waits = refl;
        })
    by_holder _ h = absurd h
