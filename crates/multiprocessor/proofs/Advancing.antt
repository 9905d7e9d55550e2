-- Each choice on either bus counts an access only where one more instruction has made its own.
use Rattle.multiprocessor.proofs.Vocabulary.{◌≡◌, ◌≢◌, ◌<◌, ℕ, List, drop, length, Option, None, Some, slice_get, refl, sym, ap, ◌∙◌, arith}
use Rattle.multiprocessor.proofs.Vocabulary.{Litmus, IsTest, action_of, CoreState, State, effect_by, step_of, effect_of, core_of, chosen}
use Rattle.multiprocessor.proofs.Vocabulary.{program_of, NoAccess, Locks, access_of, Holder, Free, HeldBy, HeldBetween, Attempt, BusEffect}
use Rattle.multiprocessor.proofs.Vocabulary.{acts, asks, begins, completes, writes_last, as_read, effect_on, Bus, Atomic, Split, Instr}
use Rattle.multiprocessor.proofs.Vocabulary.{Action, Store, Fence, Lock, Entry, Choice, Step, HasRead, HolderFits, Unused, Caches}
use Rattle.multiprocessor.proofs.Vocabulary.{is_awaited, use_of, use_with, HasIssuedItsStores, zero, suc, nat_lt, Effect, stored}
use Rattle.multiprocessor.proofs.Vocabulary.{is_none_pending, not_through, if-by, begins-by, completes-by, split-by}
use Rattle.multiprocessor.proofs.EachUse.{asks-uncounted}
use Rattle.multiprocessor.proofs.CountBounds.{effect-advances}
use Rattle.multiprocessor.proofs.CountsOnBus.{AdvancesOn, advances-acts, advances-frees, advances-reads, advances-writes, advances-rests}
use Rattle.multiprocessor.proofs.Accessing.{commits-at-once}

-- the store part of a locked instruction makes no access
abbrev IsNoUse : Caches → List Entry → List Entry → Type 0
IsNoUse c pending commits = use_of c pending commits ≡ not_through Unused c

last-stored : (c : Caches) (pending : List Entry) (depth : ℕ) (s : CoreState) (e : Entry) → IsNoUse c pending (drop 1 (stored depth s e).commits)
last-stored c pending zero s e = refl
last-stored c pending (suc n) s e =
    if-by (λ (f : Effect). IsNoUse c pending (drop 1 f.commits)) (nat_lt (length s.pending) (suc n)) _ _ (λ room. refl) (λ full. refl)

pub last-unused : (c : Caches) (pending : List Entry) (depth core : ℕ) (memory : List ℕ) (i : Option Instr)
    (s : CoreState)
    → IsNoUse c pending (drop 1 (step_of depth memory core i s).commits)
last-unused c pending depth core memory None s = refl
last-unused c pending depth core memory (Some x) s = by_action (action_of x)
  where
    by_action : (a : Action) → IsNoUse c pending (drop 1 (effect_by depth memory core a s).commits)
    by_action (Store loc operand) = last-stored c pending depth s _
    by_action Fence = if-by (λ (f : Effect). IsNoUse c pending (drop 1 f.commits)) (is_none_pending s.pending) _ _ (λ none. refl) (λ some. refl)
    by_action (Lock loc reg update) = if-by (λ (f : Effect). IsNoUse c pending (drop 1 f.commits)) (is_none_pending s.pending) _ _ (λ none. refl) (λ some. refl)
    by_action _ = refl

-- what a choice counts
abbrev Goes : Litmus → ℕ → State → Holder → Choice → Caches → BusEffect → Type 0
Goes t depth state holder choice c f =
    AdvancesOn (core_of state (chosen choice)) holder f (use_with t depth (record { flat = state; holder = holder }) choice f c).how

goes-acts : (t : Litmus) (depth : ℕ) (state : State) (holder : Holder) (choice : Choice) (c : Caches)
    → IsTest t
    → chosen choice < length t.programs
    → HasIssuedItsStores (core_of state (chosen choice))
    → Goes t depth state holder choice c (acts (effect_of t depth state choice) holder)
goes-acts t depth state holder choice c test h issued =
    advances-acts (core_of state (chosen choice)) holder (is_awaited holder) (effect_of t depth state choice) c
    (chosen choice) (access_of t depth state choice) (core_of state (chosen choice)).pending
    (effect-advances t depth state choice test h issued)

goes-asks : (t : Litmus) (depth : ℕ) (state : State) (holder : Holder) (choice : Choice) (c : Caches) → HasIssuedItsStores (core_of state (chosen choice))
    → Goes t depth state holder choice c (asks (core_of state (chosen choice)) choice holder)
goes-asks t depth state Free choice c issued =
    advances-rests (core_of state (chosen choice)) Free _ _ issued refl (omega arith)
    (asks-uncounted c (chosen choice) (access_of t depth state choice))
goes-asks t depth state holder choice c issued = advances-rests (core_of state (chosen choice)) holder _ _ issued refl (omega arith) (λ core cs. refl)

goes-begins : (t : Litmus) (depth : ℕ) (state : State) (holder : Holder) (a : Attempt) (c : Caches)
    → IsTest t
    → chosen a.choice < length t.programs
    → HasIssuedItsStores (core_of state (chosen a.choice))
    → Goes t depth state holder a.choice c (begins t depth state a holder)
goes-begins t depth state holder a c test h issued =
    begins-by (Goes t depth state holder a.choice c) t depth state a holder
    (λ needs. goes-asks t depth state holder a.choice c issued)
    (λ free. goes-acts t depth state holder a.choice c test h issued)

goes-completes : (t : Litmus) (depth : ℕ) (state : State) (choice : Choice) (c : Caches)
    → access_of t depth state choice ≢ NoAccess
    → IsTest t
    → chosen choice < length t.programs
    → HasIssuedItsStores (core_of state (chosen choice))
    → Goes t depth state (HeldBy choice) choice c (completes t depth state choice (access_of t depth state choice))
goes-completes t depth state choice c some test h issued =
    completes-by (λ x f. HasIssuedItsStores (core_of state (chosen x)) → Goes t depth state (HeldBy x) x c f) t depth state choice
    (λ n issued.
    advances-frees (core_of state (chosen choice)) choice (effect_of t depth state choice) _
    (commits-at-once t depth state choice some).some (effect-advances t depth state choice test h issued))
    (λ core loc reads issued. advances-reads (core_of state core.0) (Step core) _ _ _ issued refl refl refl) issued

goes-writes : (t : Litmus) (depth : ℕ) (state : State) (e : Entry) (c : Caches)
    → HasRead t depth state e
    → IsTest t
    → e.core.0 < length t.programs
    → HasIssuedItsStores (core_of state e.core.0)
    → Goes t depth state (HeldBetween e) (Step e.core) c (writes_last t depth state e)
goes-writes t depth state e c read test h issued =
    let f = effect_of t depth (as_read state e) (Step e.core) in
    let some : access_of t depth (as_read state e) (Step e.core) ≢ NoAccess =
    λ none. (let z : NoAccess ≡ Locks e.loc = sym none ∙ read.access in let w : ⊥ = cc in w) in
    advances-writes (core_of state e.core.0) e f _ _
    (ap (λ u. u.how) (last-unused c (core_of state e.core.0).pending depth e.core.0 (as_read state e).memory
    (slice_get (program_of t e.core.0) (core_of state e.core.0).place) (core_of state e.core.0)))
    (commits-at-once t depth (as_read state e) (Step e.core) some).some (effect-advances t depth (as_read state e) (Step e.core) test h issued) refl refl

-- every choice on either bus
pub advances-on : (bus : Bus) (t : Litmus) (depth : ℕ) (state : State) (holder : Holder) (a : Attempt) (c : Caches)
    → HolderFits bus t depth state holder
    → IsTest t
    → chosen a.choice < length t.programs
    → HasIssuedItsStores (core_of state (chosen a.choice))
    → Goes t depth state holder a.choice c (effect_on bus t depth (record { flat = state; holder = holder }) a)
advances-on Atomic t depth state holder a c fits test h issued = goes-acts t depth state holder a.choice c test h issued
advances-on Split t depth state holder a c fits test h issued =
    split-by (λ held x f.
    HolderFits Split t depth state held
    → chosen x < length t.programs
    → HasIssuedItsStores (core_of state (chosen x))
    → Goes t depth state held x c f)
    t depth state a holder
    (λ held other fits h issued. goes-begins t depth state held a c test h issued)
    (λ asked fits h issued. goes-completes t depth state asked c fits test h issued)
    (λ e fits h issued. goes-writes t depth state e c fits test h issued) fits h issued
