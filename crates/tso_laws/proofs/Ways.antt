-- The ways in which a choice acts: what holds of each of them holds of what the choice does.
use Rattle.tso_laws.proofs.BusVocabulary.{◌≡◌, ◌≢◌, ℕ, Bool, true, false, if◌then◌else◌, refl, ap, subst, nat_tests, arith, test-true}
use Rattle.tso_laws.proofs.BusVocabulary.{Litmus, Effect, State, effect_of, chosen, core_of, MemoryAccess, NoAccess, Reads, Writes, Locks}
use Rattle.tso_laws.proofs.BusVocabulary.{access_of, Holder, Free, HeldBy, HeldBetween, Attempt, BusEffect, same_choice, needs_bus, acts}
use Rattle.tso_laws.proofs.BusVocabulary.{asks, begins, load_part, reads_first, completes, as_read, after_first, writes_last, split_effect}
use Rattle.tso_laws.proofs.BusVocabulary.{BusState, effect_on, Bus, Atomic, Split, Loc, Entry, Choice, Step, Drain, Asked, stalled}
use Rattle.tso_laws.proofs.Cores.{quiet}
use Rattle.tso_laws.proofs.Steps.{drain-no-lock}
use Rattle.tso_terms.specs.declared.instruction.Core.{Core}
use Rattle.tso_terms.specs.declared.choice.Stall.TheVariants as stall

-- the same action is the same choice
pub same-is : (a b : Choice) → same_choice a b ≡ true → a ≡ b
same-is (Step a) (Step b) h = ap (λ z. Step (record { 0 = z })) (let z : a.0 ≡ b.0 = grind (arith, nat_tests) in z)
same-is (Drain a) (Drain b) h = ap (λ z. Drain (record { 0 = z })) (let z : a.0 ≡ b.0 = grind (arith, nat_tests) in z)
same-is (Step a) (Drain b) h = absurd (let z : ⊥ = cc in z)
same-is (Drain a) (Step b) h = absurd (let z : ⊥ = cc in z)

pub same-self : (a : Choice) → same_choice a a ≡ true
same-self (Step c) = test-true c.0 c.0 refl
same-self (Drain c) = test-true c.0 c.0 refl

-- the choice isn't the holder's next one
abbrev pub IsOther : Holder → Choice → Type 0
IsOther Free a = Unit {0}
IsOther (HeldBy choice) a = same_choice choice a ≡ false
IsOther (HeldBetween e) a = same_choice (Step e.core) a ≡ false

pub if-by : {A : Type 0} (P : A → Type 0) (test : Bool) (x y : A) → (test ≡ true → P x) → (test ≡ false → P y) → P (if test then x else y)
if-by P true x y h k = h refl
if-by P false x y h k = k refl

pub begins-by : (P : BusEffect → Type 0) (t : Litmus) (d : ℕ) (state : State) (a : Attempt) (holder : Holder)
    → (needs_bus (access_of t d state a.choice) a.hits ≡ true → P (asks (core_of state (chosen a.choice)) a.choice holder))
    → (needs_bus (access_of t d state a.choice) a.hits ≡ false → P (acts (effect_of t d state a.choice) holder)) → P (begins t d state a holder)
begins-by P t d state a holder asked acted = if-by P (needs_bus (access_of t d state a.choice) a.hits) _ _ asked acted

-- the holder's next choice: it acts as on the flat machine, or reads as the first part of a locked instruction
pub completes-by : (P : Choice → BusEffect → Type 0) (t : Litmus) (d : ℕ) (state : State) (a : Choice)
    → (((loc : Loc) → access_of t d state a ≢ Locks loc) → P a (acts (effect_of t d state a) Free))
    → ((core : Core) (loc : Loc)
    → access_of t d state (Step core) ≡ Locks loc
    → P (Step core) (reads_first (core_of state core.0) (load_part state core.0 loc)))
    → P a (completes t d state a (access_of t d state a))
completes-by P t d state a made read = by_access a (access_of t d state a) refl made
  where
    by_access : (c : Choice) (what : MemoryAccess)
        → access_of t d state c ≡ what
        → (((loc : Loc) → what ≢ Locks loc) → P c (acts (effect_of t d state c) Free))
        → P c (completes t d state c what)
    by_access (Step core) (Locks at) q made = read core at q
    by_access (Drain core) (Locks at) q made = absurd (drain-no-lock (core_of state core.0).pending at q)
    by_access c _ q made = made (λ loc is. let z : ⊥ = cc in z)

-- on a split bus
pub split-by : (P : Holder → Choice → BusEffect → Type 0) (t : Litmus) (d : ℕ) (state : State) (a : Attempt) (holder : Holder)
    → ((h : Holder) → IsOther h a.choice → P h a.choice (begins t d state a h))
    → ((asked : Choice) → P (HeldBy asked) asked (completes t d state asked (access_of t d state asked)))
    → ((e : Entry) → P (HeldBetween e) (Step e.core) (writes_last t d state e)) → P holder a.choice (split_effect t d state a holder)
split-by P t d state a Free begun completed written = begun Free tt
split-by P t d state a (HeldBy asked) begun completed written =
    if-by (P (HeldBy asked) a.choice) (same_choice asked a.choice) _ _
    (λ q.
    subst (λ c. P (HeldBy asked) c (completes t d state asked (access_of t d state asked))) (same-is asked a.choice q) (completed asked))
    (begun (HeldBy asked))
split-by P t d state a (HeldBetween e) begun completed written =
    if-by (P (HeldBetween e) a.choice) (same_choice (Step e.core) a.choice) _ _
    (λ q. subst (λ c. P (HeldBetween e) c (writes_last t d state e)) (same-is (Step e.core) a.choice q) (written e)) (begun (HeldBetween e))

-- on either bus, where nothing depends on who holds it: a choice that needs the bus asks or waits for it, others act as on the
-- flat machine, or make one of the two parts of a locked instruction
pub effect-by : (P : Choice → Effect → Type 0) (bus : Bus) (t : Litmus) (d : ℕ) (state : BusState) (a : Attempt)
    → (needs_bus (access_of t d state.flat a.choice) a.hits ≡ true → P a.choice (quiet Asked (core_of state.flat (chosen a.choice))))
    → (needs_bus (access_of t d state.flat a.choice) a.hits ≡ true → P a.choice (stalled stall.Bus (core_of state.flat (chosen a.choice))))
    → ((c : Choice) → P c (effect_of t d state.flat c))
    → ((core : Core) (loc : Loc)
    → access_of t d state.flat (Step core) ≡ Locks loc
    → P (Step core) (reads_first (core_of state.flat core.0) (load_part state.flat core.0 loc)).effect)
    → ((e : Entry) → P (Step e.core) (after_first (effect_of t d (as_read state.flat e) (Step e.core)))) → P a.choice (effect_on bus t d state a).effect
effect-by P Atomic t d state a asked waits flat read written = flat a.choice
effect-by P Split t d state a asked waits flat read written =
    split-by (λ h c g. P c g.effect) t d state.flat a state.holder
    (λ h other. begins-by (λ g. P a.choice g.effect) t d state.flat a h (by_holder h) (λ q. flat a.choice))
    (λ c. completes-by (λ b g. P b g.effect) t d state.flat c (λ n. flat c) read) written
  where
    by_holder : (h : Holder)
        → needs_bus (access_of t d state.flat a.choice) a.hits ≡ true
        → P a.choice (asks (core_of state.flat (chosen a.choice)) a.choice h).effect
    by_holder Free q = asked q
    by_holder _ q = waits q
