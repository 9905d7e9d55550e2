-- Each choice takes something off what is left, or changes nothing, whatever the caches answer.
use Rattle.tso_laws.proofs.BusVocabulary.{◌≡◌, ◌≢◌, ◌≤◌, ℕ, ◌+◌, suc, List, [], ◌∷◌, length, arith, ap, sym, ◌∙◌, refl, ◌⊎◌, inl, inr}
use Rattle.tso_laws.proofs.BusVocabulary.{subst, length-set, set-get_or, Litmus, State, Effect, idle, effect_of, chosen, core_of}
use Rattle.tso_laws.proofs.BusVocabulary.{program_of, applied, start, stall_count, MemoryAccess, NoAccess, Locks, access_of, Holder, Free}
use Rattle.tso_laws.proofs.BusVocabulary.{HeldBy, HeldBetween, Attempt, BusEffect, acts, asks, begins, load_part, reads_first, completes}
use Rattle.tso_laws.proofs.BusVocabulary.{as_read, after_first, writes_last, split_effect, BusState, unheld, effect_on, after_on, Bus}
use Rattle.tso_laws.proofs.BusVocabulary.{Atomic, Split, Loc, Entry, Choice, Step, Outcome, Committed, Asked, state_on, starts-idle}
use Rattle.tso_laws.proofs.BusVocabulary.{length-starts}
use Rattle.tso_laws.proofs.Cores.{core-cases, quiet, quiet-same}
use Rattle.tso_laws.proofs.BusWaiting.{access-kept}
use Rattle.tso_laws.proofs.Following.{needs-some}
use Rattle.tso_terms.specs.declared.instruction.Core.{Core}
use Rattle.tso_laws.proofs.Ways.{IsOther, begins-by, completes-by, split-by}
use Rattle.tso_laws.proofs.Left.{price, price-access, Paid, choice-pays, access-pays, total, paid-total}

-- what the holder of the bus has done beyond what its core shows: its ask, and its load part
abbrev pub credit : Holder → ℕ
credit Free = 0
credit (HeldBy choice) = 1
credit (HeldBetween e) = 2

-- what holds the bus has its access to make
abbrev pub HolderWaits : Bus → Litmus → ℕ → State → Holder → Type 0
HolderWaits bus t d state Free = Unit {0}
HolderWaits Atomic t d state (HeldBy choice) = ⊥
HolderWaits Atomic t d state (HeldBetween e) = ⊥
HolderWaits Split t d state (HeldBy choice) = access_of t d state choice ≢ NoAccess
HolderWaits Split t d state (HeldBetween e) = access_of t d state (Step e.core) ≡ Locks e.loc

-- no core is past its program
abbrev pub Within : Litmus → State → Type 0
Within t state = (k : ℕ) → (core_of state k).place ≤ length (program_of t k)

pub record Live (bus : Bus) (t : Litmus) (d : ℕ) (state : State) (holder : Holder) : Type 0 where
  pub size : length state.cores ≡ length t.programs
  pub within : Within t state
  pub holding : HolderWaits bus t d state holder

within-applied : (t : Litmus) (state : State) (c : ℕ) (f : Effect) → Within t state → f.after.place ≤ length (program_of t c) → Within t (applied state c f)
within-applied t state c f w l k = elim (core-cases state c k f) [
  | inl q ↦ subst (λ z. z.place ≤ length (program_of t k)) (sym q.2) (subst (λ z. f.after.place ≤ length (program_of t z)) (sym q.0) l)
  | inr q ↦ subst (λ z. z.place ≤ length (program_of t k)) (sym q) (w k)
]

-- a choice takes effect, or changes nothing
pub record Moves (bus : Bus) (t : Litmus) (d : ℕ) (state : State) (c : ℕ) (holder : Holder) (g : BusEffect) : Type 0 where
  pub took : stall_count g.effect.outcome ≡ 0
  pub less : suc (total t.programs (applied state c g.effect).cores + credit holder) ≤ total t.programs state.cores + credit g.holder
  pub live : Live bus t d (applied state c g.effect) g.holder

pub record Rests (state : State) (c : ℕ) (holder : Holder) (g : BusEffect) : Type 0 where
  pub stalled : stall_count g.effect.outcome ≡ 1
  pub same : applied state c g.effect ≡ state
  pub same_holder : g.holder ≡ holder
  pub none : g.effect.commits ≡ []

abbrev pub Does : Bus → Litmus → ℕ → State → ℕ → Holder → BusEffect → Type 0
Does bus t d state c holder g = Moves bus t d state c holder g ⊎ Rests state c holder g

-- an effect that takes more off than the holder changes
paid-moves : (bus : Bus) (t : Litmus) (d : ℕ) (state : State) (c n : ℕ) (holder next : Holder) (f : Effect)
    → Live bus t d state holder
    → Paid (program_of t c) (core_of state c) (suc n) f
    → credit holder ≤ n + credit next → HolderWaits bus t d (applied state c f) next → Moves bus t d state c holder (acts f next)
paid-moves bus t d state c n holder next f live w l holding = record {
  took = w.took;
  less = let m = paid-total t state c (suc n) f live.size (omega arith) w in omega arith;
  live = record {
    size = length-set state.cores c f.after ∙ live.size;
    within = within-applied t state c f live.within (w.within (live.within c));
    holding = holding;
  };
}

held-on : (t : Litmus) (d : ℕ) (state : State) (a : Choice) (holder : Holder)
    → HolderWaits Split t d state holder
    → IsOther holder a
    → HolderWaits Split t d (applied state (chosen a) (effect_of t d state a)) holder
held-on t d state a Free h o = tt
held-on t d state a (HeldBy choice) h o = λ q. h (sym (access-kept t d state choice a h o) ∙ q)
held-on t d state a (HeldBetween e) h o = access-kept t d state (Step e.core) a (λ q. let z : ⊥ = cc in z) o ∙ h

-- the state of the cores and memory stays
still : (t : Litmus) (d : ℕ) (state : State) (c : ℕ) (o : Outcome) (holder : Holder)
    → Live Split t d state holder
    → Live Split t d (applied state c (quiet o (core_of state c))) holder
still t d state c o holder live = subst (λ z. Live Split t d z holder) (sym (quiet-same state c o)) live

asks-does : (t : Litmus) (d : ℕ) (state : State) (a : Choice) (holder : Holder)
    → Live Split t d state holder
    → access_of t d state a ≢ NoAccess
    → Does Split t d state (chosen a) holder (asks (core_of state (chosen a)) a holder)
asks-does t d state a Free live n = inl (record {
  took = refl;
  less = rw (set-get_or state.cores (chosen a) idle) (omega arith);
  live = still t d state (chosen a) Asked (HeldBy a) (record { size = live.size; within = live.within; holding = n });
})
asks-does t d state a _ live n = inr (record { stalled = refl; same = quiet-same state (chosen a) Asked; same_holder = refl; none = refl })

price-some : (what : MemoryAccess) → 1 ≤ price what
price-some NoAccess = omega arith
price-some _ = omega arith

-- it pays at least so much
paid-less : (t : Litmus) (state : State) (c m n : ℕ) (f : Effect)
    → n ≤ m
    → Paid (program_of t c) (core_of state c) m f
    → Paid (program_of t c) (core_of state c) n f
paid-less t state c m n f l w = record { took = w.took; less = let h = w.less in omega arith; within = w.within }

-- a choice that acts as on the flat machine, and leaves the holder
acts-does : (bus : Bus) (t : Litmus) (d : ℕ) (state : State) (a : Choice) (holder : Holder)
    → Live bus t d state holder
    → HolderWaits bus t d (applied state (chosen a) (effect_of t d state a)) holder
    → Does bus t d state (chosen a) holder (acts (effect_of t d state a) holder)
acts-does bus t d state a holder live holding = elim (choice-pays t d state a) [
  | inl w ↦ inl (paid-moves bus t d state (chosen a) 0 holder holder (effect_of t d state a) live
      (paid-less t state (chosen a) (price (access_of t d state a)) 1 (effect_of t d state a) (price-some (access_of t d state a)) w) (omega arith) holding)
  | inr w ↦ inr (rw w.is (record { stalled = refl; same = quiet-same state (chosen a) Asked; same_holder = refl; none = refl }))
]

begins-does : (t : Litmus) (d : ℕ) (state : State) (a : Attempt) (holder : Holder)
    → Live Split t d state holder
    → IsOther holder a.choice
    → Does Split t d state (chosen a.choice) holder (begins t d state a holder)
begins-does t d state a holder live o =
    begins-by (λ g. Does Split t d state (chosen a.choice) holder g) t d state a holder
    (λ q. asks-does t d state a.choice holder live (needs-some (access_of t d state a.choice) a.hits q))
    (λ q. acts-does Split t d state a.choice holder live (held-on t d state a.choice holder live.holding o))

reads-moves : (t : Litmus) (d : ℕ) (state : State) (c : Core) (loc : Loc) → Live Split t d state (HeldBy (Step c)) → access_of t d state (Step c) ≡ Locks loc
    → Moves Split t d state c.0 (HeldBy (Step c)) (reads_first (core_of state c.0) (load_part state c.0 loc))
reads-moves t d state c loc live q = record {
  took = refl;
  less = rw (set-get_or state.cores c.0 idle) (omega arith);
  live = still t d state c.0 Committed (HeldBetween (load_part state c.0 loc)) (record { size = live.size; within = live.within; holding = q });
}

-- the holder's next choice takes effect
pub completes-moves : (t : Litmus) (d : ℕ) (state : State) (a : Choice)
    → Live Split t d state (HeldBy a)
    → Moves Split t d state (chosen a) (HeldBy a) (completes t d state a (access_of t d state a))
completes-moves t d state a live =
    completes-by (λ c g. Live Split t d state (HeldBy c) → Moves Split t d state (chosen c) (HeldBy c) g) t d state a
    (λ n live. (
    paid-moves Split t d state (chosen a) 1 (HeldBy a) Free (effect_of t d state a) live
    (paid-less t state (chosen a) (price (access_of t d state a)) 2 (effect_of t d state a)
    (price-access (access_of t d state a) live.holding) (access-pays t d state a live.holding))
    (omega arith) tt
    )) (λ core loc q live. reads-moves t d state core loc live q) live

-- a locked instruction that has read pays for all its choices as it writes
pub writes-pay : (t : Litmus) (d : ℕ) (state : State) (e : Entry) → access_of t d state (Step e.core) ≡ Locks e.loc
    → Paid (program_of t e.core.0) (core_of state e.core.0) 3 (after_first (effect_of t d (as_read state e) (Step e.core)))
writes-pay t d state e q =
    let f : Effect = effect_of t d (as_read state e) (Step e.core) in
    let w : Paid (program_of t e.core.0) (core_of state e.core.0) (price (access_of t d state (Step e.core))) f =
    access-pays t d (as_read state e) (Step e.core) (λ h. let z : ⊥ = cc in z) in
    let n : price (access_of t d state (Step e.core)) ≡ 3 = ap price q in
    record { took = w.took; less = let l = w.less in omega arith; within = w.within }

pub writes-moves : (t : Litmus) (d : ℕ) (state : State) (e : Entry)
    → Live Split t d state (HeldBetween e)
    → Moves Split t d state e.core.0 (HeldBetween e) (writes_last t d state e)
writes-moves t d state e live =
    paid-moves Split t d state e.core.0 2 (HeldBetween e) Free
    (after_first (effect_of t d (as_read state e) (Step e.core))) live (writes-pay t d state e live.holding)
    (omega arith) tt

split-does : (t : Litmus) (d : ℕ) (state : State) (a : Attempt) (holder : Holder)
    → Live Split t d state holder
    → Does Split t d state (chosen a.choice) holder (split_effect t d state a holder)
split-does t d state a holder live =
    split-by (λ h c g. Live Split t d state h → Does Split t d state (chosen c) h g) t d state a holder (λ h other live. begins-does t d state a h live other)
    (λ asked live. inl (completes-moves t d state asked live)) (λ e live. inl (writes-moves t d state e live)) live

abbrev pub LiveIn : Bus → Litmus → ℕ → BusState → Type 0
LiveIn bus t d state = Live bus t d state.flat state.holder

pub choice-does : (bus : Bus) (t : Litmus) (d : ℕ) (state : BusState) (a : Attempt)
    → LiveIn bus t d state
    → Does bus t d state.flat (chosen a.choice) state.holder (effect_on bus t d state a)
choice-does Split t d state a live = split-does t d state.flat a state.holder live
choice-does Atomic t d state a live = go state.holder live
  where
    go : (holder : Holder)
        → Live Atomic t d state.flat holder
        → Does Atomic t d state.flat (chosen a.choice) holder (acts (effect_of t d state.flat a.choice) holder)
    go Free live = acts-does Atomic t d state.flat a.choice Free live tt
    go _ live = absurd live.holding

-- ---- choices one after the other

-- a stall leaves the whole state
pub stays-here : (bus : Bus) (t : Litmus) (d : ℕ) (state : BusState) (a : Attempt)
    → Rests state.flat (chosen a.choice) state.holder (effect_on bus t d state a)
    → after_on bus t d state a ≡ state
stays-here bus t d state a w = rw (w.same, w.same_holder) refl

pub live-after : (bus : Bus) (t : Litmus) (d : ℕ) (state : BusState) (a : Attempt) → LiveIn bus t d state → LiveIn bus t d (after_on bus t d state a)
live-after bus t d state a live = elim (choice-does bus t d state a live) [
  | inl m ↦ m.live
  | inr w ↦ subst (λ z. LiveIn bus t d z) (sym (stays-here bus t d state a w)) live
]

pub live-on : (bus : Bus) (t : Litmus) (d : ℕ) (state : BusState) (xs : List Attempt) → LiveIn bus t d state → LiveIn bus t d (state_on bus t d state xs)
live-on bus t d state [] live = live
live-on bus t d state (a ∷ rest) live = live-on bus t d (after_on bus t d state a) rest (live-after bus t d state a live)

pub live-start : (bus : Bus) (t : Litmus) (d : ℕ) → LiveIn bus t d (unheld (start t))
live-start bus t d = record {
  size = length-starts 0 t.programs t.registers;
  within = λ k. rw (starts-idle 0 t.programs t.registers k).0 (omega arith);
  holding = tt;
}
