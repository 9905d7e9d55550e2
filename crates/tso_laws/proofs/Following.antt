-- A run on either bus is followed by one of the flat machine, which makes a locked instruction when its store part is
-- committed.
use Rattle.tso_laws.proofs.BusVocabulary.{◌≡◌, ◌≢◌, ℕ, ◌+◌, zero, suc, Option, Some, None, length, nat_lt, List, [], ◌∷◌, ◌++◌, Bool, true}
use Rattle.tso_laws.proofs.BusVocabulary.{false, drop, slice_set, arith, ap, sym, ◌∙◌, refl, inl, inr, append_assoc, subst, if◌then◌else◌}
use Rattle.tso_laws.proofs.BusVocabulary.{append-nil, set-get_or, Litmus, entry, action_of, CoreState, State, Effect, stored, effect_by}
use Rattle.tso_laws.proofs.BusVocabulary.{step_of, effect_of, after_choice, chosen, core_of, applied, memory_after, is_none_pending}
use Rattle.tso_laws.proofs.BusVocabulary.{stall_count, MemoryAccess, NoAccess, Writes, Locks, next_of, access_of, Holder, Free, HeldBy}
use Rattle.tso_laws.proofs.BusVocabulary.{HeldBetween, Attempt, BusEffect, needs_bus, acts, asks, begins, load_part, reads_first, completes}
use Rattle.tso_laws.proofs.BusVocabulary.{as_read, after_first, writes_last, split_effect, BusState, effect_on, after_on, HitFits, HitsFit}
use Rattle.tso_laws.proofs.BusVocabulary.{put_together, Bus, Atomic, Split, Loc, Instr, Action, Store, Fence, Lock, Entry, LW, Choice, Step}
use Rattle.tso_laws.proofs.BusVocabulary.{Drain, Outcome, Committed, Asked, state_after, commits_of, state_on, commits_on, HasRead}
use Rattle.tso_laws.proofs.BusVocabulary.{HolderFits, waiting, ask_count, wait_count, load_part_count, bus_count, decide, Each, drain_with}
use Rattle.tso_terms.specs.declared.instruction.Core.{Core}
use Rattle.tso_laws.proofs.Cores.{quiet, quiet-same}
use Rattle.tso_laws.proofs.Steps.{IsPlain, drain-no-lock, choice-plain, choice-pair, Pairs}
use Rattle.tso_laws.proofs.BusWaiting.{AllStores, choice-stores, access-kept, same-part, reading-kept, reader-writes-nothing, reader-commits-nothing}
use Rattle.tso_laws.proofs.Moving.{moved, moved-plain, Parts, moved-pair, together-pair, IsToCome, GoesOn, plain-on, load-on, store-on, pair-on}
use Rattle.tso_laws.proofs.Ways.{IsOther, begins-by, completes-by, split-by}

-- ---- what needs the bus

pub needs-some : (what : MemoryAccess) (hits : Bool) → needs_bus what hits ≡ true → what ≢ NoAccess
needs-some NoAccess hits h q = let z : ⊥ = cc in z
needs-some _ hits h q = let z : ⊥ = cc in z

pub needs-no-lock : (what : MemoryAccess) (hits : Bool) → needs_bus what hits ≡ false → (l : Loc) → what ≢ Locks l
needs-no-lock NoAccess hits h l q = let z : ⊥ = cc in z
needs-no-lock _ hits h l q = let z : ⊥ = cc in z

write-hits : (what : MemoryAccess) (hits : Bool) (l : Loc) → needs_bus what hits ≡ false → what ≡ Writes l → hits ≡ true
write-hits what true l h q = refl
write-hits what false l h q = absurd (let z : needs_bus what false ≡ true = rw q refl in let y : ⊥ = cc in y)

-- ---- what the flat machine's choices count

-- they ask for no bus, and wait for none
own-outcome : (t : Litmus) (depth : ℕ) (state : State) (a : Choice)
    → ask_count (effect_of t depth state a).outcome + wait_count (effect_of t depth state a).outcome ≡ 0
own-outcome t depth state (Step c) = by_next (next_of t state c.0)
  where
    s : CoreState
    s = core_of state c.0

    -- either of two such effects
    either : (b : Bool) (f g : Effect) → ask_count f.outcome + wait_count f.outcome ≡ 0 → ask_count g.outcome + wait_count g.outcome ≡ 0
        → ask_count (if b then f else g).outcome + wait_count (if b then f else g).outcome ≡ 0
    either true f g p q = p
    either false f g p q = q

    by_depth : (d : ℕ) (e : Entry) → ask_count (stored d s e).outcome + wait_count (stored d s e).outcome ≡ 0
    by_depth zero e = refl
    by_depth (suc n) e = either (nat_lt (length s.pending) (suc n)) _ _ refl refl

    by_action : (a : Action) → ask_count (effect_by depth state.memory c.0 a s).outcome + wait_count (effect_by depth state.memory c.0 a s).outcome ≡ 0
    by_action (Store loc operand) = by_depth depth _
    by_action Fence = either (is_none_pending s.pending) _ _ refl refl
    by_action (Lock loc reg update) = either (is_none_pending s.pending) _ _ refl refl
    by_action _ = refl

    by_next : (i : Option Instr) → ask_count (step_of depth state.memory c.0 i s).outcome + wait_count (step_of depth state.memory c.0 i s).outcome ≡ 0
    by_next None = refl
    by_next (Some i) = by_action (action_of i)
own-outcome t depth state (Drain c) = by_pending (core_of state c.0).pending
  where
    by_pending : (q : List Entry) → ask_count (drain_with (core_of state c.0) q).outcome + wait_count (drain_with (core_of state c.0) q).outcome ≡ 0
    by_pending [] = refl
    by_pending (p ∷ ps) = refl

own-count : (t : Litmus) (depth : ℕ) (state : State) (a : Choice)
    → load_part_count (effect_of t depth state a).commits ≡ 0
    → bus_count (effect_of t depth state a) ≡ 0
own-count t depth state a parts = let n = own-outcome t depth state a in omega arith

no-load-part : (core : ℕ) (what : MemoryAccess) (xs : List Entry) → Each (IsPlain core what) xs → load_part_count xs ≡ 0
no-load-part core what (x ∷ []) h = rw h.0.no_load_part refl
no-load-part core what _ h = refl

-- ---- one choice

-- how one choice counts: it is made for the bus alone, or is one of the flat machine's, of the same core and with the same outcome
pub data Counts (t : Litmus) (depth : ℕ) (state : State) (c : ℕ) (f : Effect) : List Choice → Type 0 where
  for_bus : bus_count f ≡ 1 → stall_count f.outcome ≡ wait_count f.outcome → Counts t depth state c f []
  as_flat : (a : Choice) → chosen a ≡ c → bus_count f ≡ 0 → f.outcome ≡ (effect_of t depth state a).outcome → Counts t depth state c f (a ∷ [])

-- one choice, followed by choices of the flat machine (one or none)
pub record Goes (bus : Bus) (t : Litmus) (depth : ℕ) (state : State) (c : ℕ) (holder : Holder) (g : BusEffect) : Type 0 where
  pub choices : List Choice
  pub counted : Counts t depth state c g.effect choices
  pub now : state_after t depth state choices ≡ applied state c g.effect
  pub commits : (ys : List Entry) → moved holder (put_together (g.effect.commits ++ ys)) ≡ commits_of t depth state choices ++ moved g.holder (put_together ys)
  pub goes_on : GoesOn holder g.holder g.effect.commits
  pub stores : AllStores (applied state c g.effect)
  pub holds : HolderFits bus t depth (applied state c g.effect) g.holder

-- what another holder leaves to come is what this one does
pub record Alike (holder next : Holder) : Type 0 where
  pub same : (ys : List Entry) → moved holder ys ≡ moved next ys
  pub back : GoesOn holder next []

alike : (holder : Holder) → Alike holder holder
alike holder = record { same = λ ys. refl; back = λ ys end b. b }

-- where nothing is waited for
alike-free : (holder next : Holder) → ((ys : List Entry) → moved holder ys ≡ moved next ys) → ((e : Entry) → holder ≢ HeldBetween e) → Alike holder next
alike-free holder next same n = record { same = same; back = λ ys end b. record { answered = λ e q. absurd (n e q); paired = b.paired } }

-- a choice that changes at most who holds the bus
quiet-goes : (t : Litmus) (depth : ℕ) (state : State) (c : ℕ) (o : Outcome) (holder next : Holder) → AllStores state → HolderFits Split t depth state next
    → Alike holder next
    → bus_count (quiet o (core_of state c)) ≡ 1
    → stall_count o ≡ wait_count o
    → Goes Split t depth state c holder (acts (quiet o (core_of state c)) next)
quiet-goes t depth state c o holder next stores fits like one stalls = record {
  choices = [];
  counted = for_bus one stalls;
  now = sym (quiet-same state c o);
  commits = λ ys. like.same (put_together ys);
  goes_on = like.back;
  stores = subst AllStores (sym (quiet-same state c o)) stores;
  holds = subst (λ z. HolderFits Split t depth z next) (sym (quiet-same state c o)) fits;
}

asks-goes : (t : Litmus) (depth : ℕ) (state : State) (a : Choice) (holder : Holder)
    → AllStores state
    → HolderFits Split t depth state holder
    → access_of t depth state a ≢ NoAccess
    → Goes Split t depth state (chosen a) holder (asks (core_of state (chosen a)) a holder)
asks-goes t depth state a Free stores fits n =
    quiet-goes t depth state (chosen a) Asked Free (HeldBy a) stores n
    (alike-free Free (HeldBy a) (λ ys. refl) (λ e q. let z : ⊥ = cc in z)) refl refl
asks-goes t depth state a holder stores fits n = quiet-goes t depth state (chosen a) _ holder holder stores fits (alike holder) refl refl

-- a choice that acts as on the flat machine, and isn't a locked instruction
acts-goes : (bus : Bus) (t : Litmus) (depth : ℕ) (state : State) (a : Choice) (holder next : Holder)
    → AllStores state
    → ((l : Loc) → access_of t depth state a ≢ Locks l)
    → HolderFits bus t depth (applied state (chosen a) (effect_of t depth state a)) next → Alike holder next
    → ((e : Entry) → holder ≡ HeldBetween e → chosen a ≡ e.core.0 → (effect_of t depth state a).commits ≡ [])
    → Goes bus t depth state (chosen a) holder (acts (effect_of t depth state a) next)
acts-goes bus t depth state a holder next stores n fits like none =
    let f : Effect = effect_of t depth state a in
    let plain = choice-plain t depth state a (stores (chosen a)) n in
    record {
      choices = a ∷ [];
      counted = as_flat a refl (own-count t depth state a (no-load-part (chosen a) (access_of t depth state a) f.commits plain)) refl;
      now = refl;
      commits = λ ys. moved-plain (chosen a) (access_of t depth state a) holder f.commits ys plain
          ∙ ap (λ z. f.commits ++ z) (like.same (put_together ys))
          ∙ ap (λ z. z ++ moved next (put_together ys)) (sym (append-nil f.commits));
      goes_on = λ ys end b. plain-on (chosen a) (access_of t depth state a) holder f.commits plain none ys end (like.back ys end b);
      stores = choice-stores t depth state a stores;
      holds = fits;
    }

-- nothing is written where a locked instruction has read
abbrev Spares : Litmus → ℕ → State → Choice → Holder → Type 0
Spares t depth state a (HeldBetween e) = (l : Loc) → access_of t depth state a ≡ Writes l → l.0 ≢ e.loc.0
Spares t depth state a _ = Unit {0}

holder-kept : (t : Litmus) (depth : ℕ) (state : State) (a : Choice) (holder : Holder)
    → AllStores state
    → HolderFits Split t depth state holder
    → IsOther holder a
    → ((l : Loc) → access_of t depth state a ≢ Locks l)
    → Spares t depth state a holder → HolderFits Split t depth (applied state (chosen a) (effect_of t depth state a)) holder
holder-kept t depth state a Free stores fits other n w = tt
holder-kept t depth state a (HeldBy choice) stores fits other n w = λ h. fits (sym (access-kept t depth state choice a fits other) ∙ h)
holder-kept t depth state a (HeldBetween e) stores fits other n w = reading-kept t depth state e a stores fits other n w

begins-goes : (t : Litmus) (depth : ℕ) (state : State) (a : Attempt) (holder : Holder)
    → AllStores state
    → HolderFits Split t depth state holder
    → IsOther holder a.choice
    → HitFits t depth state a holder → Goes Split t depth state (chosen a.choice) holder (begins t depth state a holder)
begins-goes t depth state a holder stores fits other fit =
    begins-by (λ g. Goes Split t depth state (chosen a.choice) holder g) t depth state a holder
    (λ q. asks-goes t depth state a.choice holder stores fits (needs-some what a.hits q))
    (λ q.
    acts-goes Split t depth state a.choice holder holder stores (needs-no-lock what a.hits q)
    (holder-kept t depth state a.choice holder stores fits other (needs-no-lock what a.hits q) (spares holder fits other fit q))
    (alike holder) (none holder fits other))
  where
    what : MemoryAccess
    what = access_of t depth state a.choice

    spares : (holder : Holder)
        → HolderFits Split t depth state holder
        → IsOther holder a.choice
        → HitFits t depth state a holder
        → needs_bus what a.hits ≡ false
        → Spares t depth state a.choice holder
    spares (HeldBetween e) h o f q = λ l w. elim (decide (chosen a.choice) e.core.0) [
      | inl c ↦ absurd (reader-writes-nothing t depth state e a.choice h o c l w)
      | inr n ↦ f l w (write-hits what a.hits l q w) n
    ]
    spares _ h o f q = tt

    none : (holder : Holder)
        → HolderFits Split t depth state holder
        → IsOther holder a.choice
        → (e : Entry) → holder ≡ HeldBetween e
        → chosen a.choice ≡ e.core.0
        → (effect_of t depth state a.choice).commits ≡ []
    none (HeldBetween x) h o e q c = reader-commits-nothing t depth state x a.choice h o (let s : x ≡ e = cc in rw s c)
    none _ h o e q c = absurd (let z : ⊥ = cc in z)

-- a locked instruction reads
reads-goes : (t : Litmus) (depth : ℕ) (state : State) (c : Core) (loc : Loc) → AllStores state → access_of t depth state (Step c) ≡ Locks loc
    → Goes Split t depth state c.0 (HeldBy (Step c)) (reads_first (core_of state c.0) (load_part state c.0 loc))
reads-goes t depth state c loc stores q =
    let e : Entry = load_part state c.0 loc in
    let same : applied state c.0 (record { outcome = Committed; after = core_of state c.0; commits = e ∷ [] }) ≡ state = quiet-same state c.0 Committed in
    let r : HasRead t depth state e = record { kind = refl; place = refl; access = q; word = refl } in
    record {
      choices = [];
      counted = for_bus refl refl;
      now = sym same;
      commits = λ ys. refl;
      goes_on = load-on (HeldBy (Step c)) e (λ x h. let z : ⊥ = cc in z);
      stores = subst AllStores (sym same) stores;
      holds = subst (λ z. HasRead t depth z e) (sym same) r;
    }

completes-goes : (t : Litmus) (depth : ℕ) (state : State) (a : Choice)
    → AllStores state
    → Goes Split t depth state (chosen a) (HeldBy a) (completes t depth state a (access_of t depth state a))
completes-goes t depth state a stores =
    completes-by (λ c g. Goes Split t depth state (chosen c) (HeldBy c) g) t depth state a
    (λ n.
    acts-goes Split t depth state a (HeldBy a) Free stores n tt
    (alike-free (HeldBy a) Free (λ ys. refl) (λ e h. let z : ⊥ = cc in z)) (λ e h. absurd (let z : ⊥ = cc in z)))
    (λ core loc q. reads-goes t depth state core loc stores q)

-- a locked instruction writes
writes-goes : (t : Litmus) (depth : ℕ) (state : State) (e : Entry) → AllStores state → HasRead t depth state e
    → Goes Split t depth state e.core.0 (HeldBetween e) (writes_last t depth state e)
writes-goes t depth state e stores r =
    subst (λ z. Goes Split t depth state e.core.0 (HeldBetween e) (acts (after_first (effect_of t depth z (Step e.core))) Free)) (sym as-is) whole
  where
    as-is : as_read state e ≡ state
    as-is = ap (λ m. record { memory = m; cores = state.cores }) (ap (λ v. slice_set state.memory e.loc.0 v) (sym r.word) ∙ set-get_or state.memory e.loc.0 0)

    f : Effect
    f = effect_of t depth state (Step e.core)

    p : Pairs e.core.0 state.memory e.loc (core_of state e.core.0) f
    p = choice-pair t depth state e.core.0 e.loc r.access

    y : Entry
    y = entry e.core.0 (core_of state e.core.0).place LW e.loc p.value

    parts : Parts e y
    parts = record { load = r.kind; store = record { core = refl; place = r.place; kind = refl } }

    both : f.commits ≡ e ∷ (y ∷ [])
    both = p.commits ∙ ap (λ z. z ∷ (y ∷ [])) (same-part t depth state e r)

    last : (after_first f).commits ≡ y ∷ []
    last = ap (λ z. drop 1 z) both

    memory : memory_after f.commits state.memory ≡ memory_after (after_first f).commits state.memory
    memory = ap (λ z. memory_after z state.memory) both ∙ rw r.kind refl ∙ ap (λ z. memory_after z state.memory) (sym last)

    same : applied state e.core.0 f ≡ applied state e.core.0 (after_first f)
    same = ap (λ m. record { memory = m; cores = (applied state e.core.0 f).cores }) memory

    whole : Goes Split t depth state e.core.0 (HeldBetween e) (acts (after_first f) Free)
    whole = record {
      choices = Step e.core ∷ [];
      counted = as_flat (Step e.core) refl (rw (last, p.took) refl) refl;
      now = same;
      commits = λ ys.
          ap (λ z. moved (HeldBetween e) (put_together (z ++ ys))) last
          ∙ moved-pair e y ys parts
          ∙ ap (λ z. (z ++ []) ++ put_together ys) (sym both);
      goes_on = subst (λ z. GoesOn (HeldBetween e) Free z) (sym last) (store-on e y parts);
      stores = subst AllStores same (choice-stores t depth state (Step e.core) stores);
      holds = tt;
    }

split-goes : (t : Litmus) (depth : ℕ) (state : State) (a : Attempt) (holder : Holder)
    → AllStores state
    → HolderFits Split t depth state holder
    → HitFits t depth state a holder
    → Goes Split t depth state (chosen a.choice) holder (split_effect t depth state a holder)
split-goes t depth state a holder stores fits fit =
    split-by (λ h c g. HolderFits Split t depth state h → HitFits t depth state a h → Goes Split t depth state (chosen c) h g) t depth state a holder
    (λ h other fits fit. begins-goes t depth state a h stores fits other fit) (λ asked fits fit. completes-goes t depth state asked stores)
    (λ e fits fit. writes-goes t depth state e stores fits) fits fit

-- what one choice of the flat machine commits has both parts of a locked instruction together
pub record IsWhole (xs : List Entry) : Type 0 where
  pub together : (ys : List Entry) → put_together (xs ++ ys) ≡ xs ++ put_together ys
  pub on : GoesOn Free Free xs
  pub parts : load_part_count xs ≡ 0

pub choice-whole : (t : Litmus) (depth : ℕ) (state : State) (a : Choice) → AllStores state → IsWhole (effect_of t depth state a).commits
choice-whole t depth state a stores = go (access_of t depth state a) refl
  where
    plain : ((l : Loc) → access_of t depth state a ≢ Locks l) → IsWhole (effect_of t depth state a).commits
    plain n =
        let f : Effect = effect_of t depth state a in
        let p = choice-plain t depth state a (stores (chosen a)) n in
        record {
          together = λ ys. moved-plain (chosen a) (access_of t depth state a) Free f.commits ys p;
          on = plain-on (chosen a) (access_of t depth state a) Free f.commits p (λ e h. absurd (let z : ⊥ = cc in z));
          parts = no-load-part (chosen a) (access_of t depth state a) f.commits p;
        }

    pair : (a : Choice) (loc : Loc) → access_of t depth state a ≡ Locks loc → IsWhole (effect_of t depth state a).commits
    pair (Step c) loc q =
        let p = choice-pair t depth state c.0 loc q in
        let x : Entry = load_part state c.0 loc in
        let y : Entry = entry c.0 (core_of state c.0).place LW loc p.value in
        let parts : Parts x y = record { load = refl; store = record { core = refl; place = refl; kind = refl } } in
        subst IsWhole (sym p.commits) (record { together = λ ys. together-pair x y ys parts; on = pair-on x y parts; parts = refl })
    pair (Drain c) loc q = absurd (drain-no-lock (core_of state c.0).pending loc q)

    go : (what : MemoryAccess) → access_of t depth state a ≡ what → IsWhole (effect_of t depth state a).commits
    go (Locks loc) q = pair a loc q
    go _ q = plain (λ l h. let z : ⊥ = cc in z)

-- so on the atomic bus
atomic-goes : (t : Litmus) (depth : ℕ) (state : State) (a : Choice)
    → AllStores state
    → Goes Atomic t depth state (chosen a) Free (acts (effect_of t depth state a) Free)
atomic-goes t depth state a stores =
    let w = choice-whole t depth state a stores in
    record {
      choices = a ∷ [];
      counted = as_flat a refl (own-count t depth state a w.parts) refl;
      now = refl;
      commits = λ ys. w.together ys ∙ ap (λ z. z ++ put_together ys) (sym (append-nil (effect_of t depth state a).commits));
      goes_on = w.on;
      stores = choice-stores t depth state a stores;
      holds = tt;
    }

pub choice-goes : (bus : Bus) (t : Litmus) (depth : ℕ) (state : BusState) (a : Attempt)
    → AllStores state.flat
    → HolderFits bus t depth state.flat state.holder
    → HitFits t depth state.flat a state.holder
    → Goes bus t depth state.flat (chosen a.choice) state.holder (effect_on bus t depth state a)
choice-goes Split t depth state a stores fits fit = split-goes t depth state.flat a state.holder stores fits fit
choice-goes Atomic t depth state a stores fits fit = go state.holder fits
  where
    go : (holder : Holder)
        → HolderFits Atomic t depth state.flat holder
        → Goes Atomic t depth state.flat (chosen a.choice) holder (acts (effect_of t depth state.flat a.choice) holder)
    go Free h = atomic-goes t depth state.flat a.choice stores
    go _ h = absurd h

-- ---- choices one after the other

after-append : (t : Litmus) (depth : ℕ) (state : State) (xs ys : List Choice)
    → state_after t depth state (xs ++ ys) ≡ state_after t depth (state_after t depth state xs) ys
after-append t depth state [] ys = refl
after-append t depth state (x ∷ xs) ys = after-append t depth (after_choice t depth state x) xs ys

commits-append : (t : Litmus) (depth : ℕ) (state : State) (xs ys : List Choice)
    → commits_of t depth state (xs ++ ys)
    ≡ commits_of t depth state xs ++ commits_of t depth (state_after t depth state xs) ys
commits-append t depth state [] ys = refl
commits-append t depth state (x ∷ xs) ys =
    ap (λ z. (effect_of t depth state x).commits ++ z) (commits-append t depth (after_choice t depth state x) xs ys)
    ∙ sym (append_assoc (effect_of t depth state x).commits _ _)

-- some choices, followed by choices of the flat machine
pub record Follows (bus : Bus) (t : Litmus) (depth : ℕ) (begin : BusState) (commits : List Entry) (end : BusState) : Type 0 where
  pub choices : List Choice
  pub now : state_after t depth begin.flat choices ≡ end.flat
  pub committed : moved begin.holder (put_together commits) ≡ commits_of t depth begin.flat choices ++ waiting end.holder
  pub to_come : IsToCome begin.holder end.holder commits
  pub stores : AllStores end.flat
  pub holds : HolderFits bus t depth end.flat end.holder

rests : (bus : Bus) (t : Litmus) (depth : ℕ) (state : BusState)
    → AllStores state.flat
    → HolderFits bus t depth state.flat state.holder
    → Follows bus t depth state [] state
rests bus t depth state stores fits = record {
  choices = [];
  now = refl;
  committed = go state.holder;
  to_come = record { answered = λ e q. q; paired = tt };
  stores = stores;
  holds = fits;
}
  where
    go : (holder : Holder) → moved holder [] ≡ waiting holder
    go Free = refl
    go _ = refl

follows-on : (bus : Bus) (t : Litmus) (depth : ℕ) (state : BusState) (a : Attempt) (commits : List Entry) (end : BusState)
    → Goes bus t depth state.flat (chosen a.choice) state.holder (effect_on bus t depth state a)
    → Follows bus t depth (after_on bus t depth state a) commits end → Follows bus t depth state ((effect_on bus t depth state a).effect.commits ++ commits) end
follows-on bus t depth state a commits end g h =
    let next : State = (after_on bus t depth state a).flat in
    record {
      choices = g.choices ++ h.choices;
      now = after-append t depth state.flat g.choices h.choices ∙ ap (λ z. state_after t depth z h.choices) g.now ∙ h.now;
      committed = g.commits commits ∙ ap (λ z. commits_of t depth state.flat g.choices ++ z) h.committed
          ∙ sym (append_assoc (commits_of t depth state.flat g.choices) (commits_of t depth next h.choices) (waiting end.holder))
          ∙ ap (λ z. (commits_of t depth state.flat g.choices ++ commits_of t depth z h.choices) ++ waiting end.holder) (sym g.now)
          ∙ ap (λ z. z ++ waiting end.holder) (sym (commits-append t depth state.flat g.choices h.choices));
      to_come = g.goes_on commits end.holder h.to_come;
      stores = h.stores;
      holds = h.holds;
    }

-- all choices, made one after the other
pub all-follow : (bus : Bus) (t : Litmus) (depth : ℕ) (state : BusState) (attempts : List Attempt)
    → AllStores state.flat
    → HolderFits bus t depth state.flat state.holder
    → HitsFit bus t depth state attempts
    → Follows bus t depth state (commits_on bus t depth state attempts) (state_on bus t depth state attempts)
all-follow bus t depth state [] stores fits hits = rests bus t depth state stores fits
all-follow bus t depth state (a ∷ rest) stores fits hits =
    let g = choice-goes bus t depth state a stores fits hits.0 in
    follows-on bus t depth state a (commits_on bus t depth (after_on bus t depth state a) rest) (state_on bus t depth (after_on bus t depth state a) rest) g
    (all-follow bus t depth (after_on bus t depth state a) rest g.stores g.holds hits.1)
