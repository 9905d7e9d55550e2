-- What a step tells of its core: the registers that were moved, the pending stores, and why it stalled.
use Rattle.trace_report.proofs.Vocabulary.{arith, ◌≡◌, ◌≢◌, ◌∙◌, ◌⊎◌, ◌≤◌, ◌+◌, ◌==◌, ℕ, zero, suc, Bool, true, false, nat_lt}
use Rattle.trace_report.proofs.Vocabulary.{if◌then◌else◌, List, [], ◌∷◌, length, slice_index, slice_set, Option, Some, None, inl, inr, refl}
use Rattle.trace_report.proofs.Vocabulary.{sym, ap, subst, length-append, get_or-set_same, get_or_past, nat_tests, length-set, lt-or}
use Rattle.trace_report.proofs.Vocabulary.{Litmus, action_of, CoreState, State, Effect, idle, is_none_pending, stalled, stored, effect_by}
use Rattle.trace_report.proofs.Vocabulary.{effect_of, core_of, chosen, applied, access_of, next_of, Holder, Free, HeldBy, Attempt}
use Rattle.trace_report.proofs.Vocabulary.{needs_bus, asks, as_read, split_effect, BusState, effect_on, Bus, Atomic, Split, Core, Instr}
use Rattle.trace_report.proofs.Vocabulary.{Action, Store, Load, Move, Fence, Lock, Entry, Choice, Step, Drain, Outcome, Moved, Stalled}
use Rattle.trace_report.proofs.Vocabulary.{Stall, Running, machine_after, attempt_on, stall_name, moved_by, moved_at, moved_from}
use Rattle.trace_report.proofs.Vocabulary.{buffer_if_changed, with_moved, pending_told, CoresAreTold, IsWordOfStall, done, full, lock}
use Rattle.trace_report.proofs.Vocabulary.{empty, IsHeldByOther, IsWordOfStallOn, flat, bus, StallsAreTold, if-by, effect-by, split-by}
use Rattle.trace_report.proofs.Vocabulary.{begins-by, completes-by, drain_with, IsOther, cases_Bool, step_of, after_choice}
use Rattle.tso_terms.specs.Registers.{index_of}
use Rattle.tso_terms.specs.declared.choice.Stall.TheVariants as stall
use Rattle.machine_core.specs.Running.{machine_effect as effect_made}
use Rattle.trace_report.specs.Steps as steps
use Rattle.trace_report.specs.declared.step.Moved as move
use Rattle.trace_report.specs.declared.step.Moved.TheVariants.{One, Both}
use Rattle.trace_report.specs.Steps.{given_by_move}
use Rattle.tso_terms.specs.Thread.{value_in, changed, updated}
use Rattle.basic_laws.specs.Types.{Change, Keep, Set, Swap}
use Rattle.trace_report.specs.StepLaws.{fence}
use Rattle.trace_report.proofs.Effects.{Form, still, grown, shrunk}
use Rattle.trace_report.proofs.Stalls.{MovesBy, effect-moves}
use Rattle.trace_report.proofs.Whole.{form-of}

-- ---- the core after its choice

-- it is as the effect leaves it, if there is such a core
core-after : (state : State) (core : ℕ) (f : Effect)
    → (core_of (applied state core f) core ≡ f.after)
    ⊎ ((core_of (applied state core f) core ≡ idle) × (core_of state core ≡ idle))
core-after state core f = elim (lt-or (length state.cores) core) [
  | inl l ↦ inl (get_or-set_same state.cores core f.after idle l)
  | inr past ↦
      inr (
        get_or_past (slice_set state.cores core f.after) core idle (subst (λ n. n ≤ core) (sym (length-set state.cores core f.after)) past),
        get_or_past state.cores core idle past,
      )
]

-- ---- the register

-- what is written into a register is what it holds then, or there is no such register
kept-value : (registers : List ℕ) (n value : ℕ) → slice_set registers n (slice_index (slice_set registers n value) n) ≡ slice_set registers n value
kept-value [] n value = refl
kept-value (r ∷ rs) zero value = refl
kept-value (r ∷ rs) (suc n) value = ap (λ l. r ∷ l) (kept-value rs n value)

-- the same of two registers
kept-both : (registers : List ℕ) (n k value other : ℕ)
    → slice_set (slice_set registers n (slice_index (slice_set (slice_set registers n value) k other) n)) k
    (slice_index (slice_set (slice_set registers n value) k other) k) ≡ slice_set (slice_set registers n value) k other
kept-both [] n k value other = refl
kept-both (r ∷ rs) zero zero value other = refl
kept-both (r ∷ rs) zero (suc k) value other = ap (λ l. value ∷ l) (kept-value rs k other)
kept-both (r ∷ rs) (suc n) zero value other = ap (λ l. other ∷ l) (kept-value rs n value)
kept-both (r ∷ rs) (suc n) (suc k) value other = ap (λ l. r ∷ l) (kept-both rs n k value other)

-- a stall is no move
not-when : (s : CoreState) (why : Stall) (f : Effect) (b : Bool) → f.outcome ≢ Moved → (if b then f else stalled why s).outcome ≢ Moved
not-when s why f b h = if-by (λ (g : Effect). g.outcome ≢ Moved) b f (stalled why s) (λ q. h) (λ q is. let z : ⊥ = cc in z)

-- of a core with this state before it
abbrev MovesTo : (List ℕ → Option move.Moved) → CoreState → Effect → Type 0
MovesTo told s f = f.outcome ≡ Moved → f.after.registers ≡ with_moved (told f.after.registers) s.registers

abbrev MovesToBy : Litmus → State → Choice → Effect → Type 0
MovesToBy t state a f = MovesTo (moved_from t (core_of state (chosen a)).place a) (core_of state (chosen a)) f

not-stored : (depth : ℕ) (s : CoreState) (e : Entry) → (stored depth s e).outcome ≢ Moved
not-stored zero s e = λ q. let z : ⊥ = cc in z
not-stored (suc n) s e = not-when s _ _ (nat_lt (length s.pending) (suc n)) (λ q. let z : ⊥ = cc in z)

step-moves-to : (depth core : ℕ) (memory : List ℕ) (i : Option Instr) (s : CoreState) → MovesTo (moved_at i) s (step_of depth memory core i s)
step-moves-to depth core memory None s = λ q. absurd (let z : ⊥ = cc in z)
step-moves-to depth core memory (Some x) s = by_action (action_of x)
  where
    given : (change : Change) → changed change s.registers ≡ with_moved (given_by_move change (changed change s.registers)) s.registers
    given Keep = refl
    given (Set reg update) = sym (kept-value s.registers (index_of reg) (updated update s.registers (value_in s.registers reg)))
    given (Swap reg other) =
        sym (kept-both s.registers (index_of reg) (index_of other) (value_in s.registers other) (value_in s.registers reg))

    by_action : (a : Action) → MovesTo (moved_by a) s (effect_by depth memory core a s)
    by_action (Store loc operand) = λ q. absurd (not-stored depth s _ q)
    by_action (Load reg loc) = λ q. absurd (let z : ⊥ = cc in z)
    by_action (Move change) = λ q. given change
    by_action _ = λ q. absurd (not-when s _ _ (is_none_pending s.pending) (λ z. (let y : ⊥ = cc in y)) q)

flat-moves-to : (t : Litmus) (depth : ℕ) (state : State) (a : Choice) → MovesToBy t state a (effect_of t depth state a)
flat-moves-to t depth state (Step core) = step-moves-to depth core.0 state.memory (next_of t state core.0) (core_of state core.0)
flat-moves-to t depth state (Drain core) = λ q. absurd (drained (core_of state core.0).pending q)
  where
    drained : (pending : List Entry) → (drain_with (core_of state core.0) pending).outcome ≢ Moved
    drained [] q = let z : ⊥ = cc in z
    drained (p ∷ ps) q = let z : ⊥ = cc in z

moves-to : (on : Bus) (t : Litmus) (depth : ℕ) (state : BusState) (a : Attempt) → MovesToBy t state.flat a.choice (effect_on on t depth state a).effect
moves-to on t depth state a =
    effect-by (MovesToBy t state.flat) on t depth state a (λ needs q. absurd (let z : ⊥ = cc in z))
    (λ needs q. absurd (let z : ⊥ = cc in z)) (flat-moves-to t depth state.flat)
    (λ core loc read q. absurd (let z : ⊥ = cc in z)) (λ e. flat-moves-to t depth (as_read state.flat e) (Step e.core))

-- where there is no such core, nothing is there to be moved
no-core : (t : Litmus) (a : Choice) (s r : CoreState) (n : ℕ) → s ≡ idle → r ≡ idle → r.registers ≡ with_moved (moved_from t n a r.registers) s.registers
no-core t a s r n one two =
    ap (λ (c : CoreState). c.registers) two
    ∙ (sym (nothing (moved_from t n a r.registers))
    ∙ sym (ap (λ (c : CoreState). with_moved (moved_from t n a r.registers) c.registers) one))
  where
    nothing : (o : Option move.Moved) → with_moved o [] ≡ []
    nothing None = refl
    nothing (Some (One g)) = refl
    nothing (Some (Both g h)) = refl

moved-told : (m : Running) (choice : Choice) → (effect_made m choice).effect.outcome ≡ Moved
    → (core_of (machine_after m choice).state.flat (chosen choice)).registers
    ≡ with_moved (moved_from m.test (core_of m.state.flat (chosen choice)).place choice
    (core_of (machine_after m choice).state.flat (chosen choice)).registers)
    (core_of m.state.flat (chosen choice)).registers
moved-told m choice q = elim (core-after m.state.flat (chosen choice) (effect_made m choice).effect) [
  | inl is ↦
      subst (λ (c : CoreState).
      c.registers ≡ with_moved (moved_from m.test (core_of m.state.flat (chosen choice)).place choice c.registers)
      (core_of m.state.flat (chosen choice)).registers)
      (sym is)
      (moves-to m.bus m.test m.depth m.state (attempt_on m choice) q)
  | inr none ↦ no-core m.test choice (core_of m.state.flat (chosen choice)) _ (core_of m.state.flat (chosen choice)).place none.1 none.0
]

unmoved-told : (t : Litmus) (place : ℕ) (choice : Choice) (o : Outcome) (registers : List ℕ)
    → o ≢ Moved
    → MovesBy t place choice o
    → moved_from t place choice registers ≡ None
unmoved-told t place choice o registers n (inl none) = none registers
unmoved-told t place choice o registers n (inr is) = absurd (n is)

-- ---- the pending stores

-- as many as before are the same as before
same-many : (choice : Choice) (s : CoreState) (f : Effect) → Form choice s f → length f.after.pending ≡ length s.pending → f.after.pending ≡ s.pending
same-many choice s f (still same waited quiet) q = same
same-many choice s f (grown e more is none) q =
    let longer : length f.after.pending ≡ length s.pending + 1 = ap length more ∙ length-append s.pending (e ∷ []) in absurd (let z : ⊥ = omega arith in z)
same-many choice s f (shrunk core e less is drain) q =
    let longer : length s.pending ≡ suc (length f.after.pending) = ap length less in absurd (let z : ⊥ = omega arith in z)

told-stores : (before after : List Entry)
    → (length after ≡ length before → after ≡ before)
    → after ≡ pending_told (buffer_if_changed (length before) after) before
told-stores before after h = elim (cases_Bool (length after == length before)) [ inl q ↦ rw q (h (grind (arith, nat_tests))) | inr q ↦ rw q refl ]

buffer-told : (m : Running) (choice : Choice) → (core_of (machine_after m choice).state.flat (chosen choice)).pending
    ≡ pending_told (buffer_if_changed (length (core_of m.state.flat (chosen choice)).pending)
    (core_of (machine_after m choice).state.flat (chosen choice)).pending)
    (core_of m.state.flat (chosen choice)).pending
buffer-told m choice =
    told-stores (core_of m.state.flat (chosen choice)).pending
    (core_of (machine_after m choice).state.flat (chosen choice)).pending
    (elim (core-after m.state.flat (chosen choice) (effect_made m choice).effect) [
      | inl is ↦ λ q.
          ap (λ (c : CoreState). c.pending) is
          ∙ same-many choice (core_of m.state.flat (chosen choice)) (effect_made m choice).effect (form-of m choice)
          (sym (ap (λ (c : CoreState). length c.pending) is) ∙ q)
      | inr none ↦ λ q. ap (λ (c : CoreState). c.pending) (none.0 ∙ sym none.1)
    ])

pub cores-told : (m : Running) (choice : Choice) → CoresAreTold m choice
unfolding steps.trace_step_of
cores-told m choice = record {
  moved = moved-told m choice;
  unmoved = λ n.
      unmoved-told m.test (core_of m.state.flat (chosen choice)).place choice (effect_made m choice).effect.outcome _ n
      (effect-moves m.bus m.test m.depth m.state (attempt_on m choice));
  buffer = buffer-told m choice;
  flat = λ atomic.
      subst (λ b.
      applied m.state.flat (chosen choice) (effect_on b m.test m.depth m.state (attempt_on m choice)).effect
      ≡ after_choice m.test m.depth m.state.flat choice)
      (sym atomic) refl;
}

-- ---- stalls

same-reason : (one two : Stall) → Stalled one ≡ Stalled two → one ≡ two
same-reason one two q = cc

-- a stall of this reason, where that one is told
told-as : (t : Litmus) (depth : ℕ) (state : State) (a : Choice) (is why : Stall)
    → Stalled is ≡ Stalled why
    → IsWordOfStall t depth state (stall_name is) a
    → IsWordOfStall t depth state (stall_name why) a
told-as t depth state a is why q h = subst (λ w. IsWordOfStall t depth state (stall_name w) a) (same-reason is why q) h

not-empty : (q : List Entry) → is_none_pending q ≡ false → q ≢ []
not-empty [] h e = let z : ⊥ = cc in z
not-empty (p ∷ ps) h e = let z : ⊥ = cc in z

is-empty : (q : List Entry) → is_none_pending q ≡ true → q ≡ []
is-empty [] h = refl
is-empty (p ∷ ps) h = absurd (let z : ⊥ = cc in z)

stored-full : (depth : ℕ) (s : CoreState) (e : Entry) (why : Stall)
    → (stored depth s e).outcome ≡ Stalled why
    → (Stalled stall.Full ≡ Stalled why) × (depth ≤ length s.pending)
stored-full zero s e why q = absurd (let z : ⊥ = cc in z)
stored-full (suc n) s e why q =
    if-by (λ (f : Effect). f.outcome ≡ Stalled why → (Stalled stall.Full ≡ Stalled why) × (suc n ≤ length s.pending)) (nat_lt (length s.pending) (suc n)) _ _
    (λ room q. absurd (let z : ⊥ = cc in z)) (λ full q. (q, grind (arith, nat_tests))) q

-- an effect that isn't a stall, or a stall for this reason where something is pending
waits-for : (s : CoreState) (is why : Stall) (f : Effect) (b : Bool)
    → (f.outcome ≡ Stalled why → ⊥)
    → (if b then f else stalled is s).outcome ≡ Stalled why
    → (Stalled is ≡ Stalled why) × (b ≡ false)
waits-for s is why f true h q = absurd (h q)
waits-for s is why f false h q = (q, refl)

step-word : (t : Litmus) (depth : ℕ) (state : State) (core : Core) (memory : List ℕ) (why : Stall) (i : Option Instr) → next_of t state core.0 ≡ i
    → (step_of depth memory core.0 i (core_of state core.0)).outcome ≡ Stalled why → IsWordOfStall t depth state (stall_name why) (Step core)
step-word t depth state core memory why None next q = told-as t depth state (Step core) stall.Done why q (done core next)
step-word t depth state core memory why (Some x) next q = by_action (action_of x) refl q
  where
    s : CoreState
    s = core_of state core.0

    by_action : (a : Action)
        → action_of x ≡ a
        → (effect_by depth memory core.0 a s).outcome ≡ Stalled why
        → IsWordOfStall t depth state (stall_name why) (Step core)
    by_action (Store loc operand) is h =
        let r = stored-full depth s _ why h in
        told-as t depth state (Step core) stall.Full why r.0 (full core x loc operand next is r.1)
    by_action Fence is h =
        let r = waits-for s stall.Fence why _ (is_none_pending s.pending) (λ z. (let y : ⊥ = cc in y)) h in
        told-as t depth state (Step core) stall.Fence why r.0 (fence core x next is (not-empty s.pending r.1))
    by_action (Lock loc reg update) is h =
        let r = waits-for s stall.Lock why _ (is_none_pending s.pending) (λ z. (let y : ⊥ = cc in y)) h in
        told-as t depth state (Step core) stall.Lock why r.0 (lock core x loc reg update next is (not-empty s.pending r.1))
    by_action _ is h = absurd (let z : ⊥ = cc in z)

flat-word : (t : Litmus) (depth : ℕ) (state : State) (a : Choice) (why : Stall)
    → (effect_of t depth state a).outcome ≡ Stalled why
    → IsWordOfStall t depth state (stall_name why) a
flat-word t depth state (Step core) why q = step-word t depth state core state.memory why (next_of t state core.0) refl q
flat-word t depth state (Drain core) why q =
    if-by (λ (f : Effect). f.outcome ≡ Stalled why → IsWordOfStall t depth state (stall_name why) (Drain core))
    (is_none_pending (core_of state core.0).pending) _ _
    (λ none h.
    told-as t depth state (Drain core) stall.Empty why h (empty core (is-empty (core_of state core.0).pending none)))
    (λ some h. absurd (let z : ⊥ = cc in z)) q

-- on a split bus
data WordBy (t : Litmus) (depth : ℕ) (state : State) (c : Choice) (hits : Bool) (holder : Holder) (why : Stall) : Type 0 where
  alone : IsWordOfStall t depth state (stall_name why) c → WordBy t depth state c hits holder why
  waits : Stalled stall.Bus ≡ Stalled why → IsHeldByOther holder c → needs_bus (access_of t depth state c) hits ≡ true → WordBy t depth state c hits holder why

split-word : (t : Litmus) (depth : ℕ) (state : State) (a : Attempt) (holder : Holder) (why : Stall)
    → (split_effect t depth state a holder).effect.outcome ≡ Stalled why
    → WordBy t depth state a.choice a.hits holder why
split-word t depth state a holder why =
    split-by (λ h c g. g.effect.outcome ≡ Stalled why → WordBy t depth state c a.hits h why) t depth state a holder
    (λ h other.
    begins-by (λ g. g.effect.outcome ≡ Stalled why → WordBy t depth state a.choice a.hits h why) t depth state a h
    (by_holder h other) (λ q z. alone (flat-word t depth state a.choice why z)))
    (λ asked. (
    completes-by
    (λ c g. g.effect.outcome ≡ Stalled why → WordBy t depth state c a.hits (HeldBy c) why) t depth state asked
    (λ n z. alone (flat-word t depth state asked why z))
    (λ core loc q z. absurd (let y : ⊥ = cc in y))
    )) (λ e z. alone (step-word t depth state e.core (as_read state e).memory why (next_of t state e.core.0) refl z))
  where
    by_holder : (h : Holder)
        → IsOther h a.choice
        → needs_bus (access_of t depth state a.choice) a.hits ≡ true
        → (asks (core_of state (chosen a.choice)) a.choice h).effect.outcome ≡ Stalled why
        → WordBy t depth state a.choice a.hits h why
    by_holder Free other q z = absurd (let y : ⊥ = cc in y)
    by_holder _ other q z = waits z other q

pub stalls-told : (m : Running) (choice : Choice) → StallsAreTold m choice
unfolding steps.trace_step_of
stalls-told m choice why q = by_bus m.bus refl q
  where
    by_bus : (b : Bus)
        → m.bus ≡ b
        → (effect_on b m.test m.depth m.state (attempt_on m choice)).effect.outcome ≡ Stalled why
        → IsWordOfStallOn m choice (stall_name why)
    by_bus Atomic is z = flat (stall_name why) (flat-word m.test m.depth m.state.flat choice why z)
    by_bus Split is z = by_word (split-word m.test m.depth m.state.flat (attempt_on m choice) m.state.holder why z)
      where
        by_word : WordBy m.test m.depth m.state.flat choice (attempt_on m choice).hits m.state.holder why → IsWordOfStallOn m choice (stall_name why)
        by_word (alone h) = flat (stall_name why) h
        by_word (waits r other needs) = subst (λ w. IsWordOfStallOn m choice (stall_name w)) (same-reason stall.Bus why r) (bus is other needs)
