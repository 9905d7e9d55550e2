-- What a choice does to its core's pending stores, whatever holds the bus.
use Rattle.trace_report.proofs.Vocabulary.{◌≡◌, ◌∙◌, ℕ, zero, suc, ◌+◌, nat_lt, List, [], ◌∷◌, ◌++◌, length, drop, Option, Some, None}
use Rattle.trace_report.proofs.Vocabulary.{refl, sym, ap, arith, length-append, Litmus, action_of, CoreState, State, Effect}
use Rattle.trace_report.proofs.Vocabulary.{is_none_pending, stored, effect_by, effect_of, core_of, chosen, next_of, Attempt, as_read}
use Rattle.trace_report.proofs.Vocabulary.{after_first, BusState, effect_on, Bus, Instr, Action, Store, Fence, Lock, Entry, Choice, Step}
use Rattle.trace_report.proofs.Vocabulary.{Drain, Outcome, Committed, Buffered, Stalled, Stall, committed_at, waited_before, if-by}
use Rattle.trace_report.proofs.Vocabulary.{effect-by, drain_with, step_of}

-- nothing became pending, a store did, or the oldest was drained
pub data Form (choice : Choice) (s : CoreState) (f : Effect) : Type 0 where
  still : f.after.pending ≡ s.pending
      → waited_before f.outcome choice (length s.pending) ≡ length s.pending
      → committed_at f.outcome f.commits ≡ f.commits
      → Form choice s f
  grown : (e : Entry) → f.after.pending ≡ s.pending ++ e ∷ [] → f.outcome ≡ Buffered → f.commits ≡ [] → Form choice s f
  shrunk : (core : ℕ) (e : Entry) → s.pending ≡ e ∷ f.after.pending → f.outcome ≡ Committed → choice ≡ Drain (record { 0 = core }) → Form choice s f

stored-form : (depth : ℕ) (choice : Choice) (core : ℕ) (s : CoreState) (e : Entry) → choice ≡ Step (record { 0 = core }) → Form choice s (stored depth s e)
stored-form zero choice core s e q = still refl (rw q refl) refl
stored-form (suc n) choice core s e q =
    if-by (Form choice s) (nat_lt (length s.pending) (suc n)) _ _ (λ room. grown e refl refl refl) (λ full. still refl refl refl)

step-form : (depth core : ℕ) (memory : List ℕ) (i : Option Instr) (s : CoreState) → Form (Step (record { 0 = core })) s (step_of depth memory core i s)
step-form depth core memory None s = still refl refl refl
step-form depth core memory (Some x) s = by_action (action_of x)
  where
    by_action : (a : Action) → Form (Step (record { 0 = core })) s (effect_by depth memory core a s)
    by_action (Store loc operand) = stored-form depth _ core s _ refl
    by_action Fence = if-by (Form _ s) (is_none_pending s.pending) _ _ (λ none. still refl refl refl) (λ some. still refl refl refl)
    by_action (Lock loc reg update) = if-by (Form _ s) (is_none_pending s.pending) _ _ (λ none. still refl refl refl) (λ some. still refl refl refl)
    by_action _ = still refl refl refl

drain-form : (core : ℕ) (s : CoreState) (q : List Entry) → s.pending ≡ q → Form (Drain (record { 0 = core })) s (drain_with s q)
drain-form core s [] h = still refl refl refl
drain-form core s (p ∷ ps) h = shrunk core p h refl refl

-- of the flat machine
pub flat-form : (t : Litmus) (depth : ℕ) (state : State) (a : Choice) → Form a (core_of state (chosen a)) (effect_of t depth state a)
flat-form t depth state (Step core) = step-form depth core.0 state.memory (next_of t state core.0) (core_of state core.0)
flat-form t depth state (Drain core) = drain-form core.0 (core_of state core.0) (core_of state core.0).pending refl

first-off : (o : Outcome) (es : List Entry) → committed_at o es ≡ es → committed_at o (drop 1 es) ≡ drop 1 es
first-off Committed es h = refl
first-off _ es h = ap (drop 1) h

after-first-form : (a : Choice) (s : CoreState) (f : Effect) → Form a s f → Form a s (after_first f)
after-first-form a s f (still same waited quiet) = still same waited (first-off f.outcome f.commits quiet)
after-first-form a s f (grown e more is none) = grown e more is (ap (drop 1) none)
after-first-form a s f (shrunk core e less is drain) = shrunk core e less is drain

-- on either bus
pub effect-form : (bus : Bus) (t : Litmus) (depth : ℕ) (state : BusState) (a : Attempt)
    → Form a.choice (core_of state.flat (chosen a.choice)) (effect_on bus t depth state a).effect
effect-form bus t depth state a =
    effect-by (λ c f. Form c (core_of state.flat (chosen c)) f) bus t depth state a (λ needs. still refl refl refl)
    (λ needs. still refl refl refl) (flat-form t depth state.flat) (λ core loc q. still refl refl refl)
    (λ e. after-first-form (Step e.core) (core_of state.flat e.core.0) _ (flat-form t depth (as_read state.flat e) (Step e.core)))

-- ---- what waited before it, and what came

pub drop-all : (es : List Entry) → drop (length es) es ≡ []
drop-all [] = refl
drop-all (e ∷ es) = drop-all es

drop-more : (e : Entry) (es : List Entry) → drop (length (e ∷ es)) es ≡ []
drop-more e [] = refl
drop-more e (x ∷ xs) = drop-more x xs

pub waited-is : (choice : Choice) (s : CoreState) (f : Effect) → Form choice s f → waited_before f.outcome choice (length f.after.pending) ≡ length s.pending
waited-is choice s f (still same waited quiet) = ap (λ es. waited_before f.outcome choice (length es)) same ∙ waited
waited-is choice s f (grown e more is none) =
    let size : length f.after.pending ≡ length s.pending + 1 = ap length more ∙ length-append s.pending (e ∷ []) in
    ap (λ o. waited_before o choice (length f.after.pending)) is ∙ (omega arith)
waited-is choice s f (shrunk core e less is drain) =
    let size : length s.pending ≡ length f.after.pending + 1 = ap length less ∙ (omega arith) in
    ap (λ o. waited_before o choice (length f.after.pending)) is ∙ (ap (λ c. waited_before Committed c (length f.after.pending)) drain ∙ sym size)

-- a choice that stalls commits nothing, and nothing becomes pending
pub record Rests (s : CoreState) (f : Effect) : Type 0 where
  pub commits : f.commits ≡ []
  pub pending : f.after.pending ≡ s.pending

pub stall-rests : (choice : Choice) (s : CoreState) (f : Effect) (why : Stall) → f.outcome ≡ Stalled why → Form choice s f → Rests s f
stall-rests choice s f why q (still same waited quiet) = record { commits = sym quiet ∙ ap (λ o. committed_at o f.commits) q; pending = same }
stall-rests choice s f why q (grown e more is none) = absurd (let z : ⊥ = cc in z)
stall-rests choice s f why q (shrunk core e less is drain) = absurd (let z : ⊥ = cc in z)

-- the entries that a choice names, where it has committed, are those that it commits
named : (o : Outcome) (es more : List Entry) → committed_at o es ≡ es → (o ≡ Committed → more ≡ []) → committed_at o (es ++ more) ≡ es
named Committed es more h none = ap (λ ms. es ++ ms) (none refl) ∙ nothing es
  where
    nothing : (xs : List Entry) → xs ++ [] ≡ xs
    nothing [] = refl
    nothing (x ∷ xs) = ap (λ ys. x ∷ ys) (nothing xs)
named _ es more h none = h

pub named-is : (choice : Choice) (s : CoreState) (f : Effect)
    → Form choice s f
    → committed_at f.outcome (f.commits ++ drop (length s.pending) f.after.pending) ≡ f.commits
named-is choice s f (still same waited quiet) =
    named f.outcome f.commits (drop (length s.pending) f.after.pending) quiet (λ is. ap (drop (length s.pending)) same ∙ drop-all s.pending)
named-is choice s f (grown e more is none) =
    named f.outcome f.commits (drop (length s.pending) f.after.pending)
    (ap (λ o. committed_at o f.commits) is ∙ sym none) (λ other. absurd (let z : ⊥ = cc in z))
named-is choice s f (shrunk core e less is drain) =
    named f.outcome f.commits (drop (length s.pending) f.after.pending) (ap (λ o. committed_at o f.commits) is)
    (λ other. ap (λ es. drop (length es) f.after.pending) less ∙ drop-more e f.after.pending)

-- where the core isn't there, it stays as it was
pub nothing-new : (choice : Choice) (s : CoreState) (f : Effect)
    → Form choice s f
    → committed_at f.outcome (f.commits ++ drop (length s.pending) s.pending) ≡ f.commits
nothing-new choice s f form = named f.outcome f.commits (drop (length s.pending) s.pending) (quiet-form form) (λ is. drop-all s.pending)
  where
    quiet-form : Form choice s f → committed_at f.outcome f.commits ≡ f.commits
    quiet-form (still same waited quiet) = quiet
    quiet-form (grown e more is none) = ap (λ o. committed_at o f.commits) is ∙ sym none
    quiet-form (shrunk core e less is drain) = ap (λ o. committed_at o f.commits) is
