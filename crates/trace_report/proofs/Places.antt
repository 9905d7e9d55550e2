-- Each location and line that a step names is one of the test's.
use Rattle.trace_report.proofs.Vocabulary.{◌≡◌, ◌∙◌, ℕ, zero, suc, ◌+◌, ◌*◌, ◌/◌, ◌<◌, ◌≤◌, nat_lt, List, [], ◌∷◌, length, Option, Some}
use Rattle.trace_report.proofs.Vocabulary.{None, IfSome, All, slice_get, slice_index, slice_index_or, sym, subst, arith, inl, inr, div_ceil}
use Rattle.trace_report.proofs.Vocabulary.{div_ceil_times, div-mul-le_self, mul-le-mul_right, add-mul, All-nil, All-cons, All-head}
use Rattle.trace_report.proofs.Vocabulary.{All-tail, All-push, All-drop, Litmus, IsTest, IsProgram, KnownLocation, action_of, location_of}
use Rattle.trace_report.proofs.Vocabulary.{entry, fence, value_of, updated, CoreState, State, Effect, is_none_pending, stored}
use Rattle.trace_report.proofs.Vocabulary.{effect_by, effect_of, core_of, chosen, program_of, applied, start, MemoryAccess, NoAccess, Reads}
use Rattle.trace_report.proofs.Vocabulary.{Writes, Locks, access_of, next_of, access_by, step_access, load_access, locked_access}
use Rattle.trace_report.proofs.Vocabulary.{store_access, drain_access, filter, writes_to, Attempt, load_part, as_read, BusState, effect_on}
use Rattle.trace_report.proofs.Vocabulary.{Bus, Instr, Loc, Action, Store, Load, Move, Fence, Lock, Entry, Kind, R, W, F, LR, LW, Choice}
use Rattle.trace_report.proofs.Vocabulary.{Step, Drain, HasLocation, IsLocationFor, core-cases, starts-idle, IsAt, IsLine, AreStoresKnown}
use Rattle.trace_report.proofs.Vocabulary.{if-by, effect-by, drain_with, load_value, step_of}

-- ---- entries

pub at-place : (t : Litmus) (e : Entry) → IsAt t e → HasLocation t e
at-place t e h = by_kind e.kind
  where
    by_kind : (k : Kind) → IsLocationFor t k e.loc.0
    by_kind F = tt
    by_kind _ = h

-- what a choice commits and what is pending at its core afterwards
pub record Places (t : Litmus) (f : Effect) : Type 0 where
  pub commits : All (HasLocation t) f.commits
  pub pending : All (IsAt t) f.after.pending

one : (t : Litmus) (e : Entry) → HasLocation t e → All (HasLocation t) (e ∷ [])
one t e h = All-cons (HasLocation t) e [] h (All-nil (HasLocation t))

none : (t : Litmus) → All (HasLocation t) []
none t = All-nil (HasLocation t)

-- the location of an instruction, if it has one, and of an access
abbrev pub ActionKnown : Litmus → Action → Type 0
ActionKnown t a = IfSome (location_of a) (λ loc. loc.0 < length t.locations)

abbrev pub AccessKnown : Litmus → MemoryAccess → Type 0
AccessKnown t NoAccess = Unit {0}
AccessKnown t (Reads loc) = loc.0 < length t.locations
AccessKnown t (Writes loc) = loc.0 < length t.locations
AccessKnown t (Locks loc) = loc.0 < length t.locations

stored-places : (t : Litmus) (depth : ℕ) (s : CoreState) (e : Entry) → IsAt t e → All (IsAt t) s.pending → Places t (stored depth s e)
stored-places t zero s e at h = record { commits = one t e (at-place t e at); pending = h }
stored-places t (suc n) s e at h =
    if-by (Places t) (nat_lt (length s.pending) (suc n)) _ _
    (λ room. record { commits = none t; pending = All-push (IsAt t) s.pending e h at })
    (λ full. record { commits = none t; pending = h })

action-places : (t : Litmus) (depth core : ℕ) (memory : List ℕ) (a : Action) (s : CoreState)
    → ActionKnown t a
    → All (IsAt t) s.pending
    → Places t (effect_by depth memory core a s)
action-places t depth core memory (Store loc operand) s k h = stored-places t depth s (entry core s.place W loc (value_of s.registers operand)) k h
action-places t depth core memory (Load reg loc) s k h = record { commits = one t (entry core s.place R loc (load_value memory s loc.0)) k; pending = h }
action-places t depth core memory (Move change) s k h = record { commits = none t; pending = h }
action-places t depth core memory Fence s k h =
    if-by (Places t) (is_none_pending s.pending) _ _
    (λ q. record { commits = one t (fence core s.place) tt; pending = h })
    (λ q. record { commits = none t; pending = h })
action-places t depth core memory (Lock loc reg update) s k h =
    let e = entry core s.place LR loc (slice_index memory loc.0) in
    let wrote = entry core s.place LW loc (updated update s.registers (slice_index memory loc.0)) in
    if-by (Places t) (is_none_pending s.pending) _ _
    (λ q. record { commits = All-cons (HasLocation t) e (wrote ∷ []) k (one t wrote k); pending = h })
    (λ q. record { commits = none t; pending = h })

-- an instruction of the test
known-in : (t : Litmus) (is : List Instr) (k : ℕ) → All (KnownLocation (length t.locations)) is → IfSome (slice_get is k) (KnownLocation (length t.locations))
known-in t [] k h = tt
known-in t (i ∷ is) zero h = All-head (KnownLocation (length t.locations)) i is h
known-in t (i ∷ is) (suc k) h = known-in t is k (All-tail (KnownLocation (length t.locations)) i is h)

known-program : (t : Litmus) (ps : List (List Instr)) (core : ℕ)
    → All (IsProgram (length t.locations)) ps
    → All (KnownLocation (length t.locations)) (slice_index_or ps core [])
known-program t [] core h = All-nil (KnownLocation (length t.locations))
known-program t (p ∷ ps) zero h = (All-head (IsProgram (length t.locations)) p ps h).locations_known
known-program t (p ∷ ps) (suc core) h = known-program t ps core (All-tail (IsProgram (length t.locations)) p ps h)

known-next : (t : Litmus) (state : State) (core : ℕ) → IsTest t → IfSome (next_of t state core) (KnownLocation (length t.locations))
known-next t state core test = known-in t (program_of t core) (core_of state core).place (known-program t t.programs core test.programs_fit)

step-places : (t : Litmus) (depth core : ℕ) (memory : List ℕ) (i : Option Instr) (s : CoreState)
    → IfSome i (KnownLocation (length t.locations))
    → All (IsAt t) s.pending
    → Places t (step_of depth memory core i s)
step-places t depth core memory None s k h = record { commits = none t; pending = h }
step-places t depth core memory (Some i) s k h = action-places t depth core memory (action_of i) s k h

drain-places : (t : Litmus) (s : CoreState) (q : List Entry) → All (IsAt t) s.pending → All (IsAt t) q → Places t (drain_with s q)
drain-places t s [] h k = record { commits = none t; pending = h }
drain-places t s (p ∷ ps) h k = record {
  commits = one t p (at-place t p (All-head (IsAt t) p ps k));
  pending = All-tail (IsAt t) p ps k;
}

flat-places : (t : Litmus) (depth : ℕ) (state : State) (a : Choice) → IsTest t → AreStoresKnown t state → Places t (effect_of t depth state a)
flat-places t depth state (Step core) test h =
    step-places t depth core.0 state.memory (next_of t state core.0) (core_of state core.0) (known-next t state core.0 test) (h core.0)
flat-places t depth state (Drain core) test h = drain-places t (core_of state core.0) (core_of state core.0).pending (h core.0) (h core.0)

-- ---- accesses

load-known : (t : Litmus) (loc : Loc) (q : List Entry) → loc.0 < length t.locations → AccessKnown t (load_access loc q)
load-known t loc [] k = k
load-known t loc (p ∷ ps) k = tt

locked-known : (t : Litmus) (loc : Loc) (q : List Entry) → loc.0 < length t.locations → AccessKnown t (locked_access loc q)
locked-known t loc [] k = k
locked-known t loc (p ∷ ps) k = tt

store-known : (t : Litmus) (depth : ℕ) (loc : Loc) → loc.0 < length t.locations → AccessKnown t (store_access depth loc)
store-known t zero loc k = k
store-known t (suc n) loc k = tt

action-known : (t : Litmus) (depth : ℕ) (a : Action) (q : List Entry) → ActionKnown t a → AccessKnown t (access_by depth a q)
action-known t depth (Store loc operand) q k = store-known t depth loc k
action-known t depth (Load reg loc) q k = load-known t loc (filter (writes_to loc.0) q) k
action-known t depth (Lock loc reg update) q k = locked-known t loc q k
action-known t depth _ q k = tt

step-known : (t : Litmus) (depth : ℕ) (i : Option Instr) (q : List Entry)
    → IfSome i (KnownLocation (length t.locations))
    → AccessKnown t (step_access depth i q)
step-known t depth None q k = tt
step-known t depth (Some i) q k = action-known t depth (action_of i) q k

drain-known : (t : Litmus) (q : List Entry) → All (IsAt t) q → AccessKnown t (drain_access q)
drain-known t [] h = tt
drain-known t (p ∷ ps) h = All-head (IsAt t) p ps h

pub access-known : (t : Litmus) (depth : ℕ) (state : State) (a : Choice) → IsTest t → AreStoresKnown t state → AccessKnown t (access_of t depth state a)
access-known t depth state (Step core) test h = step-known t depth (next_of t state core.0) (core_of state core.0).pending (known-next t state core.0 test)
access-known t depth state (Drain core) test h = drain-known t (core_of state core.0).pending (h core.0)

-- ---- on either bus

pub effect-places : (bus : Bus) (t : Litmus) (depth : ℕ) (state : BusState) (a : Attempt)
    → IsTest t
    → AreStoresKnown t state.flat
    → Places t (effect_on bus t depth state a).effect
effect-places bus t depth state a test h =
    effect-by (λ c f. Places t f) bus t depth state a
    (λ needs. record { commits = none t; pending = h (chosen a.choice) })
    (λ needs. record { commits = none t; pending = h (chosen a.choice) })
    (λ c. flat-places t depth state.flat c test h)
    (λ core loc q.
    record {
      commits =
          one t (load_part state.flat core.0 loc) (subst (AccessKnown t) q (access-known t depth state.flat (Step core) test h));
      pending = h core.0;
    })
    (λ e. (
    let p = flat-places t depth (as_read state.flat e) (Step e.core) test h in
    record { commits = All-drop (HasLocation t) 1 (effect_of t depth (as_read state.flat e) (Step e.core)).commits p.commits; pending = p.pending }))

pub stores-next : (t : Litmus) (state : State) (core : ℕ) (f : Effect)
    → AreStoresKnown t state
    → All (IsAt t) f.after.pending
    → AreStoresKnown t (applied state core f)
stores-next t state core f h p k = elim (core-cases state core k f) [
  | inl q ↦ subst (λ (s : CoreState). All (IsAt t) s.pending) (sym q.2) p
  | inr q ↦ subst (λ (s : CoreState). All (IsAt t) s.pending) (sym q) (h k)
]

pub stores-first : (t : Litmus) → AreStoresKnown t (start t)
stores-first t k = subst (All (IsAt t)) (sym (starts-idle 0 t.programs t.registers k).1) (All-nil (IsAt t))

-- ---- lines

pub line-at : (t : Litmus) (words loc : ℕ) → 0 < words → loc < length t.locations → IsLine t words (loc / words)
line-at t words loc some within = record { some = some; begins = let below = div-mul-le_self loc words in omega arith }

pub line-within : (t : Litmus) (words line : ℕ) → 0 < words → line < div_ceil (length t.locations) words → IsLine t words line
line-within t words line some within =
    let most = (div_ceil_times (length t.locations) words some).1 in
    let fits : (line + 1) * words ≤ div_ceil (length t.locations) words * words =
    mul-le-mul_right words (let l : line + 1 ≤ div_ceil (length t.locations) words = omega arith in l) in
    let apart : (line + 1) * words ≡ line * words + words = add-mul line 1 words ∙ (omega arith) in
    record { some = some; begins = omega arith }
