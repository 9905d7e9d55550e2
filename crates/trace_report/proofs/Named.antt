-- The lines and stores that a step names are the test's.
use Rattle.trace_report.proofs.Vocabulary.{ℕ, zero, suc, ◌+◌, ◌/◌, ◌<◌, ◌≤◌, Bool, true, false, ◌==◌, ◌≡◌, nat_lt, if◌then◌else◌, refl}
use Rattle.trace_report.proofs.Vocabulary.{List, [], ◌∷◌, length, Option, Some, None, IfSome, All, option_map, arith, All-nil, All-cons}
use Rattle.trace_report.proofs.Vocabulary.{All-head, All-tail, All-append, nat_tests, list_any, writes_to, Litmus, MemoryAccess, NoAccess}
use Rattle.trace_report.proofs.Vocabulary.{Entry, Kind, R, F, LW, HasLocation, IsLocationFor, Table, table_of_rows, Transient, SmD, Awaited}
use Rattle.trace_report.proofs.Vocabulary.{asked_for, completed, completed_in, whole_in, request_for, requesting, Caches, Running, CacheUse}
use Rattle.trace_report.proofs.Vocabulary.{Forwarded, Through, at_access, not_through, whole_by, use_by_kind, use_of, used_between, IsAt}
use Rattle.trace_report.proofs.Vocabulary.{IsLine, sent_by, line_states, placed_states_from, number_of_lines, states_of, number_of_state}
use Rattle.trace_report.proofs.Vocabulary.{change_of, changes_in, among, buffer_if_changed, StateChange, PlacedState, cases_Bool, inl, inr}
use Rattle.multiprocessor.specs.Caches.{ask_by, completion_by}
use Rattle.multiprocessor.specs.declared.accesses.CacheUse.TheVariants as uses
use Rattle.protocol_tables.specs.declared.state.State.{State}
use Rattle.trace_report.proofs.Places.{AccessKnown, line-at, line-within}

-- ---- requests

module _ (t : Litmus) (c : Caches) (some : 0 < c.shape.words) where
  -- a request that is told is for one of the test's lines
  abbrev pub IsKnownSent : CacheUse → Type 0
  IsKnownSent how = IfSome (sent_by how).request (λ q. IsLine t c.shape.words q.line)

  whole-sent : (table : Table) (write : Bool) (core line : ℕ) (copy next : Option State)
      → IsLine t c.shape.words line
      → IsKnownSent (Through (whole_in table write core line c.contents copy next).report)
  unfolding requesting
  whole-sent table write core line copy (Some next) k = tt
  whole-sent table write core line copy None k = k

  whole-known : (core loc : ℕ) (write : Bool) → loc < length t.locations → IsKnownSent (whole_by c core loc write).how
  whole-known core loc write k = whole-sent (table_of_rows c.rows) write core (loc / c.shape.words) _ _ (line-at t c.shape.words loc some k)

  completed-known : (core loc : ℕ) → IsKnownSent (completion_by c core loc).how
  completed-known core loc = by_awaited c.awaited
    where
      by_transient : (y : Transient) (x : Awaited)
          → IsKnownSent (Through (completed_in (table_of_rows c.rows) core (loc / c.shape.words) y x.state x.flushed c.contents).report)
      by_transient SmD x = tt
      by_transient _ x = tt

      by_awaited : (w : Option Awaited) → IsKnownSent (Through (completed (table_of_rows c.rows) core (loc / c.shape.words) w c.contents).report)
      by_awaited None = tt
      by_awaited (Some x) = by_transient x.transient x

  asked-known : (core loc : ℕ) (write : Bool) → loc < length t.locations → IsKnownSent (ask_by c core loc write).how
  unfolding requesting
  asked-known core loc write k = by_transient (asked_for (request_for write) core (loc / c.shape.words) c.contents)
    where
      by_transient : (o : Option Transient)
          → IsKnownSent (uses.Asked (option_map (requesting (table_of_rows c.rows) (request_for write) (loc / c.shape.words) c.contents) o))
      by_transient None = tt
      by_transient (Some x) = line-at t c.shape.words loc some k

  committed-known : (pending commits : List Entry) → All (HasLocation t) commits → IsKnownSent (use_of c pending commits).how
  committed-known pending [] k = tt
  committed-known pending (e ∷ es) k = by_kind e.kind (All-head (HasLocation t) e es k)
    where
      by_kind : (kind : Kind) → IsLocationFor t kind e.loc.0 → IsKnownSent (use_by_kind c pending e kind).how
      by_kind R at =
          elim (list_any (writes_to e.loc.0) pending) as (λ b.
          IsKnownSent (if b then not_through Forwarded c else whole_by c e.core.0 e.loc.0 false).how) [
            | true ↦ tt
            | false ↦ whole-known e.core.0 e.loc.0 false at
          ]
      by_kind F at = tt
      by_kind LW at = tt
      by_kind _ at = whole-known e.core.0 e.loc.0 true at

  pub sent-known : (core : ℕ) (before after : Bool) (what : MemoryAccess) (pending commits : List Entry) → AccessKnown t what → All (HasLocation t) commits
      → IsKnownSent (used_between before after c core what pending commits).how
  sent-known core false true NoAccess pending commits k all = tt
  sent-known core false true what pending commits k all = asked-known core _ (at_access false (λ loc write. write) what) k
  sent-known core true false NoAccess pending commits k all = tt
  sent-known core true false _ pending commits k all = completed-known core _
  sent-known core false false what pending commits k all = committed-known pending commits all
  sent-known core true true what pending commits k all = committed-known pending commits all

-- ---- states and changes

abbrev pub IsOnLine : Litmus → ℕ → PlacedState → Type 0
IsOnLine t words p = IsLine t words p.line

lines-known : (m : Running) (core line count : ℕ)
    → 0 < m.statistics.caches.shape.words
    → line + count ≤ number_of_lines m
    → All (IsOnLine m.test m.statistics.caches.shape.words) (line_states m core line count)
lines-known m core line zero some within = All-nil (IsOnLine m.test m.statistics.caches.shape.words)
lines-known m core line (suc count) some within =
    All-cons (IsOnLine m.test m.statistics.caches.shape.words) _ (line_states m core (line + 1) count)
    (line-within m.test m.statistics.caches.shape.words line some (let h : line < number_of_lines m = omega arith in h))
    (lines-known m core (line + 1) count some (omega arith))

cores-known : (m : Running) (core count : ℕ)
    → 0 < m.statistics.caches.shape.words
    → All (IsOnLine m.test m.statistics.caches.shape.words) (placed_states_from m core count)
cores-known m core zero some = All-nil (IsOnLine m.test m.statistics.caches.shape.words)
cores-known m core (suc count) some =
    All-append (IsOnLine m.test m.statistics.caches.shape.words) (line_states m core 0 (number_of_lines m)) (placed_states_from m (core + 1) count)
    (lines-known m core 0 (number_of_lines m) some (omega arith)) (cores-known m (core + 1) count some)

pub states-known : (m : Running) → 0 < m.statistics.caches.shape.words → All (IsOnLine m.test m.statistics.caches.shape.words) (states_of m)
states-known m some = cores-known m 0 (length m.test.programs) some

abbrev pub IsChangeOnLine : Litmus → ℕ → StateChange → Type 0
IsChangeOnLine t words c = IsLine t words c.line

change-known : (t : Litmus) (words : ℕ) (b a : PlacedState) → IsOnLine t words b → All (IsChangeOnLine t words) (change_of b a)
change-known t words b a k = elim (cases_Bool (number_of_state b.state == number_of_state a.state)) [
  | inl is ↦ rw is (All-nil (IsChangeOnLine t words))
  | inr is ↦ rw is (All-cons (IsChangeOnLine t words) _ [] k (All-nil (IsChangeOnLine t words)))
]

pub changes-known : (t : Litmus) (words : ℕ) (befores afters : List PlacedState)
    → All (IsOnLine t words) befores
    → All (λ (c : StateChange). IsLine t words c.line) (changes_in befores afters)
changes-known t words [] afters k = All-nil (IsChangeOnLine t words)
changes-known t words (b ∷ bs) [] k = All-nil (IsChangeOnLine t words)
changes-known t words (b ∷ bs) (a ∷ rest) k =
    All-append (IsChangeOnLine t words) (change_of b a) (changes_in bs rest) (change-known t words b a (All-head (IsOnLine t words) b bs k))
    (changes-known t words bs rest (All-tail (IsOnLine t words) b bs k))

-- ---- the line that is written back

pub written-back-known : (m : Running) (line : Option ℕ)
    → 0 < m.statistics.caches.shape.words
    → IfSome (among (number_of_lines m) line) (IsLine m.test m.statistics.caches.shape.words)
written-back-known m None some = tt
written-back-known m (Some line) some = by_test (nat_lt line (number_of_lines m)) refl
  where
    by_test : (b : Bool) → nat_lt line (number_of_lines m) ≡ b → IfSome (if b then Some line else None) (IsLine m.test m.statistics.caches.shape.words)
    by_test true q = line-within m.test m.statistics.caches.shape.words line some (let h : line < number_of_lines m = grind (arith, nat_tests, q) in h)
    by_test false q = tt

-- ---- the buffer

pub buffer-known : (t : Litmus) (waited : ℕ) (pending : List Entry) → All (IsAt t) pending → IfSome (buffer_if_changed waited pending) (All (IsAt t))
buffer-known t waited pending k = elim (cases_Bool (length pending == waited)) [ inl is ↦ rw is tt | inr is ↦ rw is k ]
