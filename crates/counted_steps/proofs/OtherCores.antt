-- What a choice makes of the lines of one other core: only the line that is asked for on the bus changes, and it goes where the protocol's
-- column for the request sends it.
use Rattle.std.proofs.Common.{◌≡◌, ◌≢◌, ◌<◌, ◌≤◌, ◌==◌, inl, inr, ℕ, Bool, if◌then◌else◌, List, [], ◌∷◌, length, Option, None, Some, refl}
use Rattle.std.proofs.Common.{sym, ap, subst, ◌∙◌, arith}
use Rattle.std.proofs.lemmas.Bool.Decides.{eqb_tells}
use Rattle.std.specs.Prelude.{◌%◌, nat_eq}
use Rattle.std.specs.Map.{lookup}
use Rattle.std.specs.Option.{option_map}
use Rattle.basic_laws.proofs.Basics.{test-true}
use Rattle.tso_terms.specs.FlatMachine.{chosen}
use Rattle.basic_laws.specs.Types.{Choice}
use Rattle.protocol_tables.specs.declared.requests.Transient.{Transient}
use Rattle.protocol_tables.specs.declared.state.Snoop.{Snoop}
use Rattle.protocol_tables.specs.declared.state.State as protocol
use Rattle.protocol_tables.specs.declared.state.State.TheVariants.{I, S, E, O, M}
use Rattle.cache_set.specs.CacheTags.{TagSets, sets_of, tag_in, tags_at, requested}
use Rattle.cache_set.specs.Requests.{snoop_column}
use Rattle.snoop_bus.specs.Asks.{or_invalid, tag_at}
use Rattle.snoop_bus.specs.declared.access.BusRequest.{BusRequest}
use Rattle.multiprocessor.specs.declared.accesses.CacheUse.{CacheUse}
use Rattle.machine_core.specs.Running.{Running, machine_after, machine_use, table_in}
use Rattle.machine_core.proofs.Snooped.{left_of, requested-at, requested-beside, requested-here}
use Rattle.machine_core.proofs.Victims.{AllNeat, Lies, OfKind, found-valid}
use Rattle.trace_report.specs.StepLaws.{OthersSeeTheRequest, with_seen}
use Rattle.trace_report.specs.Steps.{line_state, number_of_lines, number_of_state, state_with}
use Rattle.trace_report.specs.declared.step.LineRequest.{LineRequest}
use Rattle.trace_report.specs.declared.step.LineState.{LineState}
use Rattle.trace_report.specs.declared.step.LineState.TheVariants as state
use Rattle.trace_report.proofs.Kept.{IsKept}
use Rattle.cache_counts.specs.Traffic.{becomes_invalid, given_up}
use Rattle.counted_steps.specs.StepSums.{is_gone}
use Rattle.counted_steps.proofs.Awaiting.{AtRest, Beside, as_before, awaits, beside, nothing}
use Rattle.counted_steps.proofs.Changes.{fallen, fell}
use Rattle.counted_steps.proofs.Copies.{given_at}
use Rattle.counted_steps.proofs.Requests.{line_request, request_made, request-told}
use Rattle.counted_steps.proofs.Sums.{sum-alone, sum-none, unless, unless-zero}

-- ---- the state of a line

fell-same : (x y : LineState) → x ≡ y → fell x y ≡ 0
fell-same x y same =
    let once : fell x x ≡ 0 = ap (λ (b : Bool). unless b (if is_gone x then 1 else 0)) (test-true (number_of_state x) (number_of_state x) refl) in
    ap (fell x) (sym same) ∙ once

fell-from : (s after : protocol.State) → s ≢ I → fell (state.Stable s) (state.Stable after) ≡ becomes_invalid after
fell-from I after valid = absurd (valid refl)
fell-from s S valid = unless-zero (number_of_state (state.Stable s) == 1)
fell-from s E valid = unless-zero (number_of_state (state.Stable s) == 2)
fell-from s O valid = unless-zero (number_of_state (state.Stable s) == 3)
fell-from s M valid = unless-zero (number_of_state (state.Stable s) == 4)
fell-from S I valid = refl
fell-from E I valid = refl
fell-from O I valid = refl
fell-from M I valid = refl

fell-by : (column : protocol.State → Snoop) (copy : Option protocol.State) → ((s : protocol.State) → copy ≡ Some s → s ≢ I)
    → fell (state.Stable (or_invalid copy)) (state.Stable (left_of column copy)) ≡ given_up column copy
fell-by column None valid = refl
fell-by column (Some s) valid = fell-from s (column s).next (valid s refl)

-- where the copy is the same
states-same : (how : CacheUse) (x y : Option Transient) (copy now : Option protocol.State) → Beside how x y → copy ≡ now → state_with x copy ≡ state_with y now
states-same how x y copy now (as_before none same) tag = ap (λ (w : Option Transient). state_with w copy) same ∙ ap (state_with y) tag
states-same how x y copy now (nothing before after) tag =
    ap (λ (w : Option Transient). state_with w copy) before ∙ (ap (state_with None) tag ∙ ap (λ (w : Option Transient). state_with w now) (sym after))

-- where it is asked for
asked-fell : (how : CacheUse) (q : BusRequest)
    → request_made how ≡ Some q
    → (x y : Option Transient) → Beside how x y
    → (column : protocol.State → Snoop) (copy now : Option protocol.State)
    → or_invalid now ≡ left_of column copy → ((s : protocol.State) → copy ≡ Some s → s ≢ I) → fell (state_with x copy) (state_with y now) ≡ given_up column copy
asked-fell how q asks x y (as_before none same) column copy now left valid = let clash : None ≡ Some q = sym none ∙ asks in absurd (let z : ⊥ = cc in z)
asked-fell how q asks x y (nothing before after) column copy now left valid =
    ap (λ (w : Option Transient). fell (state_with w copy) (state_with y now)) before
    ∙ (ap (λ (w : Option Transient). fell (state.Stable (or_invalid copy)) (state_with w now)) after
    ∙ (ap (λ (s : protocol.State). fell (state.Stable (or_invalid copy)) (state.Stable s)) left ∙ fell-by column copy valid))

-- ---- a copy is of one of the lines

found-of : (P : ℕ → protocol.State → Type 0) (line : ℕ) (s : protocol.State) (es : List (ℕ × protocol.State))
    → OfKind P es
    → lookup (nat_eq line) es ≡ Some s
    → P line s
found-of P line s [] h q = absurd (let z : ⊥ = cc in z)
found-of P line s (e ∷ es) h q = elim (eqb_tells line e.0) [
  | inl p ↦
      let found : Some e.1 ≡ Some s = rw p.0 at q in
      let same : e.1 ≡ s = cc in
      subst (λ (k : ℕ). P k s) (sym p.1) (subst (P e.0) same h.0)
  | inr p ↦
      let later : lookup (nat_eq line) es ≡ Some s = rw p.0 at q in
      found-of P line s es h.1 later
]

not-both : (a b : ℕ) → a < b → b ≤ a → ⊥
not-both a b l past = omega (arith, l, past)

copy-within : (lines line core : ℕ) (caches : List TagSets) (s : protocol.State) → AllNeat lines caches → tag_at core line caches ≡ Some s → line < lines
copy-within lines line core caches s neat q =
    let sets = sets_of caches core in
    (found-of (Lies lines (length sets) (line % length sets)) line s (tags_at sets line).tags (neat core (line % length sets)).kind q).within

-- of a line beyond those of the test there is none
none-beyond : (lines line core : ℕ) (caches : List TagSets) (column : protocol.State → Snoop)
    → AllNeat lines caches
    → lines ≤ line
    → given_at column line caches core ≡ 0
none-beyond lines line core caches column neat past = by_copy (tag_at core line caches) refl
  where
    by_copy : (o : Option protocol.State) → tag_at core line caches ≡ o → given_up column o ≡ 0
    by_copy None found = refl
    by_copy (Some s) found = absurd (not-both line lines (copy-within lines line core caches s neat found) past)

-- ---- the lines of another core

module _ (m : Running) (c : Choice) (kept : IsKept m) (quiet : AtRest m) (others : OthersSeeTheRequest m c) (core : ℕ) (apart : core ≢ chosen c) where
  abbrev next : Running
  next = machine_after m c

  abbrev contents : List TagSets
  contents = m.statistics.caches.contents

  seen : (o : Option BusRequest)
      → request_made (machine_use m c).how ≡ o
      → sets_of next.statistics.caches.contents core
      ≡ with_seen (table_in m) (option_map line_request o) (sets_of contents core)
  seen o q =
      others core apart
      ∙ ap (λ (r : Option LineRequest). with_seen (table_in m) r (sets_of contents core)) (request-told m c ∙ ap (option_map line_request) q)

  same-line : (line : ℕ)
      → tag_at core line contents ≡ tag_at core line next.statistics.caches.contents
      → fell (line_state m core line) (line_state next core line) ≡ 0
  same-line line same =
      fell-same (line_state m core line) (line_state next core line)
      (states-same (machine_use m c).how (awaits m core line) (awaits next core line) (tag_at core line contents)
      (tag_at core line next.statistics.caches.contents) (beside m c kept.sound quiet core line apart) same)

  -- where nothing is asked for
  pub none-fallen : request_made (machine_use m c).how ≡ None → fallen m next core ≡ 0
  none-fallen none =
      sum-none (λ line. fell (line_state m core line) (line_state next core line)) 0 (number_of_lines m)
      (λ line. same-line line (ap (λ (sets : TagSets). tag_in sets line) (sym (seen None none))))

  module _ (q : BusRequest) (asks : request_made (machine_use m c).how ≡ Some q) where
    abbrev column : protocol.State → Snoop
    column = snoop_column (table_in m) q.request

    seen-tag : (line : ℕ) → tag_at core line next.statistics.caches.contents ≡ tag_at core line (requested column (chosen c) q.line contents)
    seen-tag line = ap (λ (sets : TagSets). tag_in sets line) (seen (Some q) asks ∙ sym (requested-at column (chosen c) q.line contents core apart))

    other-line : (line : ℕ) → line ≢ q.line → fell (line_state m core line) (line_state next core line) ≡ 0
    other-line line beyond = same-line line (sym (seen-tag line ∙ requested-beside column (chosen c) q.line line contents core apart beyond))

    its-line : fell (line_state m core q.line) (line_state next core q.line) ≡ given_at column q.line contents core
    its-line =
        asked-fell (machine_use m c).how q asks (awaits m core q.line) (awaits next core q.line) (beside m c kept.sound quiet core q.line apart)
        column (tag_at core q.line contents) (tag_at core q.line next.statistics.caches.contents)
        (ap or_invalid (seen-tag q.line) ∙ requested-here (number_of_lines m) column (chosen c) q.line contents core (kept.neat core) apart)
        (λ s found. found-valid (number_of_lines m) q.line s (sets_of contents core) (kept.neat core) found)

    pub asked-fallen : fallen m next core ≡ given_at column q.line contents core
    asked-fallen =
        sum-alone (λ line. fell (line_state m core line) (line_state next core line)) q.line (number_of_lines m)
        (given_at column q.line contents core) other-line its-line
        (none-beyond (number_of_lines m) q.line core contents column kept.neat)
