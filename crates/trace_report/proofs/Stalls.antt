-- A choice that stalled: nothing else is told of it.
use Rattle.trace_report.proofs.Vocabulary.{◌≡◌, ◌⊎◌, inl, inr, ◌∙◌, ℕ, Bool, true, false, if◌then◌else◌, List, [], ◌++◌, length, drop}
use Rattle.trace_report.proofs.Vocabulary.{Option, Some, None, refl, sym, ap, Litmus, action_of, CoreState, State, effect_by, effect_of}
use Rattle.trace_report.proofs.Vocabulary.{core_of, chosen, MemoryAccess, NoAccess, access_by, step_access, access_of, next_of, Attempt}
use Rattle.trace_report.proofs.Vocabulary.{needs_bus, as_read, BusState, effect_on, Bus, Instr, Action, Move, Entry, Choice, Step, Drain}
use Rattle.trace_report.proofs.Vocabulary.{Outcome, Moved, Stalled, Stall, Caches, is_awaited, used_between, Running, machine_use}
use Rattle.trace_report.proofs.Vocabulary.{machine_after, Unused, states_of, changes_in, is_forwarded, access_kind_in, sent_by, left_in}
use Rattle.trace_report.proofs.Vocabulary.{written_line, among, number_of_lines, moved_at, moved_by, moved_from, buffer_if_changed}
use Rattle.trace_report.proofs.Vocabulary.{stores_on, stalled_step, step_of, effect-by, needs-some}
use Rattle.machine_core.specs.Running as running
use Rattle.trace_report.specs.Steps as steps
use Rattle.trace_report.specs.Supplied.{reads_from, source_in, supplied_by}
use Rattle.trace_report.specs.declared.supplied.Source.{Source}
use Rattle.trace_report.proofs.Effects.{stall-rests, drop-all}
use Rattle.trace_report.proofs.Whole.{form-of, same-fields, same-test, unchanged}

-- ---- where a move is next, the core moves

-- a core at this instruction moves no value to a register, or this outcome is that it moved
abbrev Moves : Option Instr → Outcome → Type 0
Moves i o = ((registers : List ℕ) → moved_at i registers ≡ None) ⊎ (o ≡ Moved)

abbrev pub MovesBy : Litmus → ℕ → Choice → Outcome → Type 0
MovesBy t place choice o = ((registers : List ℕ) → moved_from t place choice registers ≡ None) ⊎ (o ≡ Moved)

step-moves : (depth core : ℕ) (memory : List ℕ) (i : Option Instr) (s : CoreState) → Moves i (step_of depth memory core i s).outcome
step-moves depth core memory None s = inl (λ registers. refl)
step-moves depth core memory (Some x) s = by_action (action_of x)
  where
    by_action : (a : Action) → ((registers : List ℕ) → moved_by a registers ≡ None) ⊎ ((effect_by depth memory core a s).outcome ≡ Moved)
    by_action (Move change) = inr refl
    by_action _ = inl (λ registers. refl)

flat-moves : (t : Litmus) (depth : ℕ) (state : State) (a : Choice) → MovesBy t (core_of state (chosen a)).place a (effect_of t depth state a).outcome
flat-moves t depth state (Step core) = step-moves depth core.0 state.memory (next_of t state core.0) (core_of state core.0)
flat-moves t depth state (Drain core) = inl (λ registers. refl)

-- a move makes no access
no-move : (depth : ℕ) (i : Option Instr) (pending : List Entry) (registers : List ℕ)
    → (step_access depth i pending ≡ NoAccess → ⊥)
    → moved_at i registers ≡ None
no-move depth None pending registers some = refl
no-move depth (Some x) pending registers some = by_action (action_of x) some
  where
    by_action : (a : Action) → (access_by depth a pending ≡ NoAccess → ⊥) → moved_by a registers ≡ None
    by_action (Move change) some = absurd (some refl)
    by_action _ some = refl

no-move-at : (t : Litmus) (depth : ℕ) (state : State) (a : Choice) (registers : List ℕ)
    → (access_of t depth state a ≡ NoAccess → ⊥)
    → moved_from t (core_of state (chosen a)).place a registers ≡ None
no-move-at t depth state (Step core) registers some = no-move depth (next_of t state core.0) (core_of state core.0).pending registers some
no-move-at t depth state (Drain core) registers some = refl

pub effect-moves : (bus : Bus) (t : Litmus) (depth : ℕ) (state : BusState) (a : Attempt)
    → MovesBy t (core_of state.flat (chosen a.choice)).place a.choice (effect_on bus t depth state a).effect.outcome
effect-moves bus t depth state a =
    effect-by (λ c f. MovesBy t (core_of state.flat (chosen c)).place c f.outcome) bus t depth state a
    (λ needs. inl (unmoved needs)) (λ needs. inl (unmoved needs)) (flat-moves t depth state.flat)
    (λ core loc q. inl (λ registers. no-move-at t depth state.flat (Step core) registers (λ none. let z : ⊥ = cc in z)))
    (λ e. flat-moves t depth (as_read state.flat e) (Step e.core))
  where
    unmoved : needs_bus (access_of t depth state.flat a.choice) a.hits ≡ true
        → (registers : List ℕ) → moved_from t (core_of state.flat (chosen a.choice)).place a.choice registers ≡ None
    unmoved needs registers = no-move-at t depth state.flat a.choice registers (needs-some (access_of t depth state.flat a.choice) a.hits needs)

-- a stall moves nothing
stall-moves : (t : Litmus) (place : ℕ) (choice : Choice) (o : Outcome) (why : Stall) (registers : List ℕ)
    → o ≡ Stalled why
    → MovesBy t place choice o
    → moved_from t place choice registers ≡ None
stall-moves t place choice o why registers q (inl none) = none registers
stall-moves t place choice o why registers q (inr is) = absurd (let z : ⊥ = cc in z)

-- ---- nor does it use the caches, or send anything

used-alike : (b : Bool) (c : Caches) (core : ℕ) (what : MemoryAccess) (pending : List Entry) → (used_between b b c core what pending []).how ≡ Unused
used-alike true c core what pending = refl
used-alike false c core what pending = refl

unused : (before after : Bool) (c : Caches) (core : ℕ) (what : MemoryAccess) (pending commits : List Entry) → after ≡ before → commits ≡ []
    → (used_between before after c core what pending commits).how ≡ Unused
unused before after c core what pending commits same none =
    ap (λ b. (used_between before b c core what pending commits).how) same
    ∙ (ap (λ es. (used_between before before c core what pending es).how) none
    ∙ used-alike before c core what pending)

-- a choice that stalled and changed nothing doesn't use the caches
stall-unused : (m : Running) (choice : Choice) (why : Stall)
    → machine_after m choice ≡ m
    → (running.machine_effect m choice).effect.outcome ≡ Stalled why
    → (machine_use m choice).how ≡ Unused
stall-unused m choice why same stalls =
    let f = running.machine_effect m choice in
    let rests = stall-rests choice (core_of m.state.flat (chosen choice)) f.effect why stalls (form-of m choice) in
    unused (is_awaited m.state.holder) (is_awaited f.holder) m.statistics.caches (chosen choice)
    (access_of m.test m.depth m.state.flat choice) (core_of m.state.flat (chosen choice)).pending f.effect.commits
    (ap (λ (n : Running). is_awaited n.state.holder) same) rests.commits

-- so it reads no word
none-read : (b : Bool) (o : Option Source) → o ≡ None → None ≡ (if b then o else None)
none-read true o is = sym is
none-read false o is = refl

pub stall-source : (m : Running) (choice : Choice) (why : Stall)
    → machine_after m choice ≡ m
    → (running.machine_effect m choice).effect.outcome ≡ Stalled why
    → None ≡ supplied_by m choice
stall-source m choice why same stalls =
    none-read (reads_from m.test (core_of m.state.flat (chosen choice)).place choice)
    (source_in (machine_use m choice).how) (ap source_in (stall-unused m choice why same stalls))

-- what a choice did that stalled and changed nothing
pub stall-shown : (m : Running) (choice : Choice) (why : Stall) → machine_after m choice ≡ m → (running.machine_effect m choice).effect.outcome ≡ Stalled why
    → stalled_step choice why ≡ steps.trace_step_of m choice
unfolding steps.trace_step_of
stall-shown m choice why same stalls =
    let f = running.machine_effect m choice in
    let core = chosen choice in
    let end = machine_after m choice in
    let rests = stall-rests choice (core_of m.state.flat core) f.effect why stalls (form-of m choice) in
    let stores : stores_on end choice ≡ stores_on m choice = ap (λ (n : Running). stores_on n choice) same in
    let how = stall-unused m choice why same stalls in
    let changes : changes_in (states_of m) (states_of end) ≡ [] = ap (λ (n : Running). changes_in (states_of m) (states_of n)) same ∙ unchanged (states_of m) in
    sym (same-fields choice _ _ _ _ _ _ _ _ _ _ _ _ _ _ _ _ _ _ _ _ stalls
    (ap (λ es. es ++ drop (length (stores_on m choice)) (stores_on end choice)) rests.commits
    ∙ (ap (λ es. drop (length (stores_on m choice)) es) stores ∙ drop-all (stores_on m choice)))
    (stall-moves m.test (core_of m.state.flat core).place choice f.effect.outcome why (core_of end.state.flat core).registers stalls
    (effect-moves m.bus m.test m.depth m.state (running.attempt_on m choice)))
    (ap is_forwarded how) (ap access_kind_in how) (ap (λ h. (sent_by h).request) how) (ap (λ h. (sent_by h).flushed) how)
    (ap (λ h. among (number_of_lines m) (written_line (left_in h))) how) changes
    (ap (λ es. buffer_if_changed (length (stores_on m choice)) es) stores ∙ rw (same-test (length (stores_on m choice))) refl))
