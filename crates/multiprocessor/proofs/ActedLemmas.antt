-- What an action of one core does, from what the calls in it say.
use Rattle.multiprocessor.proofs.Vocabulary.{◌≡◌, ◌++◌, ℕ, List, [], ◌∷◌, map, drop, Some, slice_get, append-nil, refl, sym, ap, ◌∙◌, subst}
use Rattle.multiprocessor.proofs.Vocabulary.{MemoryAccess, NoAccess, Writes, drain_access, Core, CoreState, Effect, stalled, memory_after}
use Rattle.multiprocessor.proofs.Vocabulary.{Outcome, Committed, Stalled, Pending, Noted, BusModel, words_of, Processor, Unused, Through}
use Rattle.multiprocessor.proofs.Vocabulary.{Way, Whole, Asked, Turn, store_of, core_state, pending_in, effect_of_drain, MayMakeBy, MayMake}
use Rattle.multiprocessor.proofs.Vocabulary.{HasAsked, HasActed, Waits, IsMade, IsStored, drain_with, true}
use Rattle.tso_terms.specs.declared.choice.Stall.{Stall}
use Rattle.store_buffer.specs.Stores.{Stores}
use Rattle.multiprocessor.proofs.Acting.{writes-oldest}
use Rattle.multiprocessor.proofs.CacheUses.{rests}
use Rattle.snoop_bus.specs.declared.access.AccessReport as bus_report

-- only a load and a store are ever completed
pub whole-by : (way : Way) (b : BusModel) (core : Core) (what : MemoryAccess) → (HasAsked b core what → ⊥) → MayMakeBy way b core what → way ≡ Whole
whole-by Whole b core what never may = refl
whole-by Asked b core what never may = absurd (never may)

pub whole-none : (turn : Turn) (b : BusModel) (what : MemoryAccess) → what ≡ NoAccess → MayMake turn b what → turn.way ≡ Whole
whole-none turn b what none may = whole-by turn.way b turn.core what (λ asked. subst (HasAsked b turn.core) none asked) may

-- what waits in its core
pub acts-waits : (way : Way) (what : MemoryAccess) (core : ℕ) (p q : Processor) (b : BusModel) (noted : Noted)
    (f : Effect) (answer : Outcome)
    → way ≡ Whole
    → Waits core q f answer
    → HasActed way what core p q b b noted noted f (answer, Unused)
acts-waits way what core p q b noted f answer whole waits =
    subst (λ w. HasActed w what core p q b b noted noted f (answer, Unused)) (sym whole) (record {
      outcome = waits.outcome;
      after = waits.after;
      words = ap (λ es. memory_after es (words_of b)) (sym waits.commits);
      commits = sym (append-nil noted.entries) ∙ ap (λ es. noted.entries ++ es) (sym waits.commits);
      caches = rests b (pending_in core p) f.commits waits.commits;
      holder = refl;
    })

pub acts-stalls : (way : Way) (what : MemoryAccess) (core : ℕ) (p : Processor) (b : BusModel) (noted : Noted)
    (f : Effect) (why : Stall)
    → way ≡ Whole
    → stalled why (core_state core p) ≡ f
    → HasActed way what core p p b b noted noted f (Stalled why, Unused)
acts-stalls way what core p b noted f why whole e =
    acts-waits way what core p p b noted f (Stalled why) whole (record {
      outcome = ap (λ g. g.outcome) e;
      after = ap (λ g. g.after) e;
      commits = ap (λ g. g.commits) (sym e);
    })

-- the oldest pending store
drained : (core : ℕ) (s : CoreState) (items : List Pending) (store : Pending)
    → Some store ≡ slice_get items 0
    → drain_with s (map (store_of core) items) ≡ record {
      outcome = Committed;
      after = record { place = s.place; registers = s.registers; pending = map (store_of core) (drop 1 items) };
      commits = store_of core store ∷ [];
    }
drained core s [] store h = absurd (let z : ⊥ = cc in z)
drained core s (x ∷ xs) store h =
    let e : store ≡ x = cc in
    ap (λ (y : Pending). record {
      outcome = Committed;
      after = record { place = s.place; registers = s.registers; pending = map (store_of core) xs };
      commits = store_of core y ∷ [];
    }) (sym e)

pub acts-drains : (turn : Turn) (p : Processor) (left : Stores) (b b' : BusModel) (noted noted' : Noted)
    (store : Pending) (report : bus_report.AccessReport)
    → Some store ≡ slice_get p.stores.items 0
    → left.items ≡ drop 1 p.stores.items → IsStored turn.core.0 store b b' noted noted' → IsMade turn true store.loc b b' report
    → HasActed turn.way (drain_access (pending_in turn.core.0 p)) turn.core.0 p
    (record { place = p.place; registers = p.registers; stores = left }) b b' noted noted'
    (effect_of_drain turn.core.0 p (words_of b)) (Committed, Through report)
acts-drains turn p left b b' noted noted' store report h rest stored_is made =
    let core : ℕ = turn.core.0 in
    let f : Effect = record {
      outcome = Committed;
      after = record { place = p.place; registers = p.registers; pending = map (store_of core) (drop 1 p.stores.items) };
      commits = store_of core store ∷ [];
    } in
    let q : Processor = record { place = p.place; registers = p.registers; stores = left } in
    let all : HasActed turn.way (Writes store.loc) core p q b b' noted noted' f (Committed, Through report) = record {
      outcome = refl;
      after = ap (λ items. record { place = p.place; registers = p.registers; pending = map (store_of core) items }) rest;
      words = stored_is.words;
      commits = stored_is.commits;
      caches = made.caches;
      holder = made.holder;
    } in
    subst (λ g.
    HasActed turn.way (drain_access (pending_in core p)) core p q b b' noted noted' g (Committed, Through report))
    (sym (drained core (core_state core p) p.stores.items store h))
    (subst (λ a. HasActed turn.way a core p q b b' noted noted' f (Committed, Through report)) (writes-oldest core p.stores.items store h) all)
