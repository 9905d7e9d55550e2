-- What a machine holds fits its test, whatever the choices: its words are words, its pending stores and what it commits are entries
-- that an order of the test may have, and no core is past its program.
use Rattle.printed_laws.proofs.Vocabulary.{◌≡◌, ℕ, ◌<◌, Bool, true, false, List, [], ◌∷◌, ◌++◌, drop, refl, sym, subst, zero, suc, ◌≤◌}
use Rattle.printed_laws.proofs.Vocabulary.{Option, arith, inl, inr, ◌+◌, length, slice_index, All, Some, None, slice_index_or}
use Rattle.printed_laws.proofs.Vocabulary.{if◌then◌else◌, take, IfSome, nat_lt, slice_get, slice_set, Litmus, IsTest, IsProgram}
use Rattle.printed_laws.proofs.Vocabulary.{KnownLocation, ConstantIsWord, Bus, Atomic, Split, All-head, All-tail, All-cons, All-nil}
use Rattle.printed_laws.proofs.Vocabulary.{All-push, All-set, All-filter, All-drop, IsWord, AreRegisters, index_of, entry, fence, value_of}
use Rattle.printed_laws.proofs.Vocabulary.{updated, Reg, Entry, HasAccess, IsEntryFor, Choice, Drain, chosen, CoreState, State, Effect}
use Rattle.printed_laws.proofs.Vocabulary.{is_none_pending, stalled, advanced_with, stored, load_value, effect_by, idle, program_of}
use Rattle.printed_laws.proofs.Vocabulary.{core_of, effect_of, memory_after, applied, started, start, Kind, R, W, F, LR, LW, Stall}
use Rattle.printed_laws.proofs.Vocabulary.{Committed, Buffered, action_of, is_write, writes_to, MemoryAccess, Locks, access_of, Holder}
use Rattle.printed_laws.proofs.Vocabulary.{Free, HeldBy, HeldBetween, Attempt, BusEffect, same_choice, needs_bus, acts, asks, begins}
use Rattle.printed_laws.proofs.Vocabulary.{completes, as_read, writes_last, split_effect, Instr, Action, Store, Load, Move, Fence, Lock}
use Rattle.printed_laws.proofs.Vocabulary.{ActionKnown, AccessKnown, step_of, next_of}
use Rattle.std.proofs.Common.{filter}
use Rattle.tso_terms.specs.Axioms.{last_value}
use Rattle.tso_terms.specs.EitherBus.{BusState, effect_on}
use Rattle.basic_laws.specs.Types.{Step}
use Rattle.tso_terms.specs.Thread.{changed, with_taken}
use Rattle.tso_terms.specs.declared.choice.Stall.TheVariants as stall
use Rattle.basic_laws.proofs.Cores.{starts-idle}
use Rattle.tso_laws.proofs.Cores.{core-cases}
use Rattle.tso_laws.proofs.Words.{NumberIsWord, number-word, operand-word, updated-word, changed-words, taken-words}
use Rattle.printed_laws.proofs.texts.Lists.{word-at}

-- ---- entries

-- a plain store of the test
pub record PendingFits (t : Litmus) (e : Entry) : Type 0 where
  pub core : e.core.0 < 256
  pub place : e.place < 256
  pub kind : e.kind ≡ W
  pub known : e.loc.0 < length t.locations
  pub word : IsWord e.value

pub pending-entry : (t : Litmus) (e : Entry) → PendingFits t e → IsEntryFor t e
pending-entry t e p = record { core = p.core; place = p.place; access = subst (λ k. HasAccess t k e.loc.0 e.value) (sym p.kind) (p.known, p.word) }

entry-word : (t : Litmus) (e : Entry) → IsEntryFor t e → IsWord e.value
entry-word t e p = by_kind e.kind p.access
  where
    by_kind : (k : Kind) → HasAccess t k e.loc.0 e.value → IsWord e.value
    by_kind F a = let none = a.1 in omega (arith, none)
    by_kind k a = a.1

last-word : (t : Litmus) (es : List Entry) (word : ℕ) → All (PendingFits t) es → IsWord word → IsWord (last_value es word)
last-word t [] word h w = w
last-word t (e ∷ es) word h w = last-word t es e.value (All-tail (PendingFits t) e es h) (All-head (PendingFits t) e es h).word

-- ---- a core

pub record CoreFits (t : Litmus) (s : CoreState) : Type 0 where
  pub place : s.place ≤ 32
  pub registers : All IsWord s.registers
  pub pending : All (PendingFits t) s.pending

pub record EffectFits (t : Litmus) (f : Effect) : Type 0 where
  pub after : CoreFits t f.after
  pub commits : All (IsEntryFor t) f.commits

module _ (t : Litmus) where
  nothing : All (IsEntryFor t) []
  nothing = All-nil (IsEntryFor t)

  one : (e : Entry) → IsEntryFor t e → All (IsEntryFor t) (e ∷ [])
  one e h = All-cons (IsEntryFor t) e [] h nothing

  stalled-fits : (s : CoreState) (why : Stall) → CoreFits t s → EffectFits t (stalled why s)
  stalled-fits s why h = record { after = h; commits = nothing }

  next-place : (s : CoreState) → s.place < 32 → CoreFits t s → CoreFits t (record { place = s.place + 1; registers = s.registers; pending = s.pending })
  next-place s here h = record { place = omega (arith, here); registers = h.registers; pending = h.pending }

  with-fits : (s : CoreState) (reg : Reg) (value : ℕ) → s.place < 32 → CoreFits t s → IsWord value → CoreFits t (advanced_with s reg value)
  with-fits s reg value here h w = record {
    place = omega (arith, here);
    registers = All-set IsWord s.registers (index_of reg) value w h.registers;
    pending = h.pending;
  }

  with-registers : (s : CoreState) (registers : List ℕ)
      → s.place < 32
      → CoreFits t s
      → All IsWord registers
      → CoreFits t (record { place = s.place + 1; registers = registers; pending = s.pending })
  with-registers s registers here h words = record { place = omega (arith, here); registers = words; pending = h.pending }

  stored-fits : (depth : ℕ) (s : CoreState) (e : Entry) → s.place < 32 → CoreFits t s → PendingFits t e → EffectFits t (stored depth s e)
  stored-fits zero s e here h p = record { after = next-place s here h; commits = one e (pending-entry t e p) }
  stored-fits (suc n) s e here h p = by_room (nat_lt (length s.pending) (suc n))
    where
      by_room : (b : Bool) → EffectFits t (if b
          then record { outcome = Buffered; after = record { place = s.place + 1; registers = s.registers; pending = s.pending ++ e ∷ [] }; commits = [] }
          else stalled stall.Full s)
      by_room true = record {
        after = record {
          place = omega (arith, here);
          registers = h.registers;
          pending = All-push (PendingFits t) s.pending e h.pending p;
        };
        commits = nothing;
      }
      by_room false = stalled-fits s stall.Full h

  when-fits : (s : CoreState) (why : Stall) (f : Effect) (b : Bool) → CoreFits t s → EffectFits t f → EffectFits t (if b then f else stalled why s)
  when-fits s why f true h p = p
  when-fits s why f false h p = stalled-fits s why h

  module _ (core : ℕ) (small : core < 256) where
    action-fits : (depth : ℕ) (memory : List ℕ) (a : Action) (s : CoreState)
        → All IsWord memory
        → ActionKnown t a
        → NumberIsWord a
        → s.place < 32
        → CoreFits t s
        → EffectFits t (effect_by depth memory core a s)
    action-fits depth memory (Store loc operand) s m k n here h =
        stored-fits depth s (entry core s.place W loc (value_of s.registers operand)) here h
        (record { core = small; place = omega (arith, here); kind = refl; known = k; word = operand-word s.registers operand h.registers n })
    action-fits depth memory (Load reg loc) s m k n here h =
        let value = load_value memory s loc.0 in
        let w : IsWord value =
        last-word t (filter (writes_to loc.0) s.pending) (slice_index memory loc.0)
        (All-filter (writes_to loc.0) (PendingFits t) s.pending h.pending) (word-at memory loc.0 m) in
        record {
          after = with-fits s reg value here h w;
          commits =
              one (entry core s.place R loc value) (record { core = small; place = omega (arith, here); access = (k, w) });
        }
    action-fits depth memory (Move change) s m k n here h =
        record { after = with-registers s (changed change s.registers) here h (changed-words change s.registers n h.registers); commits = nothing }
    action-fits depth memory Fence s m k n here h =
        when-fits s stall.Fence _ (is_none_pending s.pending) h
        (record {
          after = next-place s here h;
          commits =
              one (fence core s.place) (record { core = small; place = omega (arith, here); access = (refl, refl) });
        })
    action-fits depth memory (Lock loc reg update) s m k n here h =
        let word = slice_index memory loc.0 in
        let value = updated update s.registers word in
        let w : IsWord word = word-at memory loc.0 m in
        let v : IsWord value = updated-word update s.registers word n h.registers w in
        let wrote = entry core s.place LW loc value in
        when-fits s stall.Lock _ (is_none_pending s.pending) h
        (record {
          after = with-registers s (with_taken s.registers reg word) here h (taken-words s.registers reg word h.registers w);
          commits =
              All-cons (IsEntryFor t) (entry core s.place LR loc word) (wrote ∷ []) (record {
                core = small;
                place = omega (arith, here);
                access = (k, w);
              })
              (one wrote (record { core = small; place = omega (arith, here); access = (k, v) }));
        })

  -- ---- an instruction of the test, at its place

  abbrev pub InstrFits : ℕ → ℕ → Instr → Type 0
  InstrFits size place i = KnownLocation (length t.locations) i × ConstantIsWord i × (place < size)

  instr-at : (is : List Instr) (k : ℕ) → All (KnownLocation (length t.locations)) is → All ConstantIsWord is → IfSome (slice_get is k) (InstrFits (length is) k)
  instr-at [] k h c = tt
  instr-at (i ∷ is) zero h c = (All-head (KnownLocation (length t.locations)) i is h, All-head ConstantIsWord i is c, omega arith)
  instr-at (i ∷ is) (suc k) h c = later (slice_get is k) (instr-at is k (All-tail (KnownLocation (length t.locations)) i is h) (All-tail ConstantIsWord i is c))
    where
      later : (o : Option Instr) → IfSome o (InstrFits (length is) k) → IfSome o (InstrFits (length (i ∷ is)) (suc k))
      later None p = tt
      later (Some x) p = let less = p.2 in (p.0, p.1, omega (arith, less))

  program-at : (ps : List (List Instr)) (core : ℕ) → All (IsProgram (length t.locations)) ps → IsProgram (length t.locations) (slice_index_or ps core [])
  program-at [] core h = record { size = omega arith; locations_known = All-nil (KnownLocation (length t.locations)) }
  program-at (p ∷ ps) zero h = All-head (IsProgram (length t.locations)) p ps h
  program-at (p ∷ ps) (suc core) h = program-at ps core (All-tail (IsProgram (length t.locations)) p ps h)

  constants-at : (ps : List (List Instr)) (core : ℕ) → All (λ p. All ConstantIsWord p) ps → All ConstantIsWord (slice_index_or ps core [])
  constants-at [] core h = All-nil ConstantIsWord
  constants-at (p ∷ ps) zero h = All-head (λ p. All ConstantIsWord p) p ps h
  constants-at (p ∷ ps) (suc core) h = constants-at ps core (All-tail (λ p. All ConstantIsWord p) p ps h)

  step-fits : (core : ℕ)
      → core < 256
      → (depth : ℕ) (memory : List ℕ) (i : Option Instr) (s : CoreState) (size : ℕ)
      → size ≤ 32
      → All IsWord memory
      → IfSome i (InstrFits size s.place)
      → CoreFits t s
      → EffectFits t (step_of depth memory core i s)
  step-fits core small depth memory None s size few m k h = stalled-fits s stall.Done h
  step-fits core small depth memory (Some i) s size few m k h =
      let less = k.2 in
      action-fits core small depth memory (action_of i) s m k.0 (number-word i k.1) (omega (arith, few, less)) h

  drain-fits : (s : CoreState) (q : List Entry) → CoreFits t s → All (PendingFits t) q → EffectFits t (if is_none_pending q
      then stalled stall.Empty s
      else record { outcome = Committed; after = record { place = s.place; registers = s.registers; pending = drop 1 q }; commits = take 1 q })
  drain-fits s [] h k = stalled-fits s stall.Empty h
  drain-fits s (p ∷ ps) h k = record {
    after = record { place = h.place; registers = h.registers; pending = All-tail (PendingFits t) p ps k };
    commits = one p (pending-entry t p (All-head (PendingFits t) p ps k));
  }

  -- ---- a state

  abbrev pub CoresFit : State → Type 0
  CoresFit state = (core : ℕ) → CoreFits t (core_of state core)

  flat-fits : (depth : ℕ) (state : State) (a : Choice)
      → IsTest t
      → chosen a < 256
      → All IsWord state.memory
      → CoresFit state
      → EffectFits t (effect_of t depth state a)
  flat-fits depth state (Step core) test small m h =
      let program = program-at t.programs core.0 test.programs_fit in
      step-fits core.0 small depth state.memory (next_of t state core.0) (core_of state core.0) (length (program_of t core.0)) program.size m
      (instr-at (program_of t core.0) (core_of state core.0).place program.locations_known (constants-at t.programs core.0 test.values.constants)) (h core.0)
  flat-fits depth state (Drain core) test small m h = drain-fits (core_of state core.0) (core_of state core.0).pending (h core.0) (h core.0).pending

  -- ---- on either bus

  -- who holds the bus is a core of the test, and the word that a load part read is one
  abbrev pub HolderFits : Holder → Type 0
  HolderFits Free = Unit {0}
  HolderFits (HeldBy choice) = chosen choice < 256
  HolderFits (HeldBetween e) = (e.core.0 < 256) × IsWord e.value

  pub record BusFits (f : BusEffect) : Type 0 where
    pub effect : EffectFits t f.effect
    pub holder : HolderFits f.holder

  asks-fits : (s : CoreState) (a : Choice) (holder : Holder) → CoreFits t s → chosen a < 256 → HolderFits holder → BusFits (asks s a holder)
  asks-fits s a Free h small p = record { effect = record { after = h; commits = nothing }; holder = small }
  asks-fits s a (HeldBy other) h small p = record { effect = stalled-fits s stall.Bus h; holder = p }
  asks-fits s a (HeldBetween e) h small p = record { effect = stalled-fits s stall.Bus h; holder = p }

  begins-fits : (depth : ℕ) (state : State) (a : Attempt) (holder : Holder)
      → IsTest t
      → chosen a.choice < 256
      → All IsWord state.memory
      → CoresFit state
      → HolderFits holder
      → BusFits (begins t depth state a holder)
  begins-fits depth state a holder test small m h p = go (needs_bus (access_of t depth state a.choice) a.hits)
    where
      go : (b : Bool) → BusFits (if b then asks (core_of state (chosen a.choice)) a.choice holder else acts (effect_of t depth state a.choice) holder)
      go true = asks-fits (core_of state (chosen a.choice)) a.choice holder (h (chosen a.choice)) small p
      go false = record { effect = flat-fits depth state a.choice test small m h; holder = p }

  completes-fits : (depth : ℕ) (state : State) (a : Choice) (what : MemoryAccess)
      → IsTest t
      → chosen a < 256
      → All IsWord state.memory
      → CoresFit state
      → AccessKnown t what
      → BusFits (completes t depth state a what)
  completes-fits depth state a (Locks loc) test small m h k =
      let s = core_of state (chosen a) in
      let w : IsWord (slice_index state.memory loc.0) = word-at state.memory loc.0 m in
      let place = (h (chosen a)).place in
      record {
        effect = record {
          after = h (chosen a);
          commits =
              one (entry (chosen a) s.place LR loc (slice_index state.memory loc.0)) (record {
                core = small;
                place = omega (arith, place);
                access = (k, w);
              });
        };
        holder = (small, w);
      }
  completes-fits depth state a what test small m h k = record { effect = flat-fits depth state a test small m h; holder = tt }

  split-fits : (depth : ℕ) (state : State) (a : Attempt) (holder : Holder)
      → IsTest t
      → chosen a.choice < 256
      → All IsWord state.memory
      → CoresFit state
      → HolderFits holder
      → ((c : Choice) → AccessKnown t (access_of t depth state c)) → BusFits (split_effect t depth state a holder)
  split-fits depth state a Free test small m h p k = begins-fits depth state a Free test small m h p
  split-fits depth state a (HeldBy choice) test small m h p k = go (same_choice choice a.choice)
    where
      go : (b : Bool) → BusFits (if b then completes t depth state choice (access_of t depth state choice) else begins t depth state a (HeldBy choice))
      go true = completes-fits depth state choice (access_of t depth state choice) test p m h (k choice)
      go false = begins-fits depth state a (HeldBy choice) test small m h p
  split-fits depth state a (HeldBetween e) test small m h p k = go (same_choice (Step e.core) a.choice)
    where
      go : (b : Bool) → BusFits (if b then writes_last t depth state e else begins t depth state a (HeldBetween e))
      go true =
          let f = flat-fits depth (as_read state e) (Step e.core) test p.0 (All-set IsWord state.memory e.loc.0 e.value p.1 m) h in
          record {
            effect = record { after = f.after; commits = All-drop (IsEntryFor t) 1 (effect_of t depth (as_read state e) (Step e.core)).commits f.commits };
            holder = tt;
          }
      go false = begins-fits depth state a (HeldBetween e) test small m h p

  pub effect-fits : (bus : Bus) (depth : ℕ) (state : BusState) (a : Attempt)
      → IsTest t
      → chosen a.choice < 256
      → All IsWord state.flat.memory
      → CoresFit state.flat
      → HolderFits state.holder
      → ((c : Choice) → AccessKnown t (access_of t depth state.flat c)) → BusFits (effect_on bus t depth state a)
  effect-fits Atomic depth state a test small m h p k = record { effect = flat-fits depth state.flat a.choice test small m h; holder = p }
  effect-fits Split depth state a test small m h p k = split-fits depth state.flat a state.holder test small m h p k

  -- ---- the state after it

  pub memory-fits : (es : List Entry) (words : List ℕ) → All (IsEntryFor t) es → All IsWord words → All IsWord (memory_after es words)
  memory-fits [] words h m = m
  memory-fits (e ∷ es) words h m = memory-fits es _ (All-tail (IsEntryFor t) e es h) (by_kind (is_write e))
    where
      by_kind : (b : Bool) → All IsWord (if b then slice_set words e.loc.0 e.value else words)
      by_kind true = All-set IsWord words e.loc.0 e.value (entry-word t e (All-head (IsEntryFor t) e es h)) m
      by_kind false = m

  pub cores-fit : (state : State) (core : ℕ) (f : Effect) → CoresFit state → CoreFits t f.after → CoresFit (applied state core f)
  cores-fit state core f h p k = elim (core-cases state core k f) [
    | inl q ↦ subst (CoreFits t) (sym q.2) p
    | inr q ↦ subst (CoreFits t) (sym q) (h k)
  ]

  -- ---- the first state

  registers-at : (registers : List (List ℕ)) (core : ℕ) → All AreRegisters registers → All IsWord (slice_index_or registers core [])
  registers-at [] core h = All-nil IsWord
  registers-at (r ∷ rs) zero h = (All-head AreRegisters r rs h).words
  registers-at (r ∷ rs) (suc core) h = registers-at rs core (All-tail AreRegisters r rs h)

  started-registers : (core : ℕ) (ps : List (List Instr)) (registers : List (List ℕ)) (k : ℕ)
      → All AreRegisters registers
      → All IsWord (slice_index_or (started core ps registers) k idle).registers
  started-registers core [] registers k h = All-nil IsWord
  started-registers core (p ∷ ps) registers zero h = registers-at registers core h
  started-registers core (p ∷ ps) registers (suc k) h = started-registers (core + 1) ps registers k h

  pub start-fits : IsTest t → CoresFit (start t)
  start-fits test k =
      let idle = starts-idle 0 t.programs t.registers k in
      let place = idle.0 in
      record {
        place = omega (arith, place);
        registers = started-registers 0 t.programs t.registers k test.values.registers;
        pending = subst (All (PendingFits t)) (sym idle.1) (All-nil (PendingFits t));
      }
