-- What a choice of the flat machine does, by the access that it makes. The eight instructions are gone through here alone.
use Rattle.tso_laws.proofs.BusVocabulary.{◌≡◌, ◌≢◌, ℕ, ◌+◌, zero, suc, List, [], ◌∷◌, ◌++◌, Option, Some, None, Bool, true, false, length}
use Rattle.tso_laws.proofs.BusVocabulary.{slice_index, arith, ap, sym, refl, ◌⊎◌, inl, inr, subst, nat_lt, if◌then◌else◌, nat_tests, filter}
use Rattle.tso_laws.proofs.BusVocabulary.{Litmus, action_of, entry, value_in, value_of, updated, same_kind, is_write, writes_to, CoreState}
use Rattle.tso_laws.proofs.BusVocabulary.{State, Effect, stalled, stored, effect_by, step_of, core_of, chosen, effect_of, stall_count}
use Rattle.tso_laws.proofs.BusVocabulary.{MemoryAccess, NoAccess, Writes, Locks, store_access, load_access, locked_access, access_by}
use Rattle.tso_laws.proofs.BusVocabulary.{step_access, drain_access, next_of, access_of, Reg, Loc, Instr, Action, Store, Load, Move, Fence}
use Rattle.tso_laws.proofs.BusVocabulary.{Lock, Entry, W, LR, LW, Choice, Step, Drain, Stall, Committed, Buffered, drain_with, fenced_with}
use Rattle.tso_laws.proofs.BusVocabulary.{locked_with, Each}
use Rattle.tso_terms.specs.declared.choice.Stall.TheVariants as stall

-- a plain store of this core, as all that it has pending is
pub record IsStore (core : ℕ) (e : Entry) : Type 0 where
  pub kind : e.kind ≡ W
  pub mine : e.core.0 ≡ core

-- what a choice that isn't a locked instruction's commits: an entry of its core that is no part of one, and that writes
-- only where the access does
pub record IsPlain (core : ℕ) (what : MemoryAccess) (e : Entry) : Type 0 where
  pub mine : e.core.0 ≡ core
  pub no_load_part : same_kind e.kind LR ≡ false
  pub no_store_part : same_kind e.kind LW ≡ false
  pub place : is_write e ≡ true → what ≡ Writes e.loc

-- the step stalls, at the program's end or while stores are pending
pub record Stalls (i : Option Instr) (what : MemoryAccess) (s : CoreState) (f : Effect) : Type 0 where
  pub none : what ≡ NoAccess
  pub why : Stall
  pub is : f ≡ stalled why s
  pub cause : (i ≡ None) ⊎ (s.pending ≢ [])

abbrev pub put : CoreState → Entry → Effect
put s e = record { outcome = Buffered; after = record { place = s.place + 1; registers = s.registers; pending = s.pending ++ e ∷ [] }; commits = [] }

-- a plain store becomes pending
pub record Buffers (core : ℕ) (what : MemoryAccess) (s : CoreState) (f : Effect) : Type 0 where
  pub none : what ≡ NoAccess
  pub store : Entry
  pub is_store : IsStore core store
  pub is : f ≡ put s store

-- the instruction is made, which is no locked one; nothing becomes pending
pub record Makes (core : ℕ) (what : MemoryAccess) (s : CoreState) (f : Effect) : Type 0 where
  pub no_lock : (l : Loc) → what ≢ Locks l
  pub took : stall_count f.outcome ≡ 0
  pub place : f.after.place ≡ s.place + 1
  pub pending : f.after.pending ≡ s.pending
  pub plain : Each (IsPlain core what) f.commits

-- a locked instruction at this location commits both its parts
pub record Pairs (core : ℕ) (memory : List ℕ) (loc : Loc) (s : CoreState) (f : Effect) : Type 0 where
  pub empty : s.pending ≡ []
  pub took : f.outcome ≡ Committed
  pub place : f.after.place ≡ s.place + 1
  pub pending : f.after.pending ≡ s.pending
  pub value : ℕ
  pub commits : f.commits ≡ entry core s.place LR loc (slice_index memory loc.0) ∷ (entry core s.place LW loc value ∷ [])

pub data StepForm (core : ℕ) (memory : List ℕ) (i : Option Instr) (what : MemoryAccess) (s : CoreState) (f : Effect) : Type 0 where
  stalls : Stalls i what s f → StepForm core memory i what s f
  buffers : Buffers core what s f → StepForm core memory i what s f
  makes : Makes core what s f → StepForm core memory i what s f
  pairs : (loc : Loc) → what ≡ Locks loc → Pairs core memory loc s f → StepForm core memory i what s f

pub store-plain : (core : ℕ) (e : Entry) → IsStore core e → IsPlain core (Writes e.loc) e
store-plain core e k = record { mine = k.mine; no_load_part = rw k.kind refl; no_store_part = rw k.kind refl; place = λ w. refl }

stored-form : (depth core : ℕ) (memory : List ℕ) (i : Option Instr) (s : CoreState) (loc : Loc) (value : ℕ)
    → StepForm core memory i (store_access depth loc) s (stored depth s (entry core s.place W loc value))
stored-form zero core memory i s loc value = makes (record {
  no_lock = λ l h. let z : ⊥ = cc in z;
  took = refl;
  place = refl;
  pending = refl;
  plain = (store-plain core (entry core s.place W loc value) (record { kind = refl; mine = refl }), tt);
})
stored-form (suc n) core memory i s loc value = by_room (nat_lt (length s.pending) (suc n)) refl
  where
    e : Entry
    e = entry core s.place W loc value

    by_room : (b : Bool) → nat_lt (length s.pending) (suc n) ≡ b → StepForm core memory i NoAccess s (if b then put s e else stalled stall.Full s)
    by_room true q = buffers (record { none = refl; store = e; is_store = record { kind = refl; mine = refl }; is = refl })
    by_room false q =
        stalls (record {
          none = refl;
          why = stall.Full;
          is = refl;
          cause = inr (λ h. let m = ap length h in let z : ⊥ = grind (arith, nat_tests) in z);
        })

load-no-lock : (loc l : Loc) (q : List Entry) → load_access loc q ≢ Locks l
load-no-lock loc l [] h = cc
load-no-lock loc l (p ∷ ps) h = cc

fenced-form : (core : ℕ) (memory : List ℕ) (i : Option Instr) (s : CoreState) (q : List Entry)
    → s.pending ≡ q
    → StepForm core memory i NoAccess s (fenced_with core s q)
fenced-form core memory i s [] e = makes (record {
  no_lock = λ l h. let z : ⊥ = cc in z;
  took = refl;
  place = refl;
  pending = refl;
  plain = (record { mine = refl; no_load_part = refl; no_store_part = refl; place = λ w. absurd (let z : ⊥ = cc in z) }, tt);
})
fenced-form core memory i s (p ∷ ps) e = stalls (record { none = refl; why = stall.Fence; is = refl; cause = inr (λ h. let z : ⊥ = cc in z) })

moved-form : (core : ℕ) (memory : List ℕ) (i : Option Instr) (s : CoreState) (f : Effect)
    → stall_count f.outcome ≡ 0
    → f.after.place ≡ s.place + 1
    → f.after.pending ≡ s.pending
    → f.commits ≡ []
    → StepForm core memory i NoAccess s f
moved-form core memory i s f o p q c = makes (record {
  no_lock = λ l h. let z : ⊥ = cc in z;
  took = o;
  place = p;
  pending = q;
  plain = subst (λ z. Each (IsPlain core NoAccess) z) (sym c) tt;
})

locked-form : (core : ℕ) (memory : List ℕ) (i : Option Instr) (s : CoreState) (loc : Loc) (reg : Option Reg) (value : ℕ) (q : List Entry) → s.pending ≡ q
    → StepForm core memory i (locked_access loc q) s (locked_with core s loc reg (slice_index memory loc.0) value q)
locked-form core memory i s loc reg value [] e = pairs loc refl (record { empty = e; took = refl; place = refl; pending = refl; value = value; commits = refl })
locked-form core memory i s loc reg value (p ∷ ps) e = stalls (record { none = refl; why = stall.Lock; is = refl; cause = inr (λ h. let z : ⊥ = cc in z) })

pub step-form : (depth core : ℕ) (memory : List ℕ) (i : Option Instr) (s : CoreState)
    → StepForm core memory i (step_access depth i s.pending) s (step_of depth memory core i s)
step-form depth core memory None s = stalls (record { none = refl; why = stall.Done; is = refl; cause = inl refl })
step-form depth core memory (Some x) s = by_action (action_of x)
  where
    by_action : (a : Action) → StepForm core memory (Some x) (access_by depth a s.pending) s (effect_by depth memory core a s)
    by_action (Store loc operand) = stored-form depth core memory (Some x) s loc (value_of s.registers operand)
    by_action (Load reg loc) = makes (record {
      no_lock = λ l. load-no-lock loc l (filter (writes_to loc.0) s.pending);
      took = refl;
      place = refl;
      pending = refl;
      plain = (record { mine = refl; no_load_part = refl; no_store_part = refl; place = λ w. absurd (let z : ⊥ = cc in z) }, tt);
    })
    by_action (Move change) = moved-form core memory (Some x) s _ refl refl refl refl
    by_action Fence = fenced-form core memory (Some x) s s.pending refl
    by_action (Lock loc reg update) = locked-form core memory (Some x) s loc reg (updated update s.registers (slice_index memory loc.0)) s.pending refl

-- a drain makes no locked access
pub drain-no-lock : (q : List Entry) (l : Loc) → drain_access q ≢ Locks l
drain-no-lock [] l h = cc
drain-no-lock (p ∷ ps) l h = cc

-- ---- what a choice commits

drain-plain : (core : ℕ) (s : CoreState) (q : List Entry) → Each (IsStore core) q → Each (IsPlain core (drain_access q)) (drain_with s q).commits
drain-plain core s [] h = tt
drain-plain core s (p ∷ ps) h = (store-plain core p h.0, tt)

-- plain entries, but for a locked instruction
pub choice-plain : (t : Litmus) (depth : ℕ) (state : State) (a : Choice)
    → Each (IsStore (chosen a)) (core_of state (chosen a)).pending
    → ((l : Loc) → access_of t depth state a ≢ Locks l)
    → Each (IsPlain (chosen a) (access_of t depth state a)) (effect_of t depth state a).commits
choice-plain t depth state (Step c) h n = by_form (step-form depth c.0 state.memory (next_of t state c.0) (core_of state c.0))
  where
    what : MemoryAccess
    what = access_of t depth state (Step c)

    f : Effect
    f = effect_of t depth state (Step c)

    by_form : StepForm c.0 state.memory (next_of t state c.0) what (core_of state c.0) f → Each (IsPlain c.0 what) f.commits
    by_form (stalls w) = subst (λ z. Each (IsPlain c.0 what) z.commits) (sym w.is) tt
    by_form (buffers w) = subst (λ z. Each (IsPlain c.0 what) z.commits) (sym w.is) tt
    by_form (makes w) = w.plain
    by_form (pairs loc q w) = absurd (n loc q)
choice-plain t depth state (Drain c) h n = drain-plain c.0 (core_of state c.0) (core_of state c.0).pending h

-- both parts of a locked instruction
pub choice-pair : (t : Litmus) (depth : ℕ) (state : State) (core : ℕ) (loc : Loc) → access_of t depth state (Step (record { 0 = core })) ≡ Locks loc
    → Pairs core state.memory loc (core_of state core) (effect_of t depth state (Step (record { 0 = core })))
choice-pair t depth state core loc q =
    by_form (subst (λ z. StepForm core state.memory (next_of t state core) z (core_of state core) f) q
    (step-form depth core state.memory (next_of t state core) (core_of state core)))
  where
    f : Effect
    f = effect_of t depth state (Step (record { 0 = core }))

    by_form : StepForm core state.memory (next_of t state core) (Locks loc) (core_of state core) f → Pairs core state.memory loc (core_of state core) f
    by_form (stalls w) = absurd (let n = w.none in let z : ⊥ = cc in z)
    by_form (buffers w) = absurd (let n = w.none in let z : ⊥ = cc in z)
    by_form (makes w) = absurd (w.no_lock loc refl)
    by_form (pairs l e w) = subst (λ z. Pairs core state.memory z (core_of state core) f) (let z : l ≡ loc = cc in z) w
