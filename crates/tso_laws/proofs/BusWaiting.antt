-- What every choice keeps: all that is pending are plain stores, and what holds the bus still has its access to make.
use Rattle.tso_laws.proofs.BusVocabulary.{◌≡◌, ◌≢◌, ℕ, List, [], ◌∷◌, ◌++◌, Option, Some, None, Bool, true, false, slice_get, slice_index}
use Rattle.tso_laws.proofs.BusVocabulary.{ap, sym, ◌∙◌, refl, inl, inr, subst, if◌then◌else◌, filter, Litmus, is_write, writes_to}
use Rattle.tso_laws.proofs.BusVocabulary.{CoreState, State, Effect, program_of, step_of, drain_of, effect_of, chosen, core_of, applied}
use Rattle.tso_laws.proofs.BusVocabulary.{start, action_of, MemoryAccess, NoAccess, Writes, Locks, load_access, access_by, step_access}
use Rattle.tso_laws.proofs.BusVocabulary.{drain_access, next_of, access_of, same_choice, load_part, Loc, Instr, Action, Load, Lock, Entry}
use Rattle.tso_laws.proofs.BusVocabulary.{Choice, Step, Drain, drain_with, HasRead, test-true, Each, each-append, each-map, starts-idle}
use Rattle.tso_laws.proofs.Cores.{core-cases, memory-kept}
use Rattle.tso_laws.proofs.Steps.{IsStore, IsPlain, StepForm, stalls, buffers, makes, pairs, step-form, choice-plain, choice-pair}

abbrev pub AllStores : State → Type 0
AllStores state = (k : ℕ) → Each (IsStore k) (core_of state k).pending

step-stores : (core : ℕ) (memory : List ℕ) (i : Option Instr) (what : MemoryAccess) (s : CoreState) (f : Effect)
    → StepForm core memory i what s f
    → Each (IsStore core) s.pending
    → Each (IsStore core) f.after.pending
step-stores core memory i what s f (stalls w) h = subst (λ z. Each (IsStore core) z.after.pending) (sym w.is) h
step-stores core memory i what s f (buffers w) h =
    subst (λ z. Each (IsStore core) z.after.pending) (sym w.is) (each-append (IsStore core) s.pending (w.store ∷ []) h (w.is_store, tt))
step-stores core memory i what s f (makes w) h = subst (λ z. Each (IsStore core) z) (sym w.pending) h
step-stores core memory i what s f (pairs loc q w) h = subst (λ z. Each (IsStore core) z) (sym w.pending) h

drain-stores : (core : ℕ) (s : CoreState) (q : List Entry) → s.pending ≡ q → Each (IsStore core) s.pending → Each (IsStore core) (drain_with s q).after.pending
drain-stores core s [] e h = h
drain-stores core s (p ∷ ps) e h = (subst (λ z. Each (IsStore core) z) e h).1

effect-stores : (t : Litmus) (depth : ℕ) (state : State) (a : Choice) → AllStores state → Each (IsStore (chosen a)) (effect_of t depth state a).after.pending
effect-stores t depth state (Step c) h =
    step-stores c.0 state.memory (next_of t state c.0) _ (core_of state c.0) _
    (step-form depth c.0 state.memory (next_of t state c.0) (core_of state c.0)) (h c.0)
effect-stores t depth state (Drain c) h = drain-stores c.0 (core_of state c.0) (core_of state c.0).pending refl (h c.0)

pub choice-stores : (t : Litmus) (depth : ℕ) (state : State) (a : Choice) → AllStores state → AllStores (applied state (chosen a) (effect_of t depth state a))
choice-stores t depth state a h k = elim (core-cases state (chosen a) k (effect_of t depth state a)) [
  | inl w ↦
      subst (λ z. Each (IsStore k) z.pending) (sym w.2)
      (subst (λ z. Each (IsStore z) (effect_of t depth state a).after.pending) (sym w.0) (effect-stores t depth state a h))
  | inr w ↦ subst (λ z. Each (IsStore k) z.pending) (sym w) (h k)
]

pub start-stores : (t : Litmus) → AllStores (start t)
start-stores t k = subst (λ q. Each (IsStore k) q) (sym (starts-idle 0 t.programs t.registers k).1) tt

-- ---- an action that has an access to make

-- a step has the same after a drain of its core
load-drained : (loc : Loc) (y : Entry) (ys : List Entry) → load_access loc (filter (writes_to loc.0) (y ∷ ys)) ≢ NoAccess
    → load_access loc (filter (writes_to loc.0) ys) ≡ load_access loc (filter (writes_to loc.0) (y ∷ ys))
load-drained loc y ys = go (writes_to loc.0 y)
  where
    go : (b : Bool) → load_access loc (if b then y ∷ filter (writes_to loc.0) ys else filter (writes_to loc.0) ys) ≢ NoAccess
        → load_access loc (filter (writes_to loc.0) ys) ≡ load_access loc (if b then y ∷ filter (writes_to loc.0) ys else filter (writes_to loc.0) ys)
    go true n = absurd (n refl)
    go false n = refl

step-drained : (depth : ℕ) (i : Option Instr) (y : Entry) (ys : List Entry)
    → step_access depth i (y ∷ ys) ≢ NoAccess
    → step_access depth i ys ≡ step_access depth i (y ∷ ys)
step-drained depth None y ys n = refl
step-drained depth (Some x) y ys n = by_action (action_of x) n
  where
    by_action : (a : Action) → access_by depth a (y ∷ ys) ≢ NoAccess → access_by depth a ys ≡ access_by depth a (y ∷ ys)
    by_action (Load reg loc) n = load-drained loc y ys n
    by_action (Lock loc reg update) n = absurd (n refl)
    by_action _ n = refl

-- the access of a core's step
abbrev step_in : Litmus → ℕ → ℕ → CoreState → MemoryAccess
step_in t depth core s = step_access depth (slice_get (program_of t core) s.place) s.pending

after-drain : (t : Litmus) (depth core : ℕ) (s : CoreState) (q : List Entry)
    → s.pending ≡ q
    → step_in t depth core s ≢ NoAccess
    → step_in t depth core (drain_with s q).after ≡ step_in t depth core s
after-drain t depth core s [] e n = refl
after-drain t depth core s (y ∷ ys) e n =
    let i : Option Instr = slice_get (program_of t core) s.place in
    step-drained depth i y ys (subst (λ z. step_access depth i z ≢ NoAccess) e n) ∙ ap (λ z. step_access depth i z) (sym e)

-- a drain has the same after a step of its core
drain-longer : (q : List Entry) (e : Entry) → drain_access q ≢ NoAccess → drain_access (q ++ e ∷ []) ≡ drain_access q
drain-longer [] e n = absurd (n refl)
drain-longer (p ∷ ps) e n = refl

after-step : (core : ℕ) (memory : List ℕ) (i : Option Instr) (what : MemoryAccess) (s : CoreState) (f : Effect)
    → StepForm core memory i what s f
    → drain_access s.pending ≢ NoAccess
    → drain_access f.after.pending ≡ drain_access s.pending
after-step core memory i what s f (stalls w) n = ap (λ z. drain_access z.after.pending) w.is
after-step core memory i what s f (buffers w) n = ap (λ z. drain_access z.after.pending) w.is ∙ drain-longer s.pending w.store n
after-step core memory i what s f (makes w) n = ap drain_access w.pending
after-step core memory i what s f (pairs loc q w) n = ap drain_access w.pending

-- any other choice leaves it the same
pub access-kept : (t : Litmus) (depth : ℕ) (state : State) (a b : Choice) → access_of t depth state a ≢ NoAccess → same_choice a b ≡ false
    → access_of t depth (applied state (chosen b) (effect_of t depth state b)) a ≡ access_of t depth state a
access-kept t depth state (Step c) (Step d) n h =
    elim (core-cases state d.0 c.0 (effect_of t depth state (Step d))) [
      | inl w ↦ absurd (let q = test-true c.0 d.0 w.0 in let z : ⊥ = cc in z)
      | inr w ↦ ap (λ s. step_in t depth c.0 s) w
    ]
access-kept t depth state (Drain c) (Drain d) n h =
    elim (core-cases state d.0 c.0 (effect_of t depth state (Drain d))) [
      | inl w ↦ absurd (let q = test-true c.0 d.0 w.0 in let z : ⊥ = cc in z)
      | inr w ↦ ap (λ s. drain_access s.pending) w
    ]
access-kept t depth state (Step c) (Drain d) n h =
    elim (core-cases state d.0 c.0 (effect_of t depth state (Drain d))) [
      | inl w ↦ ap (λ s. step_in t depth c.0 s) (w.2 ∙ ap (λ k. (drain_of (core_of state k)).after) (sym w.0))
          ∙ after-drain t depth c.0 (core_of state c.0) (core_of state c.0).pending refl n
      | inr w ↦ ap (λ s. step_in t depth c.0 s) w
    ]
access-kept t depth state (Drain c) (Step d) n h =
    elim (core-cases state d.0 c.0 (effect_of t depth state (Step d))) [
      | inl w ↦ ap (λ s. drain_access s.pending) (w.2 ∙ ap (λ k. (step_of depth state.memory k (next_of t state k) (core_of state k)).after) (sym w.0))
          ∙ after-step c.0 state.memory (next_of t state c.0) _ (core_of state c.0) _
          (step-form depth c.0 state.memory (next_of t state c.0) (core_of state c.0)) n
      | inr w ↦ ap (λ s. drain_access s.pending) w
    ]

-- ---- a locked instruction that has read

-- its load part, made now, is the same
pub same-part : (t : Litmus) (depth : ℕ) (state : State) (e : Entry) → HasRead t depth state e → load_part state e.core.0 e.loc ≡ e
same-part t depth state e r = rw (r.place, r.word, ← r.kind) refl

-- its core has nothing pending
pub reader-empty : (t : Litmus) (depth : ℕ) (state : State) (e : Entry) → HasRead t depth state e → (core_of state e.core.0).pending ≡ []
reader-empty t depth state e r = (choice-pair t depth state e.core.0 e.loc r.access).empty

-- a drain of it finds nothing
drained : (t : Litmus) (depth : ℕ) (state : State) (e : Entry) (core : ℕ)
    → HasRead t depth state e
    → core ≡ e.core.0
    → drain_of (core_of state core) ≡ drain_with (core_of state core) []
drained t depth state e core r q = ap (λ p. drain_with (core_of state core) p) (ap (λ k. (core_of state k).pending) q ∙ reader-empty t depth state e r)

reader-kept : (t : Litmus) (depth : ℕ) (state : State) (e : Entry) (b : Choice) → HasRead t depth state e → same_choice (Step e.core) b ≡ false
    → core_of (applied state (chosen b) (effect_of t depth state b)) e.core.0 ≡ core_of state e.core.0
reader-kept t depth state e (Step d) r h =
    elim (core-cases state d.0 e.core.0 (effect_of t depth state (Step d))) [
      | inl w ↦ absurd (let q = test-true e.core.0 d.0 w.0 in let z : ⊥ = cc in z)
      | inr w ↦ w
    ]
reader-kept t depth state e (Drain d) r h =
    elim (core-cases state d.0 e.core.0 (effect_of t depth state (Drain d))) [
      | inl w ↦ w.2 ∙ ap (λ f. f.after) (drained t depth state e d.0 r (sym w.0)) ∙ ap (λ k. core_of state k) (sym w.0)
      | inr w ↦ w
    ]

-- another choice that writes nothing to its location
pub reading-kept : (t : Litmus) (depth : ℕ) (state : State) (e : Entry) (b : Choice)
    → AllStores state
    → HasRead t depth state e
    → same_choice (Step e.core) b ≡ false
    → ((l : Loc) → access_of t depth state b ≢ Locks l) → ((l : Loc) → access_of t depth state b ≡ Writes l → l.0 ≢ e.loc.0)
    → HasRead t depth (applied state (chosen b) (effect_of t depth state b)) e
reading-kept t depth state e b stores r h n w =
    let c = reader-kept t depth state e b r h in
    let p = choice-plain t depth state b (stores (chosen b)) n in
    let m : slice_index (applied state (chosen b) (effect_of t depth state b)).memory e.loc.0 ≡ slice_index state.memory e.loc.0 =
    memory-kept (effect_of t depth state b).commits state.memory e.loc.0
    (each-map (IsPlain (chosen b) (access_of t depth state b)) (λ x. is_write x ≡ true → e.loc.0 ≢ x.loc.0) (effect_of t depth state b).commits
    (λ x q v z. w x.loc (q.place v) (sym z)) p) in
    record {
      kind = r.kind;
      place = ap (λ s. s.place) c ∙ r.place;
      access = access-kept t depth state (Step e.core) b (λ z. let y : ⊥ = let a = r.access in cc in y) h ∙ r.access;
      word = m ∙ r.word;
    }

-- its core makes no other access, and commits nothing else
pub reader-writes-nothing : (t : Litmus) (depth : ℕ) (state : State) (e : Entry) (b : Choice) → HasRead t depth state e → same_choice (Step e.core) b ≡ false
    → chosen b ≡ e.core.0 → (l : Loc) → access_of t depth state b ≢ Writes l
reader-writes-nothing t depth state e (Step d) r h q l w = let v = test-true e.core.0 d.0 (sym q) in cc
reader-writes-nothing t depth state e (Drain d) r h q l w =
    let n : access_of t depth state (Drain d) ≡ NoAccess = ap drain_access (ap (λ k. (core_of state k).pending) q ∙ reader-empty t depth state e r) in cc

pub reader-commits-nothing : (t : Litmus) (depth : ℕ) (state : State) (e : Entry) (b : Choice) → HasRead t depth state e → same_choice (Step e.core) b ≡ false
    → chosen b ≡ e.core.0 → (effect_of t depth state b).commits ≡ []
reader-commits-nothing t depth state e (Step d) r h q = absurd (let v = test-true e.core.0 d.0 (sym q) in let z : ⊥ = cc in z)
reader-commits-nothing t depth state e (Drain d) r h q = ap (λ f. f.commits) (drained t depth state e d.0 r q)
