-- What a choice of the flat machine commits, against the access that it makes.
use Rattle.machine_core.proofs.Vocabulary.{◌≡◌, ◌↔◌, ℕ, zero, suc, Bool, true, false, if◌then◌else◌, List, [], ◌∷◌, filter, length, Option}
use Rattle.machine_core.proofs.Vocabulary.{Some, None, slice_get, nat_lt, refl, sym, ap, ◌⊎◌, inl, inr, subst, chosen, MemoryAccess}
use Rattle.machine_core.proofs.Vocabulary.{NoAccess, store_access, load_access, locked_access, step_access, drain_access, next_of}
use Rattle.machine_core.proofs.Vocabulary.{access_of, Loc, table_of_rows, IsUseFor, IsHitUse, use_at, access_by, cases_Bool, at_access, Reg}
use Rattle.machine_core.proofs.Vocabulary.{Instr, Action, Entry, W, Choice, Step, Drain, Caches, Used, not_through, whole_by, load_after}
use Rattle.machine_core.proofs.Vocabulary.{use_of, hits_by}
use Rattle.std.specs.List.{list_any}
use Rattle.tso_terms.specs.Litmus.{Litmus}
use Rattle.tso_terms.specs.Actions.{action_of}
use Rattle.tso_terms.specs.Thread.{entry}
use Rattle.tso_terms.specs.ProgramOrder.{writes_to}
use Rattle.tso_terms.specs.FlatMachine.{CoreState, State, Effect, stored, effect_by, step_of, core_of}
use Rattle.tso_terms.specs.declared.action.Action.TheVariants.{Store, Load, Move, Fence, Lock}
use Rattle.tso_laws.specs.inner.Pending.{IsStoreOf, PendingIsOwn}
use Rattle.multiprocessor.specs.declared.accesses.CacheUse.TheVariants.{Unused, Forwarded}
use Rattle.basic_laws.proofs.WithPending.{drain_with, fenced_with, locked_with}
use Rattle.machine_core.proofs.Told.{access-told}

-- a load is answered by one of these pending stores, or by none
answered : (c : Caches) (pending : List Entry) (core : ℕ) (loc : Loc)
    → IsUseFor c core (load_access loc (filter (writes_to loc.0) pending)) (load_after c pending core loc.0)
answered c pending core loc = by_stores pending
  where
    by_stores : (xs : List Entry)
        → IsUseFor c core (load_access loc (filter (writes_to loc.0) xs))
        (if list_any (writes_to loc.0) xs then not_through Forwarded c else whole_by c core loc.0 false)
    by_stores [] = refl
    by_stores (x ∷ xs) = elim (cases_Bool (writes_to loc.0 x)) [ inl is ↦ rw is (inr refl) | inr is ↦ rw is (by_stores xs) ]

fenced-use : (c : Caches) (pending : List Entry) (core : ℕ) (s : CoreState) (q : List Entry)
    → IsUseFor c core NoAccess (use_of c pending (fenced_with core s q).commits)
fenced-use c pending core s [] = inl refl
fenced-use c pending core s (p ∷ ps) = inl refl

locked-use : (c : Caches) (pending : List Entry) (core : ℕ) (s : CoreState) (loc : Loc) (reg : Option Reg) (word value : ℕ) (q : List Entry)
    → IsUseFor c core (locked_access loc q) (use_of c pending (locked_with core s loc reg word value q).commits)
locked-use c pending core s loc reg word value [] = refl
locked-use c pending core s loc reg word value (p ∷ ps) = inl refl

stored-use : (c : Caches) (pending : List Entry) (core depth value : ℕ) (loc : Loc) (s : CoreState)
    → IsUseFor c core (store_access depth loc) (use_of c pending (stored depth s (entry core s.place W loc value)).commits)
stored-use c pending core zero value loc s = refl
stored-use c pending core (suc n) value loc s = by_room (nat_lt (length s.pending) (suc n)) _ _ refl refl
  where
    by_room : (b : Bool) (f g : Effect) → f.commits ≡ [] → g.commits ≡ [] → IsUseFor c core NoAccess (use_of c pending (if b then f else g).commits)
    by_room true f g p q = inl (ap (use_of c pending) p)
    by_room false f g p q = inl (ap (use_of c pending) q)

drained-use : (c : Caches) (pending : List Entry) (core : ℕ) (s : CoreState) (q : List Entry) → ((p : Entry) (ps : List Entry) → q ≡ p ∷ ps → IsStoreOf core p)
    → IsUseFor c core (drain_access q) (use_of c pending (drain_with s q).commits)
drained-use c pending core s [] own = inl refl
drained-use c pending core s (p ∷ ps) own = let o = own p ps refl in rw (o.kind, o.mine) refl

step-use : (c : Caches) (depth : ℕ) (memory : List ℕ) (core : ℕ) (i : Option Instr) (s : CoreState)
    → IsUseFor c core (step_access depth i s.pending) (use_of c s.pending (step_of depth memory core i s).commits)
step-use c depth memory core None s = inl refl
step-use c depth memory core (Some i) s = by_action (action_of i)
  where
    by_action : (a : Action) → IsUseFor c core (access_by depth a s.pending) (use_of c s.pending (effect_by depth memory core a s).commits)
    by_action (Store loc operand) = stored-use c s.pending core depth _ loc s
    by_action (Load reg loc) = answered c s.pending core loc
    by_action (Move change) = inl refl
    by_action Fence = fenced-use c s.pending core s s.pending
    by_action (Lock loc reg update) = locked-use c s.pending core s loc reg _ _ s.pending

pub choice-use : (t : Litmus) (depth : ℕ) (state : State) (c : Caches) (choice : Choice) → PendingIsOwn state
    → IsUseFor c (chosen choice) (access_of t depth state choice) (use_at t depth state c choice)
choice-use t depth state c (Step core) own = step-use c depth state.memory core.0 (next_of t state core.0) (core_of state core.0)
choice-use t depth state c (Drain core) own =
    drained-use c (core_of state core.0).pending core.0 (core_of state core.0) (core_of state core.0).pending
    (λ p ps e. own core.0 0 p (ap (λ q. slice_get q 0) e))

-- the caches' answer, and whether such a use is a hit
pub use-told : (c : Caches) (core : ℕ) (what : MemoryAccess) (u : Used) → IsUseFor c core what u → IsHitUse u.how ↔ (hits_by c core what ≡ true)
use-told c core NoAccess u h = ((λ k. absurd (none h k)), (λ k. absurd (let z : ⊥ = cc in z)))
  where
    none : (u ≡ not_through Unused c) ⊎ (u ≡ not_through Forwarded c) → IsHitUse u.how → ⊥
    none (inl e) k = subst (λ (z : Used). IsHitUse z.how) e k
    none (inr e) k = subst (λ (z : Used). IsHitUse z.how) e k
use-told c core what u h =
    subst (λ (z : Used). IsHitUse z.how ↔ (hits_by c core what ≡ true)) (sym h)
    (access-told (table_of_rows c.rows) (at_access false (λ loc write. write) what) core _ c.contents)
