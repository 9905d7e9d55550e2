-- What the straight-line program of a path does, its tree does too: a move before a locked instruction is no step of it.
use Rattle.std.proofs.Common.{◌≡◌, ◌≢◌, ℕ, ◌+◌, zero, suc, List, [], ◌∷◌, ◌++◌, None, Bool, true, false, ◌<◌, ◌≤◌, nat_lt, if◌then◌else◌}
use Rattle.std.proofs.Common.{length, slice_index, slice_get, take, drop, ap, sym, ◌∙◌, refl, subst}
use Rattle.basic_laws.proofs.Lists.{Each, each-append}
use Rattle.tso_terms.specs.Actions.{action_of}
use Rattle.tso_terms.specs.Thread.{entry, fence, with_value, value_in}
use Rattle.tso_terms.specs.FlatMachine.{CoreState, Effect, is_none_pending, effect_by, step_of, stalled, drain_of}
use Rattle.tso_terms.specs.declared.choice.Stall.TheVariants as stall
use Rattle.basic_laws.specs.Types.{Entry, Instr, Loc, W, LR, LW, Eax, Ebx, Load, StoreImm, SetImm, Fence, Committed, Buffered}
use Rattle.branch_laws.specs.Trees.{Change, Tree, Done, Cut, Reads, Stores, Fences, Locks, written, operand, locking, path, values_along}
use Rattle.branch_laws.specs.TreeMachine.{TreeCore, TreeEffect, stays, seen_value, act, drain_tree}
use Rattle.branch_laws.proofs.Locking.{left_by, locking-step, locking-any}
use Rattle.branch_laws.proofs.Splitting.{still-long, moved-in}
use Rattle.branch_laws.proofs.Values.{reads-left, fences-left, locks-left, left, IsOwn, drain-told}
use Rattle.branch_laws.proofs.Core.{flat, Even, at-drop, even-other, left-other, even-drain}

-- the flat core has moved the number of a locked instruction, and the tree comes before that
pub record Half (c : ℕ) (program : List Instr) (xs : List Entry) (f : CoreState) (s : TreeCore) : Type 0 where
  pub place : ℕ
  pub loc : Loc
  pub change : Change
  pub next : ℕ → Tree
  pub pending : List Entry
  pub registers : List ℕ
  pub s_is : s ≡ record { place = place; rest = Locks loc change next; pending = pending }
  pub is : f ≡ record { place = place + 1; registers = registers; pending = pending }
  pub long : 1 < length registers
  pub within : place + 1 ≤ length program
  pub own : Each (IsOwn c) pending
  pub held : value_in registers Ebx ≡ operand change (slice_index (values_along c place (Locks loc change next) xs) 0)
  pub left_over : drop (place + 1) program
      ≡ locking change loc Ebx
      ∷ path (next (slice_index (values_along c place (Locks loc change next) xs) 0)) (drop 1 (values_along c place (Locks loc change next) xs))

pub data Tied (c : ℕ) (program : List Instr) (xs : List Entry) (f : CoreState) (s : TreeCore) : Type 0 where
  level : Even c program xs f s → Tied c program xs f s
  between : Half c program xs f s → Tied c program xs f s

half-same : (c : ℕ) (program : List Instr) (es xs : List Entry) (f : CoreState) (s : TreeCore) → (h : Half c program es f s)
    → values_along c h.place (Locks h.loc h.change h.next) es ≡ values_along c h.place (Locks h.loc h.change h.next) xs → Half c program xs f s
half-same c program es xs f s h q = record {
  place = h.place;
  loc = h.loc;
  change = h.change;
  next = h.next;
  pending = h.pending;
  registers = h.registers;
  s_is = h.s_is;
  is = h.is;
  long = h.long;
  within = h.within;
  own = h.own;
  held = h.held ∙ ap (λ z. operand h.change (slice_index z 0)) q;
  left_over = h.left_over ∙ ap (λ z. locking h.change h.loc Ebx ∷ path (h.next (slice_index z 0)) (drop 1 z)) q;
}

pub tied-other : (c k : ℕ) (program : List Instr) (es xs : List Entry) (f : CoreState) (s : TreeCore) → k ≢ c → Each (λ e. e.core.0 ≡ c) es
    → Tied k program (es ++ xs) f s → Tied k program xs f s
tied-other c k program es xs f s n h (level e) = level (even-other c k program es xs f s n h e)
tied-other c k program es xs f s n h (between e) =
    between (half-same k program (es ++ xs) xs f s e (left-other c k (record { place = e.place; rest = Locks e.loc e.change e.next; pending = [] }) es xs n h))

none-at : (p : List Instr) (k : ℕ) → drop k p ≡ [] → slice_get p k ≡ None
none-at [] zero e = refl
none-at [] (suc k) e = refl
none-at (x ∷ p) zero e = absurd (let z : ⊥ = cc in z)
none-at (x ∷ p) (suc k) e = none-at p k e

-- a step of the program is none or one of the tree
pub data Back (c : ℕ) (program : List Instr) (xs : List Entry) (φ : Effect) (s : TreeCore) (g : TreeEffect) : Type 0 where
  quiet : φ.commits ≡ [] → Tied c program xs φ.after s → Back c program xs φ s g
  loud : φ.commits ≡ g.commits → Tied c program xs φ.after g.after → Back c program xs φ s g

even-back : (n : ℕ) (memory : List ℕ) (c : ℕ) (program : List Instr) (xs : List Entry) (regs : List ℕ) (p : ℕ) (tree : Tree) (q : List Entry) (φ : Effect)
    → φ ≡ step_of (suc n) memory c (slice_get program p) (flat (record { place = p; rest = tree; pending = q }) regs)
    → 1 < length regs → p ≤ length program → Each (IsOwn c) q → drop p program ≡ path tree (values_along c p tree (φ.commits ++ xs))
    → Back c program xs φ (record { place = p; rest = tree; pending = q }) (act (suc n) memory c tree (record { place = p; rest = tree; pending = q }))
even-back n memory c program xs regs p (Done outputs) q φ is l w o e =
    let f : CoreState = record { place = p; registers = regs; pending = q } in
    let z : φ ≡ stalled stall.Done f = is ∙ ap (λ z. step_of (suc n) memory c z f) (none-at program p e) in
    quiet (ap (λ y. y.commits) z) (level (record { registers = regs; is = ap (λ y. y.after) z; long = l; within = w; own = o; left_over = e }))
even-back n memory c program xs regs p Cut q φ is l w o e =
    let f : CoreState = record { place = p; registers = regs; pending = q } in
    let z : φ ≡ stalled stall.Done f = is ∙ ap (λ z. step_of (suc n) memory c z f) (none-at program p e) in
    quiet (ap (λ y. y.commits) z) (level (record { registers = regs; is = ap (λ y. y.after) z; long = l; within = w; own = o; left_over = e }))
even-back n memory c program xs regs p (Reads loc next) q φ is l w o e =
    let v : ℕ = seen_value memory q loc.0 in
    let f : CoreState = record { place = p; registers = regs; pending = q } in
    let a = at-drop program p (Load Eax loc) _ e in
    let z : φ ≡ effect_by (suc n) memory c (action_of (Load Eax loc)) f = is ∙ ap (λ z. step_of (suc n) memory c z f) a.at in
    let b =
    at-drop program p (Load Eax loc) _
    (e
    ∙ ap (λ y. path (Reads loc next) (values_along c p (Reads loc next) (y.commits ++ xs))) z
    ∙ ap (λ z. path (Reads loc next) z) (reads-left c p loc next v xs)) in
    loud (ap (λ y. y.commits) z)
    (level (record {
      registers = with_value regs Eax v;
      is = ap (λ y. y.after) z;
      long = still-long regs 0 v l;
      within = a.within;
      own = o;
      left_over = b.next;
    }))
even-back n memory c program xs regs p (Stores loc value next) q φ is l w o e = go (nat_lt (length q) (suc n)) refl
  where
    s : TreeCore
    s = record { place = p; rest = Stores loc value next; pending = q }

    f : CoreState
    f = record { place = p; registers = regs; pending = q }

    x : Entry
    x = entry c p W loc value

    g : TreeEffect
    g = record { after = record { place = p + 1; rest = next; pending = q ++ x ∷ [] }; commits = [] }

    done : Effect
    done = record { outcome = Buffered; after = record { place = p + 1; registers = regs; pending = q ++ x ∷ [] }; commits = [] }

    go : (t : Bool) → nat_lt (length q) (suc n) ≡ t → Back c program xs φ s (if t then g else stays s)
    go true b =
        let a = at-drop program p (StoreImm loc value) _ e in
        let z : φ ≡ done = is ∙ ap (λ z. step_of (suc n) memory c z f) a.at ∙ ap (λ z. if z then done else stalled stall.Full f) b in
        loud (ap (λ y. y.commits) z) (level (record {
          registers = regs;
          is = ap (λ y. y.after) z;
          long = l;
          within = a.within;
          own = each-append (IsOwn c) q (x ∷ []) o (record { core = refl; kind = refl }, tt);
          left_over = a.next ∙ ap (λ y. path next (values_along c (p + 1) next (y.commits ++ xs))) z;
        }))
    go false b =
        let a = at-drop program p (StoreImm loc value) _ e in
        let z : φ ≡ stalled stall.Full f = is ∙ ap (λ z. step_of (suc n) memory c z f) a.at ∙ ap (λ z. if z then done else stalled stall.Full f) b in
        quiet (ap (λ y. y.commits) z) (level (record {
          registers = regs;
          is = ap (λ y. y.after) z;
          long = l;
          within = w;
          own = o;
          left_over = e ∙ ap (λ y. path (Stores loc value next) (values_along c p (Stores loc value next) (y.commits ++ xs))) z;
        }))
even-back n memory c program xs regs p (Fences next) q φ is l w o e = go (is_none_pending q) refl
  where
    s : TreeCore
    s = record { place = p; rest = Fences next; pending = q }

    f : CoreState
    f = record { place = p; registers = regs; pending = q }

    g : TreeEffect
    g = record { after = record { place = p + 1; rest = next; pending = q }; commits = fence c p ∷ [] }

    done : Effect
    done = record { outcome = Committed; after = record { place = p + 1; registers = regs; pending = q }; commits = fence c p ∷ [] }

    go : (t : Bool) → is_none_pending q ≡ t → Back c program xs φ s (if t then g else stays s)
    go true b =
        let a = at-drop program p Fence _ e in
        let z : φ ≡ done = is ∙ ap (λ z. step_of (suc n) memory c z f) a.at ∙ ap (λ z. if z then done else stalled stall.Fence f) b in
        loud (ap (λ y. y.commits) z) (level (record {
          registers = regs;
          is = ap (λ y. y.after) z;
          long = l;
          within = a.within;
          own = o;
          left_over = a.next ∙ ap (λ y. path next (values_along c (p + 1) next (y.commits ++ xs))) z ∙ ap (λ z. path next z) (fences-left c p next xs);
        }))
    go false b =
        let a = at-drop program p Fence _ e in
        let z : φ ≡ stalled stall.Fence f = is ∙ ap (λ z. step_of (suc n) memory c z f) a.at ∙ ap (λ z. if z then done else stalled stall.Fence f) b in
        quiet (ap (λ y. y.commits) z) (level (record {
          registers = regs;
          is = ap (λ y. y.after) z;
          long = l;
          within = w;
          own = o;
          left_over = e ∙ ap (λ y. path (Fences next) (values_along c p (Fences next) (y.commits ++ xs))) z;
        }))
even-back n memory c program xs regs p (Locks loc change next) q φ is l w o e =
    let f : CoreState = record { place = p; registers = regs; pending = q } in
    let first : List ℕ = values_along c p (Locks loc change next) (φ.commits ++ xs) in
    let a = at-drop program p (SetImm Ebx (operand change (slice_index first 0))) _ e in
    let z : φ ≡ effect_by (suc n) memory c (action_of (SetImm Ebx (operand change (slice_index first 0)))) f =
    is ∙ ap (λ z. step_of (suc n) memory c z f) a.at in
    let none : φ.commits ≡ [] = ap (λ y. y.commits) z in
    let later : List ℕ = values_along c p (Locks loc change next) xs in
    let u : ℕ = operand change (slice_index later 0) in
    let b = at-drop program p (SetImm Ebx u) _ (e ∙ ap (λ y. path (Locks loc change next) (values_along c p (Locks loc change next) (y ++ xs))) none) in
    let y : φ ≡ effect_by (suc n) memory c (action_of (SetImm Ebx u)) f = is ∙ ap (λ z. step_of (suc n) memory c z f) b.at in
    quiet none (between (record {
      place = p;
      loc = loc;
      change = change;
      next = next;
      pending = q;
      registers = with_value regs Ebx u;
      s_is = refl;
      is = ap (λ z. z.after) y;
      long = still-long regs 1 u l;
      within = b.within;
      own = o;
      held = moved-in regs u l;
      left_over = b.next;
    }))

half-back : (n : ℕ) (memory : List ℕ) (c : ℕ) (program : List Instr) (xs : List Entry) (regs : List ℕ) (p : ℕ)
    (loc : Loc) (change : Change) (next : ℕ → Tree) (q : List Entry) (φ : Effect)
    → φ ≡ step_of (suc n) memory c (slice_get program (p + 1)) (record { place = p + 1; registers = regs; pending = q })
    → 1 < length regs → p + 1 ≤ length program → Each (IsOwn c) q
    → value_in regs Ebx ≡ operand change (slice_index (values_along c p (Locks loc change next) (φ.commits ++ xs)) 0)
    → drop (p + 1) program ≡ locking change loc Ebx
    ∷ path (next (slice_index (values_along c p (Locks loc change next) (φ.commits ++ xs)) 0))
    (drop 1 (values_along c p (Locks loc change next) (φ.commits ++ xs)))
    → Back c program xs φ (record { place = p; rest = Locks loc change next; pending = q })
    (act (suc n) memory c (Locks loc change next) (record { place = p; rest = Locks loc change next; pending = q }))
half-back n memory c program xs regs p loc change next q φ is l w o held e = go (is_none_pending q) refl
  where
    v : ℕ
    v = slice_index memory loc.0

    s : TreeCore
    s = record { place = p; rest = Locks loc change next; pending = q }

    f : CoreState
    f = record { place = p + 1; registers = regs; pending = q }

    g : TreeEffect
    g = record {
      after = record { place = (p + 1) + 1; rest = next v; pending = q };
      commits = entry c (p + 1) LR loc v ∷ (entry c (p + 1) LW loc (written change v) ∷ []);
    }

    done : ℕ → Effect
    done u = record {
      outcome = Committed;
      after = record { place = (p + 1) + 1; registers = with_value regs Ebx v; pending = q };
      commits = entry c (p + 1) LR loc v ∷ (entry c (p + 1) LW loc u ∷ []);
    }

    go : (t : Bool) → is_none_pending q ≡ t → Back c program xs φ s (if t then g else stays s)
    go true b =
        let a = at-drop program (p + 1) (locking change loc Ebx) _ e in
        let some : ℕ = left_by change v (value_in regs Ebx) in
        let at_first : φ ≡ effect_by (suc n) memory c (action_of (locking change loc Ebx)) f = is ∙ ap (λ z. step_of (suc n) memory c z f) a.at in
        let y : φ ≡ done some = at_first ∙ locking-any (suc n) memory c change loc Ebx f ∙ ap (λ z. if z then done some else stalled stall.Lock f) b in
        let same : values_along c p (Locks loc change next) (φ.commits ++ xs) ≡ v ∷ values_along c ((p + 1) + 1) (next v) xs
        = ap (λ y. values_along c p (Locks loc change next) (y.commits ++ xs)) y ∙ locks-left c p loc change next v some xs in
        let now : value_in regs Ebx ≡ operand change v = held ∙ ap (λ y. operand change (slice_index y 0)) same in
        let z : φ ≡ done (written change v) = at_first ∙ locking-step (suc n) memory c change loc Ebx f now
        ∙ ap (λ z. if z then done (written change v) else stalled stall.Lock f) b in
        let a2 = at-drop program (p + 1) (locking change loc Ebx) _ (e ∙ ap (λ y. locking change loc Ebx ∷ path (next (slice_index y 0)) (drop 1 y)) same) in
        loud (ap (λ y. y.commits) z) (level (record {
          registers = with_value regs Ebx v;
          is = ap (λ y. y.after) z;
          long = still-long regs 1 v l;
          within = a2.within;
          own = o;
          left_over = a2.next;
        }))
    go false b =
        let a = at-drop program (p + 1) (locking change loc Ebx) _ e in
        let some : ℕ = left_by change v (value_in regs Ebx) in
        let z : φ ≡ stalled stall.Lock f =
        is
        ∙ ap (λ z. step_of (suc n) memory c z f) a.at
        ∙ locking-any (suc n) memory c change loc Ebx f
        ∙ ap (λ z. if z then done some else stalled stall.Lock f) b in
        let same : values_along c p (Locks loc change next) (φ.commits ++ xs) ≡ values_along c p (Locks loc change next) xs
        = ap (λ y. values_along c p (Locks loc change next) (y.commits ++ xs)) z in
        quiet (ap (λ y. y.commits) z) (between (record {
          place = p;
          loc = loc;
          change = change;
          next = next;
          pending = q;
          registers = regs;
          s_is = refl;
          is = ap (λ y. y.after) z;
          long = l;
          within = w;
          own = o;
          held = held ∙ ap (λ y. operand change (slice_index y 0)) same;
          left_over = e ∙ ap (λ y. locking change loc Ebx ∷ path (next (slice_index y 0)) (drop 1 y)) same;
        }))

pub tied-back : (n : ℕ) (memory : List ℕ) (c : ℕ) (program : List Instr) (xs : List Entry) (f : CoreState) (s : TreeCore) (φ : Effect)
    → φ ≡ step_of (suc n) memory c (slice_get program f.place) f → Tied c program (φ.commits ++ xs) f s
    → Back c program xs φ s (act (suc n) memory c s.rest s)
tied-back n memory c program xs f s φ is (level e) =
    even-back n memory c program xs e.registers s.place s.rest s.pending φ
    (is ∙ ap (λ z. step_of (suc n) memory c (slice_get program z.place) z) e.is) e.long e.within e.own e.left_over
tied-back n memory c program xs f s φ is (between e) =
    subst (λ z. Back c program xs φ z (act (suc n) memory c z.rest z)) (sym e.s_is)
    (half-back n memory c program xs e.registers e.place e.loc e.change e.next e.pending φ
    (is ∙ ap (λ z. step_of (suc n) memory c (slice_get program z.place) z) e.is) e.long e.within e.own e.held
    e.left_over)

-- drains

pub record DrainsBack (c : ℕ) (program : List Instr) (xs : List Entry) (f : CoreState) (s : TreeCore) : Type 0 where
  pub commits : (drain_of f).commits ≡ take 1 s.pending
  pub after : Tied c program xs (drain_of f).after (drain_tree s).after
  pub own : Each (IsOwn c) s.pending

half-drain : (c : ℕ) (program : List Instr) (xs : List Entry) (regs : List ℕ) (p : ℕ) (loc : Loc) (change : Change) (next : ℕ → Tree) (q : List Entry)
    → 1 < length regs → p + 1 ≤ length program → Each (IsOwn c) q
    → value_in regs Ebx ≡ operand change (slice_index (values_along c p (Locks loc change next) (take 1 q ++ xs)) 0)
    → drop (p + 1) program ≡ locking change loc Ebx
    ∷ path (next (slice_index (values_along c p (Locks loc change next) (take 1 q ++ xs)) 0))
    (drop 1 (values_along c p (Locks loc change next) (take 1 q ++ xs)))
    → DrainsBack c program xs (record { place = p + 1; registers = regs; pending = q }) (record { place = p; rest = Locks loc change next; pending = q })
half-drain c program xs regs p loc change next [] l w o held e = record {
  commits = refl;
  after = between (record {
    place = p;
    loc = loc;
    change = change;
    next = next;
    pending = [];
    registers = regs;
    s_is = refl;
    is = refl;
    long = l;
    within = w;
    own = tt;
    held = held;
    left_over = e;
  });
  own = tt;
}
half-drain c program xs regs p loc change next (x ∷ q) l w o held e =
    let same = drain-told c (record { place = p; rest = Locks loc change next; pending = x ∷ q }) xs o in
    record {
      commits = refl;
      after = between (record {
        place = p;
        loc = loc;
        change = change;
        next = next;
        pending = q;
        registers = regs;
        s_is = refl;
        is = refl;
        long = l;
        within = w;
        own = o.1;
        held = held ∙ ap (λ y. operand change (slice_index y 0)) same;
        left_over = e ∙ ap (λ y. locking change loc Ebx ∷ path (next (slice_index y 0)) (drop 1 y)) same;
      });
      own = o;
    }

-- how many commits a drain has depends on what is pending alone
drain-commits : (f : CoreState) → (drain_of f).commits ≡ take 1 f.pending
drain-commits f = go f.pending refl
  where
    go : (q : List Entry) → f.pending ≡ q → (drain_of f).commits ≡ take 1 f.pending
    go [] e = rw e refl
    go (x ∷ q) e = rw e refl

pub tied-drain : (c : ℕ) (program : List Instr) (xs : List Entry) (f : CoreState) (s : TreeCore)
    → Tied c program ((drain_of f).commits ++ xs) f s
    → DrainsBack c program xs f s
tied-drain c program xs f s (level e) =
    let q : (drain_of f).commits ≡ take 1 s.pending = drain-commits f ∙ ap (λ z. take 1 z.pending) e.is in
    let h : Even c program (take 1 s.pending ++ xs) f s = record {
      registers = e.registers;
      is = e.is;
      long = e.long;
      within = e.within;
      own = e.own;
      left_over = e.left_over ∙ ap (λ z. path s.rest (left c s (z ++ xs))) q;
    } in
    record {
      commits = q;
      after = subst (λ z. Tied c program xs (drain_of z).after (drain_tree s).after) (sym e.is) (level (even-drain c program xs f s h));
      own = e.own;
    }
tied-drain c program xs f s (between e) =
    let q : (drain_of f).commits ≡ take 1 e.pending = drain-commits f ∙ ap (λ z. take 1 z.pending) e.is in
    let same = ap (λ z. values_along c e.place (Locks e.loc e.change e.next) (z ++ xs)) q in
    subst (λ z. DrainsBack c program xs z s) (sym e.is)
    (subst (λ z. DrainsBack c program xs (record { place = e.place + 1; registers = e.registers; pending = e.pending }) z) (sym e.s_is)
    (half-drain c program xs e.registers e.place e.loc e.change e.next e.pending e.long e.within e.own
    (e.held ∙ ap (λ y. operand e.change (slice_index y 0)) same)
    (e.left_over ∙ ap (λ y. locking e.change e.loc Ebx ∷ path (e.next (slice_index y 0)) (drop 1 y)) same)))
