-- One core: what a step of its tree does, the straight-line program of its path does too.
use Rattle.std.proofs.Common.{◌≡◌, ◌≢◌, ℕ, ◌+◌, zero, suc, List, [], ◌∷◌, ◌++◌, Some, Bool, true, false, ◌<◌, ◌≤◌, nat_lt, if◌then◌else◌}
use Rattle.std.proofs.Common.{length, slice_index, slice_get, take, drop, arith, ap, sym, ◌∙◌, refl, subst}
use Rattle.basic_laws.proofs.Lists.{Each, each-append}
use Rattle.tso_terms.specs.Actions.{action_of}
use Rattle.tso_terms.specs.Thread.{entry, fence, with_value}
use Rattle.tso_terms.specs.FlatMachine.{CoreState, Effect, is_none_pending, effect_by, stalled, drain_of}
use Rattle.tso_terms.specs.declared.choice.Stall.TheVariants as stall
use Rattle.basic_laws.specs.Types.{Entry, Instr, W, LR, LW, Eax, Ebx, Load, StoreImm, SetImm, Fence, Committed, Buffered}
use Rattle.branch_laws.specs.Trees.{Tree, Done, Cut, Reads, Stores, Fences, Locks, written, operand, locking, path}
use Rattle.branch_laws.specs.TreeMachine.{TreeCore, TreeEffect, stays, seen_value, act, drain_tree}
use Rattle.branch_laws.proofs.Locking.{locking-step}
use Rattle.branch_laws.proofs.Splitting.{still-long, moved-in}
use Rattle.branch_laws.proofs.Values.{Unseen, unseen-other, skip, reads-left, fences-left, locks-left, left, IsOwn, drain-told}

abbrev pub flat : TreeCore → List ℕ → CoreState
flat s regs = record { place = s.place; registers = regs; pending = s.pending }

-- the flat core is where the tree is, and what is left of its program is the path of what is still to come
pub record Even (c : ℕ) (program : List Instr) (xs : List Entry) (f : CoreState) (s : TreeCore) : Type 0 where
  pub registers : List ℕ
  pub is : f ≡ flat s registers
  pub long : 1 < length registers
  pub within : s.place ≤ length program
  pub own : Each (IsOwn c) s.pending
  pub left_over : drop s.place program ≡ path s.rest (left c s xs)

pub record AtDrop (p : List Instr) (k : ℕ) (i : Instr) (rest : List Instr) : Type 0 where
  pub at : slice_get p k ≡ Some i
  pub next : drop (k + 1) p ≡ rest
  pub within : k + 1 ≤ length p

first-of : (x y : Instr) (p q : List Instr) → x ∷ p ≡ y ∷ q → x ≡ y
first-of x y p q e = cc

rest-of : (x y : Instr) (p q : List Instr) → x ∷ p ≡ y ∷ q → p ≡ q
rest-of x y p q e = cc

pub at-drop : (p : List Instr) (k : ℕ) (i : Instr) (rest : List Instr) → drop k p ≡ i ∷ rest → AtDrop p k i rest
at-drop [] zero i rest e = absurd (let z : ⊥ = cc in z)
at-drop [] (suc k) i rest e = absurd (let z : ⊥ = cc in z)
at-drop (x ∷ p) zero i rest e = record { at = ap Some (first-of x i p rest e); next = rest-of x i p rest e; within = omega arith }
at-drop (x ∷ p) (suc k) i rest e =
    let r = at-drop p k i rest e in
    record {
      at = r.at;
      next = subst (λ z. drop z (x ∷ p) ≡ rest) (let z : suc (k + 1) ≡ suc k + 1 = omega arith in z) r.next;
      within = (let w = r.within in omega arith);
    }

pub drop-all : (p : List Instr) (k : ℕ) → drop k p ≡ [] → k ≤ length p → length p ≡ k
drop-all [] zero e l = refl
drop-all [] (suc k) e l = absurd (omega arith)
drop-all (x ∷ p) zero e l = absurd (let z : ⊥ = cc in z)
drop-all (x ∷ p) (suc k) e l = ap suc (drop-all p k e (omega arith))

-- entries of another core change nothing in what is left
of-unseen : (c k p : ℕ) (es : List Entry) → k ≢ c → Each (λ e. e.core.0 ≡ c) es → Each (Unseen k p) es
of-unseen c k p [] n h = tt
of-unseen c k p (e ∷ es) n h = (unseen-other k p e (λ q. n (sym q ∙ h.0)), of-unseen c k p es n h.1)

pub left-other : (c k : ℕ) (s : TreeCore) (es xs : List Entry) → k ≢ c → Each (λ e. e.core.0 ≡ c) es → left k s (es ++ xs) ≡ left k s xs
left-other c k s es xs n h = skip k s.place s.rest es xs (of-unseen c k s.place es n h)

pub even-other : (c k : ℕ) (program : List Instr) (es xs : List Entry) (f : CoreState) (s : TreeCore) → k ≢ c → Each (λ e. e.core.0 ≡ c) es
    → Even k program (es ++ xs) f s → Even k program xs f s
even-other c k program es xs f s n h e = record {
  registers = e.registers;
  is = e.is;
  long = e.long;
  within = e.within;
  own = e.own;
  left_over = e.left_over ∙ ap (λ z. path s.rest z) (left-other c k s es xs n h);
}

-- a step of the tree is none, one or two steps of the program
pub data OneCore (d : ℕ) (memory : List ℕ) (c : ℕ) (program : List Instr) (xs : List Entry) (s : TreeCore) (regs : List ℕ) (g : TreeEffect) : Type 0 where
  none : g ≡ stays s → OneCore d memory c program xs s regs g
  one : (i : Instr) (first : Effect) → slice_get program s.place ≡ Some i → effect_by d memory c (action_of i) (flat s regs) ≡ first
      → first.commits ≡ g.commits → Even c program xs first.after g.after → OneCore d memory c program xs s regs g
  two : (i j : Instr) (first second : Effect) → slice_get program s.place ≡ Some i → effect_by d memory c (action_of i) (flat s regs) ≡ first
      → first.commits ≡ [] → slice_get program first.after.place ≡ Some j → effect_by d memory c (action_of j) first.after ≡ second
      → second.commits ≡ g.commits → Even c program xs second.after g.after → OneCore d memory c program xs s regs g

pub one-core : (n : ℕ) (memory : List ℕ) (c : ℕ) (program : List Instr) (xs : List Entry) (regs : List ℕ) (p : ℕ) (tree : Tree) (q : List Entry)
    → 1 < length regs → p ≤ length program → Each (IsOwn c) q
    → drop p program ≡ path tree
    (left c (record { place = p; rest = tree; pending = q })
    ((act (suc n) memory c tree (record { place = p; rest = tree; pending = q })).commits ++ xs))
    → OneCore (suc n) memory c program xs (record { place = p; rest = tree; pending = q }) regs
    (act (suc n) memory c tree (record { place = p; rest = tree; pending = q }))
one-core n memory c program xs regs p (Done outputs) q l w o e = none refl
one-core n memory c program xs regs p Cut q l w o e = none refl
one-core n memory c program xs regs p (Reads loc next) q l w o e =
    let v : ℕ = seen_value memory q loc.0 in
    let a = at-drop program p (Load Eax loc) _ (e ∙ ap (λ z. path (Reads loc next) z) (reads-left c p loc next v xs)) in
    one (Load Eax loc) (effect_by (suc n) memory c (action_of (Load Eax loc)) (flat (record {
      place = p;
      rest = Reads loc next;
      pending = q;
    }) regs))
    a.at refl refl (record {
      registers = with_value regs Eax v;
      is = refl;
      long = still-long regs 0 v l;
      within = a.within;
      own = o;
      left_over = a.next;
    })
one-core n memory c program xs regs p (Stores loc value next) q l w o e = go (nat_lt (length q) (suc n)) refl e
  where
    s : TreeCore
    s = record { place = p; rest = Stores loc value next; pending = q }

    x : Entry
    x = entry c p W loc value

    g : TreeEffect
    g = record { after = record { place = p + 1; rest = next; pending = q ++ x ∷ [] }; commits = [] }

    done : Effect
    done = record { outcome = Buffered; after = record { place = p + 1; registers = regs; pending = q ++ x ∷ [] }; commits = [] }

    go : (t : Bool) → nat_lt (length q) (suc n) ≡ t → drop p program ≡ path (Stores loc value next) (left c s ((if t then g else stays s).commits ++ xs))
        → OneCore (suc n) memory c program xs s regs (if t then g else stays s)
    go true b e =
        let a = at-drop program p (StoreImm loc value) _ e in
        one (StoreImm loc value) done a.at (ap (λ z. if z then done else stalled stall.Full (flat s regs)) b) refl (record {
          registers = regs;
          is = refl;
          long = l;
          within = a.within;
          own = each-append (IsOwn c) q (x ∷ []) o (record { core = refl; kind = refl }, tt);
          left_over = a.next;
        })
    go false b e = none refl
one-core n memory c program xs regs p (Fences next) q l w o e = go (is_none_pending q) refl e
  where
    s : TreeCore
    s = record { place = p; rest = Fences next; pending = q }

    g : TreeEffect
    g = record { after = record { place = p + 1; rest = next; pending = q }; commits = fence c p ∷ [] }

    done : Effect
    done = record { outcome = Committed; after = record { place = p + 1; registers = regs; pending = q }; commits = fence c p ∷ [] }

    go : (t : Bool) → is_none_pending q ≡ t → drop p program ≡ path (Fences next) (left c s ((if t then g else stays s).commits ++ xs))
        → OneCore (suc n) memory c program xs s regs (if t then g else stays s)
    go true b e =
        let a = at-drop program p Fence _ (e ∙ ap (λ z. path (Fences next) z) (fences-left c p next xs)) in
        one Fence done a.at (ap (λ z. if z then done else stalled stall.Fence (flat s regs)) b) refl (record {
          registers = regs;
          is = refl;
          long = l;
          within = a.within;
          own = o;
          left_over = a.next;
        })
    go false b e = none refl
one-core n memory c program xs regs p (Locks loc change next) q l w o e = go (is_none_pending q) refl e
  where
    v : ℕ
    v = slice_index memory loc.0

    s : TreeCore
    s = record { place = p; rest = Locks loc change next; pending = q }

    u : ℕ
    u = operand change v

    held : List ℕ
    held = with_value regs Ebx u

    m : CoreState
    m = record { place = p + 1; registers = held; pending = q }

    g : TreeEffect
    g = record {
      after = record { place = (p + 1) + 1; rest = next v; pending = q };
      commits = entry c (p + 1) LR loc v ∷ (entry c (p + 1) LW loc (written change v) ∷ []);
    }

    done : Effect
    done = record {
      outcome = Committed;
      after = record { place = (p + 1) + 1; registers = with_value held Ebx v; pending = q };
      commits = entry c (p + 1) LR loc v ∷ (entry c (p + 1) LW loc (written change v) ∷ []);
    }

    go : (t : Bool) → is_none_pending q ≡ t → drop p program ≡ path (Locks loc change next) (left c s ((if t then g else stays s).commits ++ xs))
        → OneCore (suc n) memory c program xs s regs (if t then g else stays s)
    go true b e =
        let a = at-drop program p (SetImm Ebx u) _ (e ∙ ap (λ z. path (Locks loc change next) z) (locks-left c p loc change next v (written change v) xs)) in
        let a2 = at-drop program (p + 1) (locking change loc Ebx) _ a.next in
        two (SetImm Ebx u) (locking change loc Ebx) (effect_by (suc n) memory c (action_of (SetImm Ebx u)) (flat s regs)) done a.at refl refl a2.at
        (locking-step (suc n) memory c change loc Ebx m (moved-in regs u l) ∙ ap (λ z. if z then done else stalled stall.Lock m) b)
        refl
        (record {
          registers = with_value held Ebx v;
          is = refl;
          long = still-long held 1 v (still-long regs 1 u l);
          within = a2.within;
          own = o;
          left_over = a2.next;
        })
    go false b e = none refl

-- the entries of a step are of its core
pub act-core : (d : ℕ) (memory : List ℕ) (c : ℕ) (tree : Tree) (s : TreeCore) → Each (λ e. e.core.0 ≡ c) (act d memory c tree s).commits
act-core d memory c (Done outputs) s = tt
act-core d memory c Cut s = tt
act-core d memory c (Reads loc next) s = (refl, tt)
act-core d memory c (Stores loc value next) s = go (nat_lt (length s.pending) d)
  where
    go : (t : Bool)
        → Each (λ e. e.core.0 ≡ c)
        (if t
        then record {
          after = record { place = s.place + 1; rest = next; pending = s.pending ++ entry c s.place W loc value ∷ [] };
          commits = [];
        }
        else stays s).commits
    go true = tt
    go false = tt
act-core d memory c (Fences next) s = go (is_none_pending s.pending)
  where
    go : (t : Bool)
        → Each (λ e. e.core.0 ≡ c)
        (if t
        then record {
          after = record { place = s.place + 1; rest = next; pending = s.pending };
          commits = fence c s.place ∷ [];
        }
        else stays s).commits
    go true = (refl, tt)
    go false = tt
act-core d memory c (Locks loc change next) s = go (is_none_pending s.pending)
  where
    go : (t : Bool) → Each (λ e. e.core.0 ≡ c) (if t then record {
      after = record { place = (s.place + 1) + 1; rest = next (slice_index memory loc.0); pending = s.pending };
      commits = entry c (s.place + 1) LR loc (slice_index memory loc.0) ∷ (entry c (s.place + 1) LW loc (written change (slice_index memory loc.0)) ∷ []);
    } else stays s).commits
    go true = (refl, (refl, tt))
    go false = tt

pub take-core : (c : ℕ) (q : List Entry) → Each (IsOwn c) q → Each (λ e. e.core.0 ≡ c) (take 1 q)
take-core c [] o = tt
take-core c (e ∷ q) o = (o.0.core, tt)

pub drop-own : (c : ℕ) (q : List Entry) → Each (IsOwn c) q → Each (IsOwn c) (drop 1 q)
drop-own c [] o = tt
drop-own c (e ∷ q) o = o.1

-- a drain of the tree is one of the flat core
pub record Drains (s : TreeCore) (regs : List ℕ) : Type 0 where
  pub after : (drain_of (flat s regs)).after ≡ flat (drain_tree s).after regs
  pub commits : (drain_of (flat s regs)).commits ≡ take 1 s.pending

pub drains : (p : ℕ) (tree : Tree) (q : List Entry) (regs : List ℕ) → Drains (record { place = p; rest = tree; pending = q }) regs
drains p tree [] regs = record { after = refl; commits = refl }
drains p tree (e ∷ q) regs = record { after = refl; commits = refl }

pub even-drain : (c : ℕ) (program : List Instr) (xs : List Entry) (f : CoreState) (s : TreeCore)
    → (e : Even c program (take 1 s.pending ++ xs) f s) → Even c program xs (drain_of (flat s e.registers)).after (drain_tree s).after
even-drain c program xs f s e = record {
  registers = e.registers;
  is = (drains s.place s.rest s.pending e.registers).after;
  long = e.long;
  within = e.within;
  own = drop-own c s.pending e.own;
  left_over = e.left_over ∙ ap (λ z. path s.rest z) (drain-told c s xs e.own);
}
