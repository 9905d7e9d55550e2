-- What one core may do alone; two memories that agree on the first locations, and pending stores that are the same there.
use Rattle.std.proofs.Common.{◌≡◌, ◌≢◌, ℕ, List, [], ◌∷◌, ◌++◌, filter, Bool, true, false, ◌<◌, ◌≤◌, ◌==◌, ◌&&◌, ◌||◌, if◌then◌else◌}
use Rattle.std.proofs.Common.{length, slice_index, slice_set, arith, ap, sym, ◌∙◌, refl, subst, inl, inr, get_or-set_same, get_or-set_other}
use Rattle.std.proofs.Common.{length-set}
use Rattle.basic_laws.proofs.Basics.{decide, test-false}
use Rattle.tso_terms.specs.ProgramOrder.{same_kind, is_write, writes_to}
use Rattle.tso_terms.specs.Axioms.{last_value}
use Rattle.tso_terms.specs.FlatMachine.{memory_after}
use Rattle.basic_laws.specs.Types.{Entry, W, LW}
use Rattle.branch_laws.specs.Trees.{Tree}
use Rattle.branch_laws.specs.TreeMachine.{TreeCore, TreeEffect, act, drain_tree}

abbrev pub at_tree : ℕ → Tree → List Entry → TreeCore
at_tree p tree q = record { place = p; rest = tree; pending = q }

-- what one core may do alone, from a memory and a state of it to others
pub data Goes (d c : ℕ) : List ℕ → TreeCore → List ℕ → TreeCore → Type 0 where
  stop : (m : List ℕ) (s : TreeCore) → Goes d c m s m s
  step : (m : List ℕ) (s : TreeCore) (n : List ℕ) (t : TreeCore)
      → Goes d c (memory_after (act d m c s.rest s).commits m) (act d m c s.rest s).after n t
      → Goes d c m s n t
  drain : (m : List ℕ) (s : TreeCore) (n : List ℕ) (t : TreeCore) → Goes d c (memory_after (drain_tree s).commits m) (drain_tree s).after n t → Goes d c m s n t

pub goes-on : (d c : ℕ) (m : List ℕ) (s : TreeCore) (n : List ℕ) (t : TreeCore) (k : List ℕ) (u : TreeCore)
    → Goes d c m s n t
    → Goes d c n t k u
    → Goes d c m s k u
goes-on d c m s n t k u (stop x y) h = h
goes-on d c m s n t k u (step x y z w g) h = step x y k u (goes-on d c _ _ n t k u g h)
goes-on d c m s n t k u (drain x y z w g) h = drain x y k u (goes-on d c _ _ n t k u g h)

pub step-by : (d c : ℕ) (m : List ℕ) (s : TreeCore) (g : TreeEffect) (n : List ℕ) (t : TreeCore)
    → act d m c s.rest s ≡ g
    → Goes d c (memory_after g.commits m) g.after n t
    → Goes d c m s n t
step-by d c m s g n t q h = step m s n t (subst (λ z. Goes d c (memory_after z.commits m) z.after n t) (sym q) h)

-- two memories over the first n locations
pub record Agree (n : ℕ) (m k : List ℕ) : Type 0 where
  pub first : n ≤ length m
  pub second : n ≤ length k
  pub same : (loc : ℕ) → loc < n → slice_index k loc ≡ slice_index m loc

pub set-both : (n : ℕ) (m k : List ℕ) (loc v : ℕ) → Agree n m k → Agree n (slice_set m loc v) (slice_set k loc v)
set-both n m k loc v a = record {
  first = (let z = length-set m loc v in let y = a.first in omega arith);
  second = (let z = length-set k loc v in let y = a.second in omega arith);
  same = λ j l. elim (decide j loc) [
    | inl q ↦ subst (λ z. slice_index (slice_set k loc v) z ≡ slice_index (slice_set m loc v) z) (sym q)
        (get_or-set_same k loc v 0 (let z = a.second in omega arith) ∙ sym (get_or-set_same m loc v 0 (let z = a.first in omega arith)))
    | inr q ↦ get_or-set_other k loc j v 0 q ∙ a.same j l ∙ sym (get_or-set_other m loc j v 0 q)
  ];
}

pub set-first : (n : ℕ) (m k : List ℕ) (loc v : ℕ) → n ≤ loc → Agree n m k → Agree n (slice_set m loc v) k
set-first n m k loc v h a = record {
  first = (let z = length-set m loc v in let y = a.first in omega arith);
  second = a.second;
  same = λ j l. a.same j l ∙ sym (get_or-set_other m loc j v 0 (omega arith));
}

pub set-second : (n : ℕ) (m k : List ℕ) (loc v : ℕ) → n ≤ loc → Agree n m k → Agree n m (slice_set k loc v)
set-second n m k loc v h a = record {
  first = a.first;
  second = (let z = length-set k loc v in let y = a.second in omega arith);
  same = λ j l. get_or-set_other k loc j v 0 (omega arith) ∙ a.same j l;
}

-- a store that is committed
pub stored-word : (e : Entry) (m : List ℕ) → e.kind ≡ W → memory_after (e ∷ []) m ≡ slice_set m e.loc.0 e.value
stored-word e m q = go e.kind q
  where
    go : (k : _) → k ≡ W → (if (same_kind k W || same_kind k LW) then slice_set m e.loc.0 e.value else m) ≡ slice_set m e.loc.0 e.value
    go k q = rw q refl

-- two lists of pending stores: those to the first n locations are the same, but for their places
pub data Kept (n : ℕ) : List Entry → List Entry → Type 0 where
  none : Kept n [] []
  both : (e f : Entry) (q r : List Entry) → e.loc.0 < n → f.loc.0 ≡ e.loc.0 → f.value ≡ e.value → e.kind ≡ W → f.kind ≡ W → Kept n q r → Kept n (e ∷ q) (f ∷ r)
  first_alone : (e : Entry) (q r : List Entry) → n ≤ e.loc.0 → e.kind ≡ W → Kept n q r → Kept n (e ∷ q) r
  second_alone : (f : Entry) (q r : List Entry) → n ≤ f.loc.0 → f.kind ≡ W → Kept n q r → Kept n q (f ∷ r)

pub append-both : (n : ℕ) (q r : List Entry) (e f : Entry)
    → e.loc.0 < n
    → f.loc.0 ≡ e.loc.0
    → f.value ≡ e.value
    → e.kind ≡ W
    → f.kind ≡ W
    → Kept n q r
    → Kept n (q ++ e ∷ []) (r ++ f ∷ [])
append-both n q r e f l a b i j none = both e f [] [] l a b i j none
append-both n q r e f l a b i j (both x y u v h c d k m t) = both x y (u ++ e ∷ []) (v ++ f ∷ []) h c d k m (append-both n u v e f l a b i j t)
append-both n q r e f l a b i j (first_alone x u v h k t) = first_alone x (u ++ e ∷ []) (v ++ f ∷ []) h k (append-both n u v e f l a b i j t)
append-both n q r e f l a b i j (second_alone x u v h k t) = second_alone x (u ++ e ∷ []) (v ++ f ∷ []) h k (append-both n u v e f l a b i j t)

pub append-first : (n : ℕ) (q r : List Entry) (e : Entry) → n ≤ e.loc.0 → e.kind ≡ W → Kept n q r → Kept n (q ++ e ∷ []) r
append-first n q r e l i none = first_alone e [] [] l i none
append-first n q r e l i (both x y u v h c d k m t) = both x y (u ++ e ∷ []) v h c d k m (append-first n u v e l i t)
append-first n q r e l i (first_alone x u v h k t) = first_alone x (u ++ e ∷ []) v h k (append-first n u v e l i t)
append-first n q r e l i (second_alone x u v h k t) = second_alone x (u ++ e ∷ []) v h k (append-first n u v e l i t)

pub append-second : (n : ℕ) (q r : List Entry) (f : Entry) → n ≤ f.loc.0 → f.kind ≡ W → Kept n q r → Kept n q (r ++ f ∷ [])
append-second n q r f l i none = second_alone f [] [] l i none
append-second n q r f l i (both x y u v h c d k m t) = both x y u (v ++ f ∷ []) h c d k m (append-second n u v f l i t)
append-second n q r f l i (first_alone x u v h k t) = first_alone x u (v ++ f ∷ []) h k (append-second n u v f l i t)
append-second n q r f l i (second_alone x u v h k t) = second_alone x u (v ++ f ∷ []) h k (append-second n u v f l i t)

-- both have the same value for a load
skips-one : (loc : ℕ) (e : Entry) (es : List Entry) → e.loc.0 ≢ loc → filter (writes_to loc) (e ∷ es) ≡ filter (writes_to loc) es
skips-one loc e es n = ap (λ z. if z then e ∷ filter (writes_to loc) es else filter (writes_to loc) es) (go (is_write e))
  where
    go : (t : Bool) → (t && (e.loc.0 == loc)) ≡ false
    go true = test-false e.loc.0 loc n
    go false = refl

kind-writes : (e : Entry) (loc : ℕ) → e.kind ≡ W → writes_to loc e ≡ (e.loc.0 == loc)
kind-writes e loc q = rw q refl

pub same-load : (n loc : ℕ) (q r : List Entry) (v w : ℕ)
    → loc < n
    → v ≡ w
    → Kept n q r
    → last_value (filter (writes_to loc) q) v ≡ last_value (filter (writes_to loc) r) w
same-load n loc q r v w l g none = g
same-load n loc q r v w l g (both e f u t h a b i j k) = go (e.loc.0 == loc) refl
    (λ x y z. same-load n loc u t x y l z k)
  where
    go : (s : Bool) → (e.loc.0 == loc) ≡ s → ((x y : ℕ) → x ≡ y → last_value (filter (writes_to loc) u) x ≡ last_value (filter (writes_to loc) t) y)
        → last_value (filter (writes_to loc) (e ∷ u)) v ≡ last_value (filter (writes_to loc) (f ∷ t)) w
    go true s again =
        ap (λ z. last_value (if z then e ∷ filter (writes_to loc) u else filter (writes_to loc) u) v) (kind-writes e loc i ∙ s)
        ∙ again e.value f.value (sym b)
        ∙ sym (ap (λ z. last_value (if z then f ∷ filter (writes_to loc) t else filter (writes_to loc) t) w) (kind-writes f loc j ∙ ap (λ z. z == loc) a ∙ s))
    go false s again =
        ap (λ z. last_value (if z then e ∷ filter (writes_to loc) u else filter (writes_to loc) u) v) (kind-writes e loc i ∙ s)
        ∙ again v w g
        ∙ sym (ap (λ z. last_value (if z then f ∷ filter (writes_to loc) t else filter (writes_to loc) t) w) (kind-writes f loc j ∙ ap (λ z. z == loc) a ∙ s))
same-load n loc q r v w l g (first_alone e u t h i k) =
    ap (λ z. last_value z v) (skips-one loc e u (omega arith)) ∙ same-load n loc u t v w l g k
same-load n loc q r v w l g (second_alone f u t h i k) =
    same-load n loc u t v w l g k ∙ sym (ap (λ z. last_value z w) (skips-one loc f t (omega arith)))
