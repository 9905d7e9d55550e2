-- What is left for a tree to read, in the entries that are still to come.
use Rattle.std.proofs.Common.{◌≡◌, ◌≢◌, ℕ, ◌+◌, List, [], ◌∷◌, ◌++◌, Option, Bool, true, false, ◌==◌, ◌&&◌, ◌<◌, ◌≤◌, nat_lt, if◌then◌else◌}
use Rattle.std.proofs.Common.{length, slice_index, take, arith, ap, sym, ◌∙◌, refl, subst}
use Rattle.basic_laws.proofs.Basics.{test-false, test-true}
use Rattle.basic_laws.proofs.Lists.{Each}
use Rattle.tso_terms.specs.Thread.{entry, fence}
use Rattle.tso_terms.specs.ProgramOrder.{same_kind}
use Rattle.tso_terms.specs.ProgramEntries.{read_value, is_at}
use Rattle.tso_terms.specs.FlatMachine.{is_none_pending}
use Rattle.basic_laws.specs.Types.{Entry, Loc, R, W, LR, LW}
use Rattle.branch_laws.specs.Trees.{Change, Tree, Done, Cut, Reads, Stores, Fences, Locks, written, values_along, outputs_along}
use Rattle.branch_laws.specs.TreeMachine.{TreeCore, TreeEffect, stays, seen_value, act}

-- no read of this core at this place or a later one
abbrev pub Unseen : ℕ → ℕ → Entry → Type 0
Unseen c p e = (k : ℕ) → p ≤ k → (is_at c k R e ≡ false) × (is_at c k LR e ≡ false)

pub unseen-other : (c p : ℕ) (e : Entry) → e.core.0 ≢ c → Unseen c p e
unseen-other c p e n k l = (rw (test-false e.core.0 c n) refl, rw (test-false e.core.0 c n) refl)

third-false : (a b : Bool) → (a && b && false) ≡ false
third-false true true = refl
third-false true false = refl
third-false false b = refl

second-false : (a b : Bool) → (a && false && b) ≡ false
second-false true b = refl
second-false false b = refl

pub unseen-write : (c p : ℕ) (e : Entry) → e.kind ≡ W → Unseen c p e
unseen-write c p e q k l = (
  subst (λ z. ((e.core.0 == c) && (e.place == k) && same_kind z R) ≡ false) (sym q) (third-false (e.core.0 == c) (e.place == k)),
  subst (λ z. ((e.core.0 == c) && (e.place == k) && same_kind z LR) ≡ false) (sym q) (third-false (e.core.0 == c) (e.place == k)),
)

pub unseen-before : (c p : ℕ) (e : Entry) → e.place < p → Unseen c p e
unseen-before c p e l k m = (
  subst (λ z. ((e.core.0 == c) && z && same_kind e.kind R) ≡ false) (sym (test-false e.place k (omega arith)))
      (second-false (e.core.0 == c) (same_kind e.kind R)),
  subst (λ z. ((e.core.0 == c) && z && same_kind e.kind LR) ≡ false) (sym (test-false e.place k (omega arith)))
      (second-false (e.core.0 == c) (same_kind e.kind LR)),
)

chosen-false : (t : Bool) (v w : ℕ) → t ≡ false → (if t then v else w) ≡ w
chosen-false t v w q = rw q refl

chosen-true : (t : Bool) (v w : ℕ) → t ≡ true → (if t then v else w) ≡ v
chosen-true t v w q = rw q refl

skip-one : (c p : ℕ) (tree : Tree) (e : Entry) (xs : List Entry) → Unseen c p e → values_along c p tree (e ∷ xs) ≡ values_along c p tree xs
skip-one c p (Done outputs) e xs u = refl
skip-one c p Cut e xs u = refl
skip-one c p (Reads loc next) e xs u =
    let w : ℕ = read_value c p R xs in
    let q : read_value c p R (e ∷ xs) ≡ w = chosen-false (is_at c p R e) e.value w (u p (omega arith)).0 in
    ap (λ z. z ∷ values_along c (p + 1) (next z) (e ∷ xs)) q ∙ ap (λ z. w ∷ z) (skip-one c (p + 1) (next w) e xs (λ k l. u k (omega arith)))
skip-one c p (Stores loc value next) e xs u = skip-one c (p + 1) next e xs (λ k l. u k (omega arith))
skip-one c p (Fences next) e xs u = skip-one c (p + 1) next e xs (λ k l. u k (omega arith))
skip-one c p (Locks loc change next) e xs u =
    let w : ℕ = read_value c (p + 1) LR xs in
    let q : read_value c (p + 1) LR (e ∷ xs) ≡ w = chosen-false (is_at c (p + 1) LR e) e.value w (u (p + 1) (omega arith)).1 in
    ap (λ z. z ∷ values_along c ((p + 1) + 1) (next z) (e ∷ xs)) q ∙ ap (λ z. w ∷ z) (skip-one c ((p + 1) + 1) (next w) e xs (λ k l. u k (omega arith)))

pub skip : (c p : ℕ) (tree : Tree) (es xs : List Entry) → Each (Unseen c p) es → values_along c p tree (es ++ xs) ≡ values_along c p tree xs
skip c p tree [] xs u = refl
skip c p tree (e ∷ es) xs u = skip-one c p tree e (es ++ xs) u.0 ∙ skip c p tree es xs u.1

here : (c p : ℕ) → ((c == c) && (p == p) && true) ≡ true
here c p = subst (λ z. (z && (p == p) && true) ≡ true) (sym (test-true c c refl)) (subst (λ z. (true && z && true) ≡ true) (sym (test-true p p refl)) refl)

pub reads-left : (c p : ℕ) (loc : Loc) (next : ℕ → Tree) (v : ℕ) (xs : List Entry)
    → values_along c p (Reads loc next) (entry c p R loc v ∷ xs) ≡ v ∷ values_along c (p + 1) (next v) xs
reads-left c p loc next v xs =
    let e : Entry = entry c p R loc v in
    let q : read_value c p R (e ∷ xs) ≡ v = chosen-true (is_at c p R e) v (read_value c p R xs) (here c p) in
    ap (λ z. z ∷ values_along c (p + 1) (next z) (e ∷ xs)) q ∙ ap (λ z. v ∷ z) (skip-one c (p + 1) (next v) e xs (unseen-before c (p + 1) e (omega arith)))

pub fences-left : (c p : ℕ) (next : Tree) (xs : List Entry) → values_along c p (Fences next) (fence c p ∷ xs) ≡ values_along c (p + 1) next xs
fences-left c p next xs = skip-one c (p + 1) next (fence c p) xs (unseen-before c (p + 1) (fence c p) (omega arith))

pub locks-left : (c p : ℕ) (loc : Loc) (change : Change) (next : ℕ → Tree) (v u : ℕ) (xs : List Entry)
    → values_along c p (Locks loc change next) (entry c (p + 1) LR loc v ∷ (entry c (p + 1) LW loc u ∷ xs)) ≡ v ∷ values_along c ((p + 1) + 1) (next v) xs
locks-left c p loc change next v u xs =
    let e : Entry = entry c (p + 1) LR loc v in let f : Entry = entry c (p + 1) LW loc u in
    let q : read_value c (p + 1) LR (e ∷ (f ∷ xs)) ≡ v = chosen-true (is_at c (p + 1) LR e) v (read_value c (p + 1) LR (f ∷ xs)) (here c (p + 1)) in
    ap (λ z. z ∷ values_along c ((p + 1) + 1) (next z) (e ∷ (f ∷ xs))) q
    ∙ ap (λ z. v ∷ z) (skip-one c ((p + 1) + 1) (next v) e (f ∷ xs) (unseen-before c ((p + 1) + 1) e (omega arith))
    ∙ skip-one c ((p + 1) + 1) (next v) f xs (unseen-before c ((p + 1) + 1) f (omega arith)))

-- what a core has still to read, and the outputs that this leads to
abbrev pub left : ℕ → TreeCore → List Entry → List ℕ
left c s xs = values_along c s.place s.rest xs

abbrev pub told : ℕ → TreeCore → List Entry → Option (List ℕ)
told c s xs = outputs_along s.rest (left c s xs)

-- a plain store of this core
pub record IsOwn (c : ℕ) (e : Entry) : Type 0 where
  pub core : e.core.0 ≡ c
  pub kind : e.kind ≡ W

own-unseen : (c p : ℕ) (es : List Entry) → Each (IsOwn c) es → Each (Unseen c p) (take 1 es)
own-unseen c p [] o = tt
own-unseen c p (e ∷ es) o = (unseen-write c p e o.0.kind, tt)

pub drain-told : (c : ℕ) (s : TreeCore) (xs : List Entry) → Each (IsOwn c) s.pending → left c s (take 1 s.pending ++ xs) ≡ left c s xs
drain-told c s xs o = skip c s.place s.rest (take 1 s.pending) xs (own-unseen c s.place s.pending o)

-- a step tells no other outputs
pub act-told : (d : ℕ) (memory : List ℕ) (c p : ℕ) (tree : Tree) (q xs : List Entry)
    → told c (record { place = p; rest = tree; pending = q }) ((act d memory c tree (record { place = p; rest = tree; pending = q })).commits ++ xs)
    ≡ told c (act d memory c tree (record { place = p; rest = tree; pending = q })).after xs
act-told d memory c p (Done outputs) q xs = refl
act-told d memory c p Cut q xs = refl
act-told d memory c p (Reads loc next) q xs = ap (λ z. outputs_along (Reads loc next) z) (reads-left c p loc next (seen_value memory q loc.0) xs)
act-told d memory c p (Stores loc value next) q xs = go (nat_lt (length q) d)
  where
    s : TreeCore
    s = record { place = p; rest = Stores loc value next; pending = q }

    g : TreeEffect
    g = record { after = record { place = p + 1; rest = next; pending = q ++ entry c p W loc value ∷ [] }; commits = [] }

    go : (t : Bool) → told c s ((if t then g else stays s).commits ++ xs) ≡ told c (if t then g else stays s).after xs
    go true = refl
    go false = refl
act-told d memory c p (Fences next) q xs = go (is_none_pending q)
  where
    s : TreeCore
    s = record { place = p; rest = Fences next; pending = q }

    g : TreeEffect
    g = record { after = record { place = p + 1; rest = next; pending = q }; commits = fence c p ∷ [] }

    go : (t : Bool) → told c s ((if t then g else stays s).commits ++ xs) ≡ told c (if t then g else stays s).after xs
    go true = ap (λ z. outputs_along next z) (fences-left c p next xs)
    go false = refl
act-told d memory c p (Locks loc change next) q xs = go (is_none_pending q)
  where
    v : ℕ
    v = slice_index memory loc.0

    s : TreeCore
    s = record { place = p; rest = Locks loc change next; pending = q }

    g : TreeEffect
    g = record {
      after = record { place = (p + 1) + 1; rest = next v; pending = q };
      commits = entry c (p + 1) LR loc v ∷ (entry c (p + 1) LW loc (written change v) ∷ []);
    }

    go : (t : Bool) → told c s ((if t then g else stays s).commits ++ xs) ≡ told c (if t then g else stays s).after xs
    go true = ap (λ z. outputs_along (Locks loc change next) z) (locks-left c p loc change next v (written change v) xs)
    go false = refl
