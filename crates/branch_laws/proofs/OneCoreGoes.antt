-- One core of the machine over trees by itself: what it does at a step of another tree that has the same path.
use Rattle.std.proofs.Common.{◌≡◌, ℕ, ◌+◌, suc, List, [], ◌∷◌, ◌++◌, Bool, true, false, ◌<◌, ◌≤◌, nat_lt, if◌then◌else◌, length}
use Rattle.std.proofs.Common.{slice_index, slice_set, take, drop, arith, ap, sym, ◌∙◌, refl, subst}
use Rattle.std.proofs.lemmas.Bool.Decides.{nat_tests}
use Rattle.basic_laws.proofs.Lists.{Each, each-append}
use Rattle.tso_terms.specs.Thread.{entry, fence}
use Rattle.tso_terms.specs.FlatMachine.{is_none_pending, memory_after}
use Rattle.basic_laws.specs.Types.{Entry, Loc, W, LR, LW}
use Rattle.branch_laws.specs.Trees.{Change, Tree, Done, Reads, Stores, Fences, Locks, written, values_along}
use Rattle.branch_laws.specs.TreeMachine.{TreeCore, TreeEffect, stays, seen_value, act}
use Rattle.branch_laws.specs.SamePaths.{IsSamePath, both_end, both_read, both_store, both_fence, both_lock, reads_alone, stores_alone, other_stores}
use Rattle.branch_laws.proofs.Values.{reads-left, fences-left, locks-left, left, IsOwn}
use Rattle.branch_laws.proofs.KeptStores.{at_tree, Goes, stop, step, drain, goes-on, step-by, Agree, set-both, set-first, set-second}
use Rattle.branch_laws.proofs.KeptStores.{stored-word, Kept, none, both, first_alone, second_alone, append-both, append-first}
use Rattle.branch_laws.proofs.KeptStores.{append-second, same-load}

-- the same path, with the number of stores that the second tree still makes
pub data Runs (n : ℕ) : ℕ → Tree → List ℕ → Tree → Type 0 where
  to_end : (outputs : List ℕ) → Runs n 0 (Done outputs) [] (Done outputs)
  by_read : (k : ℕ) (loc : Loc) (next more : ℕ → Tree) (v : ℕ) (values : List ℕ)
      → loc.0 < n
      → Runs n k (next v) values (more v)
      → Runs n k (Reads loc next) (v ∷ values) (Reads loc more)
  by_store : (k : ℕ) (loc : Loc) (value : ℕ) (next more : Tree) (values : List ℕ)
      → loc.0 < n
      → Runs n k next values more
      → Runs n (suc k) (Stores loc value next) values (Stores loc value more)
  by_fence : (k : ℕ) (next more : Tree) (values : List ℕ) → Runs n k next values more → Runs n k (Fences next) values (Fences more)
  by_lock : (k : ℕ) (loc : Loc) (change : Change) (next more : ℕ → Tree) (v : ℕ) (values : List ℕ)
      → loc.0 < n
      → Runs n k (next v) values (more v)
      → Runs n k (Locks loc change next) (v ∷ values) (Locks loc change more)
  read_alone : (k : ℕ) (loc : Loc) (next : ℕ → Tree) (v : ℕ) (values : List ℕ) (other : Tree)
      → Runs n k (next v) values other
      → Runs n k (Reads loc next) (v ∷ values) other
  store_alone : (k : ℕ) (loc : Loc) (value : ℕ) (next : Tree) (values : List ℕ) (other : Tree)
      → n ≤ loc.0
      → Runs n k next values other
      → Runs n k (Stores loc value next) values other
  other_store : (k : ℕ) (loc : Loc) (value : ℕ) (tree : Tree) (values : List ℕ) (other : Tree)
      → n ≤ loc.0
      → Runs n k tree values other
      → Runs n (suc k) tree values (Stores loc value other)

pub counted : (n : ℕ) (tree : Tree) (values : List ℕ) (other : Tree) → IsSamePath n tree values other → (k : ℕ) × Runs n k tree values other
counted n tree values other (both_end outputs) = (0, to_end outputs)
counted n tree values other (both_read loc next more v vs l h) = let r = counted n (next v) vs (more v) h in (r.0, by_read r.0 loc next more v vs l r.1)
counted n tree values other (both_store loc value next more vs l h) = let r = counted n next vs more h in (suc r.0, by_store r.0 loc value next more vs l r.1)
counted n tree values other (both_fence next more vs h) = let r = counted n next vs more h in (r.0, by_fence r.0 next more vs r.1)
counted n tree values other (both_lock loc change next more v vs l h) =
    let r = counted n (next v) vs (more v) h in (r.0, by_lock r.0 loc change next more v vs l r.1)
counted n tree values other (reads_alone loc next v vs o h) = let r = counted n (next v) vs o h in (r.0, read_alone r.0 loc next v vs o r.1)
counted n tree values other (stores_alone loc value next vs o l h) = let r = counted n next vs o h in (r.0, store_alone r.0 loc value next vs o l r.1)
counted n tree values other (other_stores loc value t vs o l h) = let r = counted n t vs o h in (suc r.0, other_store r.0 loc value t vs o l r.1)

-- a core of each machine, with what is still to come
pub record Tie (n d c : ℕ) (xs : List Entry) (s t : TreeCore) : Type 0 where
  pub stores : ℕ
  pub path : Runs n stores s.rest (left c s xs) t.rest
  pub kept : Kept n s.pending t.pending
  pub room : length t.pending + stores < d
  pub own : Each (IsOwn c) s.pending

-- what the second core does at what the first one does
pub record Answer (n d c : ℕ) (xs : List Entry) (m : List ℕ) (s : TreeCore) (k : List ℕ) (t : TreeCore) : Type 0 where
  pub memory : List ℕ
  pub after : TreeCore
  pub goes : Goes d c k t memory after
  pub agree : Agree n m memory
  pub tie : Tie n d c xs s after

before-that : (n d c : ℕ) (xs : List Entry) (m : List ℕ) (s : TreeCore) (k : List ℕ) (t : TreeCore) (k2 : List ℕ) (t2 : TreeCore)
    → Goes d c k t k2 t2 → Answer n d c xs m s k2 t2 → Answer n d c xs m s k t
before-that n d c xs m s k t k2 t2 g a = record {
  memory = a.memory;
  after = a.after;
  goes = goes-on d c k t k2 t2 a.memory a.after g a.goes;
  agree = a.agree;
  tie = a.tie;
}

-- with nothing pending at the first, the second drains what it has
record Drained (n d c : ℕ) (m : List ℕ) (k : List ℕ) (p : ℕ) (other : Tree) (r : List Entry) : Type 0 where
  pub memory : List ℕ
  pub goes : Goes d c k (at_tree p other r) memory (at_tree p other [])
  pub agree : Agree n m memory

drain-all : (n d c : ℕ) (m k : List ℕ) (p : ℕ) (other : Tree) (q r : List Entry) → q ≡ [] → Agree n m k → Kept n q r → Drained n d c m k p other r
drain-all n d c m k p other q r e a none = record { memory = k; goes = stop k (at_tree p other []); agree = a }
drain-all n d c m k p other q r e a (both x y u v h b i j l t) = absurd (let z : ⊥ = cc in z)
drain-all n d c m k p other q r e a (first_alone x u v h i t) = absurd (let z : ⊥ = cc in z)
drain-all n d c m k p other q r e a (second_alone f u v h i t) =
    let now : Agree n m (memory_after (f ∷ []) k) = subst (λ z. Agree n m z) (sym (stored-word f k i)) (set-second n m k f.loc.0 f.value h a) in
    let rest = drain-all n d c m (memory_after (f ∷ []) k) p other u v e now t in
    record { memory = rest.memory; goes = drain k (at_tree p other (f ∷ v)) rest.memory (at_tree p other []) rest.goes; agree = rest.agree }

none-pending : (q : List Entry) → is_none_pending q ≡ true → q ≡ []
none-pending [] e = refl
none-pending (x ∷ q) e = absurd (let z : ⊥ = cc in z)

pub lt-true : (m n : ℕ) → m < n → nat_lt m n ≡ true
lt-true m n h = grind (arith, nat_tests)

longer : (r : List Entry) (f : Entry) → length (r ++ f ∷ []) ≡ length r + 1
longer [] f = refl
longer (x ∷ r) f = ap suc (longer r f) ∙ (let z : suc (length r + 1) ≡ suc (length r) + 1 = omega arith in z)

-- a store of the second core
push : (d c : ℕ) (k : List ℕ) (p : ℕ) (loc : Loc) (value : ℕ) (other : Tree) (r : List Entry) → length r < d
    → Goes d c k (at_tree p (Stores loc value other) r) k (at_tree (p + 1) other (r ++ entry c p W loc value ∷ []))
push d c k p loc value other r l =
    let g : TreeEffect = record { after = at_tree (p + 1) other (r ++ entry c p W loc value ∷ []); commits = [] } in
    step-by d c k (at_tree p (Stores loc value other) r) g k g.after
    (ap (λ z. if z then g else stays (at_tree p (Stores loc value other) r)) (lt-true (length r) d l)) (stop k g.after)

-- the first core stays as it is
unmoved : (n d c stores : ℕ) (xs : List Entry) (m k : List ℕ) (p : ℕ) (tree : Tree) (q : List Entry) (p2 : ℕ) (other : Tree) (r : List Entry) (values : List ℕ)
    → Agree n m k → Kept n q r → length r + stores < d → Each (IsOwn c) q → Runs n stores tree values other → values ≡ values_along c p tree xs
    → Answer n d c xs m (at_tree p tree q) k (at_tree p2 other r)
unmoved n d c stores xs m k p tree q p2 other r values a t l o h e = record {
  memory = k;
  after = at_tree p2 other r;
  goes = stop k (at_tree p2 other r);
  agree = a;
  tie = record { stores = stores; path = subst (λ z. Runs n stores tree z other) e h; kept = t; room = l; own = o };
}

first-of : (v w : ℕ) (xs ys : List ℕ) → v ∷ xs ≡ w ∷ ys → v ≡ w
first-of v w xs ys e = cc

rest-of : (v w : ℕ) (xs ys : List ℕ) → v ∷ xs ≡ w ∷ ys → xs ≡ ys
rest-of v w xs ys e = cc

pub at-step : (n d d2 c stores : ℕ) (xs : List Entry) (m k : List ℕ) (p : ℕ) (tree : Tree) (q : List Entry) (p2 : ℕ)
    (other : Tree) (r : List Entry) (values : List ℕ)
    → Agree n m k → Kept n q r → length r + stores < d2 → Each (IsOwn c) q → Runs n stores tree values other
    → values ≡ values_along c p tree ((act d m c tree (at_tree p tree q)).commits ++ xs)
    → Answer n d2 c xs (memory_after (act d m c tree (at_tree p tree q)).commits m) (act d m c tree (at_tree p tree q)).after k (at_tree p2 other r)
at-step n d d2 c stores xs m k p tree q p2 other r values a t l o (to_end outputs) e =
    unmoved n d2 c 0 xs m k p (Done outputs) q p2 (Done outputs) r [] a t l o (to_end outputs) e
at-step n d d2 c stores xs m k p tree q p2 other r values a t l o (by_read w loc next more v vs i h) e =
    let now : ℕ = seen_value m q loc.0 in
    let same : now ≡ seen_value k r loc.0 = same-load n loc.0 q r (slice_index m loc.0) (slice_index k loc.0) i (sym (a.same loc.0 i)) t in
    let e2 : v ∷ vs ≡ now ∷ values_along c (p + 1) (next now) xs = e ∙ reads-left c p loc next now xs in
    let first = first-of v now vs _ e2 in
    let path : Runs n w (next now) (values_along c (p + 1) (next now) xs) (more (seen_value k r loc.0)) =
    subst (λ z. Runs n w (next now) (values_along c (p + 1) (next now) xs) (more z)) same
    (subst (λ z. Runs n w (next now) z (more now)) (rest-of v now vs _ e2) (subst (λ z. Runs n w (next z) vs (more z)) first h)) in
    let s2 : TreeCore = at_tree (p2 + 1) (more (seen_value k r loc.0)) r in
    record {
      memory = k;
      after = s2;
      goes = step k (at_tree p2 (Reads loc more) r) k s2 (stop k s2);
      agree = a;
      tie = record { stores = w; path = path; kept = t; room = l; own = o };
    }
at-step n d d2 c stores xs m k p tree q p2 other r values a t l o (by_store w loc value next more vs i h) e = go (nat_lt (length q) d) refl e
  where
    s : TreeCore
    s = at_tree p (Stores loc value next) q

    x : Entry
    x = entry c p W loc value

    g : TreeEffect
    g = record { after = at_tree (p + 1) next (q ++ x ∷ []); commits = [] }

    y : Entry
    y = entry c p2 W loc value

    go : (b : Bool) → nat_lt (length q) d ≡ b → vs ≡ values_along c p (Stores loc value next) ((if b then g else stays s).commits ++ xs)
        → Answer n d2 c xs (memory_after (if b then g else stays s).commits m) (if b then g else stays s).after k (at_tree p2 (Stores loc value more) r)
    go true b e = record {
      memory = k;
      after = at_tree (p2 + 1) more (r ++ y ∷ []);
      goes = push d2 c k p2 loc value more r (omega arith);
      agree = a;
      tie = record {
        stores = w;
        path = subst (λ z. Runs n w next z more) e h;
        kept = append-both n q r x y i refl refl refl refl t;
        room = (let z = longer r y in omega arith);
        own = each-append (IsOwn c) q (x ∷ []) o (record { core = refl; kind = refl }, tt);
      };
    }
    go false b e = unmoved n d2 c (suc w) xs m k p (Stores loc value next) q p2 (Stores loc value more) r vs a t l o (by_store w loc value next more vs i h) e
at-step n d d2 c stores xs m k p tree q p2 other r values a t l o (by_fence w next more vs h) e = go (is_none_pending q) refl e
  where
    s : TreeCore
    s = at_tree p (Fences next) q

    g : TreeEffect
    g = record { after = at_tree (p + 1) next q; commits = fence c p ∷ [] }

    go : (b : Bool) → is_none_pending q ≡ b → vs ≡ values_along c p (Fences next) ((if b then g else stays s).commits ++ xs)
        → Answer n d2 c xs (memory_after (if b then g else stays s).commits m) (if b then g else stays s).after k (at_tree p2 (Fences more) r)
    go true b e =
        let z = drain-all n d2 c m k p2 (Fences more) q r (none-pending q b) a t in
        let s2 : TreeCore = at_tree (p2 + 1) more [] in
        record {
          memory = z.memory;
          after = s2;
          goes = goes-on d2 c k (at_tree p2 (Fences more) r) z.memory (at_tree p2 (Fences more) []) z.memory s2 z.goes
              (step z.memory (at_tree p2 (Fences more) []) z.memory s2 (stop z.memory s2));
          agree = z.agree;
          tie = record {
            stores = w;
            path = subst (λ y. Runs n w next y more) (e ∙ fences-left c p next xs) h;
            kept = subst (λ y. Kept n y []) (sym (none-pending q b)) none;
            room = omega arith;
            own = o;
          };
        }
    go false b e = unmoved n d2 c w xs m k p (Fences next) q p2 (Fences more) r vs a t l o (by_fence w next more vs h) e
at-step n d d2 c stores xs m k p tree q p2 other r values a t l o (by_lock w loc change next more v vs i h) e = go (is_none_pending q) refl e
  where
    now : ℕ
    now = slice_index m loc.0

    s : TreeCore
    s = at_tree p (Locks loc change next) q

    g : TreeEffect
    g = record {
      after = at_tree ((p + 1) + 1) (next now) q;
      commits = entry c (p + 1) LR loc now ∷ (entry c (p + 1) LW loc (written change now) ∷ []);
    }

    go : (b : Bool) → is_none_pending q ≡ b → v ∷ vs ≡ values_along c p (Locks loc change next) ((if b then g else stays s).commits ++ xs)
        → Answer n d2 c xs (memory_after (if b then g else stays s).commits m) (if b then g else stays s).after k (at_tree p2 (Locks loc change more) r)
    go true b e =
        let z = drain-all n d2 c m k p2 (Locks loc change more) q r (none-pending q b) a t in
        let there : ℕ = slice_index z.memory loc.0 in
        let same : there ≡ now = z.agree.same loc.0 i in
        let s2 : TreeCore = at_tree ((p2 + 1) + 1) (more there) [] in
        let k2 : List ℕ = slice_set z.memory loc.0 (written change there) in
        let e2 : v ∷ vs ≡ now ∷ values_along c ((p + 1) + 1) (next now) xs = e ∙ locks-left c p loc change next now (written change now) xs in
        let path : Runs n w (next now) (values_along c ((p + 1) + 1) (next now) xs) (more there) =
        subst (λ y. Runs n w (next now) (values_along c ((p + 1) + 1) (next now) xs) (more y)) (sym same)
        (subst (λ y. Runs n w (next now) y (more now)) (rest-of v now vs _ e2) (subst (λ y. Runs n w (next y) vs (more y)) (first-of v now vs _ e2) h)) in
        record {
          memory = k2;
          after = s2;
          goes = goes-on d2 c k (at_tree p2 (Locks loc change more) r) z.memory (at_tree p2 (Locks loc change more) []) k2 s2 z.goes
              (step z.memory (at_tree p2 (Locks loc change more) []) k2 s2 (stop k2 s2));
          agree = subst (λ y. Agree n (slice_set m loc.0 (written change now)) (slice_set z.memory loc.0 (written change y))) (sym same)
              (set-both n m z.memory loc.0 (written change now) z.agree);
          tie = record { stores = w; path = path; kept = subst (λ y. Kept n y []) (sym (none-pending q b)) none; room = omega arith; own = o };
        }
    go false b e = unmoved n d2 c w xs m k p (Locks loc change next) q p2 (Locks loc change more) r (v ∷ vs) a t l o (by_lock w loc change next more v vs i h) e
at-step n d d2 c stores xs m k p tree q p2 other r values a t l o (read_alone w loc next v vs there h) e =
    let now : ℕ = seen_value m q loc.0 in
    let e2 : v ∷ vs ≡ now ∷ values_along c (p + 1) (next now) xs = e ∙ reads-left c p loc next now xs in
    unmoved n d2 c w xs m k (p + 1) (next now) q p2 there r (values_along c (p + 1) (next now) xs) a t l o
    (subst (λ z. Runs n w (next now) z there) (rest-of v now vs _ e2) (subst (λ z. Runs n w (next z) vs there) (first-of v now vs _ e2) h)) refl
at-step n d d2 c stores xs m k p tree q p2 other r values a t l o (store_alone w loc value next vs there i h) e = go (nat_lt (length q) d) refl e
  where
    s : TreeCore
    s = at_tree p (Stores loc value next) q

    x : Entry
    x = entry c p W loc value

    g : TreeEffect
    g = record { after = at_tree (p + 1) next (q ++ x ∷ []); commits = [] }

    go : (b : Bool) → nat_lt (length q) d ≡ b → vs ≡ values_along c p (Stores loc value next) ((if b then g else stays s).commits ++ xs)
        → Answer n d2 c xs (memory_after (if b then g else stays s).commits m) (if b then g else stays s).after k (at_tree p2 there r)
    go true b e = unmoved n d2 c w xs m k (p + 1) next (q ++ x ∷ []) p2 there r vs a (append-first n q r x i refl t) l
        (each-append (IsOwn c) q (x ∷ []) o (record { core = refl; kind = refl }, tt)) h e
    go false b e = unmoved n d2 c w xs m k p (Stores loc value next) q p2 there r vs a t l o (store_alone w loc value next vs there i h) e
at-step n d d2 c stores xs m k p tree q p2 other r values a t l o (other_store w loc value sub vs there i h) e =
    let y : Entry = entry c p2 W loc value in
    before-that n d2 c xs _ _ k (at_tree p2 (Stores loc value there) r) k (at_tree (p2 + 1) there (r ++ y ∷ []))
    (push d2 c k p2 loc value there r (omega arith))
    (at-step n d d2 c w xs m k p sub q (p2 + 1) there (r ++ y ∷ []) vs a (append-second n q r y i refl t) (let z = longer r y in omega arith) o h e)

-- a drain of the first core
pub at-drain : (n d c stores : ℕ) (xs : List Entry) (m k : List ℕ) (p : ℕ) (tree : Tree) (q : List Entry) (p2 : ℕ) (other : Tree) (r : List Entry)
    → Agree n m k → Kept n q r → length r + stores < d → Each (IsOwn c) q → Runs n stores tree (values_along c p tree xs) other
    → Answer n d c xs (memory_after (take 1 q) m) (at_tree p tree (drop 1 q)) k (at_tree p2 other r)
at-drain n d c stores xs m k p tree q p2 other r a none l o h = unmoved n d c stores xs m k p tree [] p2 other [] (values_along c p tree xs) a none l o h refl
at-drain n d c stores xs m k p tree q p2 other r a (both e f u v i b g j y t) l o h =
    let now : Agree n (memory_after (e ∷ []) m) (memory_after (f ∷ []) k) =
    subst (λ z. Agree n z (memory_after (f ∷ []) k)) (sym (stored-word e m j))
    (subst (λ z. Agree n (slice_set m e.loc.0 e.value) z) (sym (stored-word f k y))
    (subst (λ z. Agree n (slice_set m e.loc.0 e.value) (slice_set k z f.value)) (sym b)
    (subst (λ z. Agree n (slice_set m e.loc.0 e.value) (slice_set k e.loc.0 z)) (sym g) (set-both n m k e.loc.0 e.value a)))) in
    before-that n d c xs _ _ k (at_tree p2 other (f ∷ v)) (memory_after (f ∷ []) k) (at_tree p2 other v)
    (drain k (at_tree p2 other (f ∷ v)) (memory_after (f ∷ []) k) (at_tree p2 other v) (stop (memory_after (f ∷ []) k) (at_tree p2 other v)))
    (unmoved n d c stores xs (memory_after (e ∷ []) m) (memory_after (f ∷ []) k) p tree u p2 other v (values_along c p tree xs) now t (omega arith) o.1 h refl)
at-drain n d c stores xs m k p tree q p2 other r a (first_alone e u v i j t) l o h =
    unmoved n d c stores xs (memory_after (e ∷ []) m) k p tree u p2 other v (values_along c p tree xs)
    (subst (λ z. Agree n z k) (sym (stored-word e m j)) (set-first n m k e.loc.0 e.value i a)) t l o.1 h refl
at-drain n d c stores xs m k p tree q p2 other r a (second_alone f u v i j t) l o h =
    let now : Agree n m (memory_after (f ∷ []) k) = subst (λ z. Agree n m z) (sym (stored-word f k j)) (set-second n m k f.loc.0 f.value i a) in
    before-that n d c xs _ _ k (at_tree p2 other (f ∷ v)) (memory_after (f ∷ []) k) (at_tree p2 other v)
    (drain k (at_tree p2 other (f ∷ v)) (memory_after (f ∷ []) k) (at_tree p2 other v) (stop (memory_after (f ∷ []) k) (at_tree p2 other v)))
    (at-drain n d c stores xs m (memory_after (f ∷ []) k) p tree u p2 other v now t (omega arith) o h)

-- at the end of the first core the second one goes to its own
pub record Finished (n d c : ℕ) (m k : List ℕ) (t : TreeCore) (outputs : List ℕ) : Type 0 where
  pub memory : List ℕ
  pub place : ℕ
  pub goes : Goes d c k t memory (at_tree place (Done outputs) [])
  pub agree : Agree n m memory

pub finish : (n d c stores : ℕ) (m k : List ℕ) (tree : Tree) (q : List Entry) (p2 : ℕ) (other : Tree) (r : List Entry) (values outputs : List ℕ)
    → Agree n m k
    → Kept n q r
    → length r + stores < d
    → q ≡ []
    → tree ≡ Done outputs
    → Runs n stores tree values other
    → Finished n d c m k (at_tree p2 other r) outputs
finish n d c stores m k tree q p2 other r values outputs a t l none_left e (to_end o) =
    let z = drain-all n d c m k p2 (Done o) q r none_left a t in
    record {
      memory = z.memory;
      place = p2;
      goes =
          subst (λ y. Goes d c k (at_tree p2 (Done o) r) z.memory (at_tree p2 (Done y) [])) (let y : o ≡ outputs = cc in y) z.goes;
      agree = z.agree;
    }
finish n d c stores m k tree q p2 other r values outputs a t l none_left e (by_read w loc next more v vs i h) = absurd (let z : ⊥ = cc in z)
finish n d c stores m k tree q p2 other r values outputs a t l none_left e (by_store w loc value next more vs i h) = absurd (let z : ⊥ = cc in z)
finish n d c stores m k tree q p2 other r values outputs a t l none_left e (by_fence w next more vs h) = absurd (let z : ⊥ = cc in z)
finish n d c stores m k tree q p2 other r values outputs a t l none_left e (by_lock w loc change next more v vs i h) = absurd (let z : ⊥ = cc in z)
finish n d c stores m k tree q p2 other r values outputs a t l none_left e (read_alone w loc next v vs there h) = absurd (let z : ⊥ = cc in z)
finish n d c stores m k tree q p2 other r values outputs a t l none_left e (store_alone w loc value next vs there i h) = absurd (let z : ⊥ = cc in z)
finish n d c stores m k tree q p2 other r values outputs a t l none_left e (other_store w loc value sub vs there i h) =
    let y : Entry = entry c p2 W loc value in
    let z =
    finish n d c w m k sub q (p2 + 1) there (r ++ y ∷ []) vs outputs a (append-second n q r y i refl t)
    (let x = longer r y in omega arith) none_left e h in
    record {
      memory = z.memory;
      place = z.place;
      agree = z.agree;
      goes = goes-on d c k (at_tree p2 (Stores loc value there) r) k (at_tree (p2 + 1) there (r ++ y ∷ [])) z.memory (at_tree z.place (Done outputs) [])
          (push d c k p2 loc value there r (omega arith)) z.goes;
    }
