-- Values that runs over trees read are of rounds: each choice needs one round more at most.
use Rattle.std.proofs.Common.{◌≡◌, ℕ, ◌+◌, zero, suc, List, [], ◌∷◌, ◌++◌, map, filter, Bool, true, false, ◌<◌, ◌≤◌, ◌==◌, nat_lt}
use Rattle.std.proofs.Common.{if◌then◌else◌, length, slice_index, slice_index_or, slice_set, take, drop, arith, ap, sym, ◌∙◌, refl, subst}
use Rattle.std.proofs.Common.{inl, inr}
use Rattle.std.proofs.lemmas.Bool.Decides.{nat_tests}
use Rattle.basic_laws.proofs.Basics.{decide, and-right}
use Rattle.basic_laws.proofs.Lists.{Each, each-append, each-map}
use Rattle.tso_terms.specs.Thread.{entry, fence}
use Rattle.tso_terms.specs.ProgramOrder.{is_write, writes_to}
use Rattle.tso_terms.specs.Axioms.{last_value}
use Rattle.tso_terms.specs.FlatMachine.{is_none_pending, memory_after}
use Rattle.tso_terms.specs.Runs.{CoresExist}
use Rattle.basic_laws.specs.Types.{Entry, Choice, Step, Drain, W, LR, LW}
use Rattle.branch_laws.specs.Trees.{Tree, Done, Cut, Reads, Stores, Fences, Locks, written, values_along}
use Rattle.branch_laws.specs.Branching.{Branching, values_from}
use Rattle.branch_laws.specs.TreeMachine.{TreeCore, TreeState, TreeEffect, stays, seen_value, act, drain_tree, tree_core, tree_effect}
use Rattle.branch_laws.specs.TreeMachine.{tree_choice, tree_applied, tree_after, tree_commits, tree_start, IsDoneWith, IsTreeReached}
use Rattle.branch_laws.specs.Rounds.{StandsAmong, seen_at, may_write, all_may_write, round, all_paths, ArePaths}
use Rattle.branch_laws.proofs.Among.{among-left, among-right, among-map, among-for-each}
use Rattle.branch_laws.proofs.Rounds.{next-round, later-round, write-among-all}
use Rattle.branch_laws.proofs.Causes.{IsOf, seen-here}
use Rattle.branch_laws.proofs.InRounds.{tree-among, own-values}
use Rattle.branch_laws.proofs.Values.{IsOwn, left, reads-left, fences-left, locks-left, drain-told}
use Rattle.branch_laws.proofs.Core.{act-core, take-core, drop-own, left-other}
use Rattle.branch_laws.proofs.States.{tree-changed}
use Rattle.branch_laws.proofs.Ends.{AllOwn, act-own, start-own, planted-at, length-planted}

-- what memory and buffers hold
abbrev MemoryOf : (ℕ → List ℕ) → List ℕ → Type 0
MemoryOf domain memory = (loc : ℕ) → StandsAmong (slice_index memory loc) (domain loc)

set-in : (P : ℕ → Type 0) (m : List ℕ) (k v l : ℕ) → P (slice_index m l) → (l ≡ k → P v) → P (slice_index (slice_set m k v) l)
set-in P [] k v l h f = h
set-in P (x ∷ m) zero v zero h f = f refl
set-in P (x ∷ m) zero v (suc l) h f = h
set-in P (x ∷ m) (suc k) v zero h f = h
set-in P (x ∷ m) (suc k) v (suc l) h f = set-in P m k v l h (λ q. f (ap suc q))

abbrev WritesOf : (ℕ → List ℕ) → List Entry → Type 0
WritesOf domain es = Each (λ e. is_write e ≡ true → IsOf domain e) es

memory-of : (domain : ℕ → List ℕ) (es : List Entry) (m : List ℕ) → MemoryOf domain m → WritesOf domain es → MemoryOf domain (memory_after es m)
memory-of domain [] m h k = h
memory-of domain (e ∷ es) m h k = memory-of domain es (if is_write e then slice_set m e.loc.0 e.value else m) (go (is_write e) refl) k.1
  where
    go : (t : Bool) → is_write e ≡ t → MemoryOf domain (if t then slice_set m e.loc.0 e.value else m)
    go true q loc = set-in (λ z. StandsAmong z (domain loc)) m e.loc.0 e.value loc (h loc) (λ r. subst (λ z. StandsAmong e.value (domain z)) (sym r) (k.0 q))
    go false q loc = h loc

same-number : (a b : ℕ) → (a == b) ≡ true → a ≡ b
same-number a b h = grind (arith, nat_tests)

last-in : (domain : ℕ → List ℕ) (loc : ℕ) (es : List Entry) (word : ℕ) → StandsAmong word (domain loc) → Each (IsOf domain) es
    → StandsAmong (last_value (filter (writes_to loc) es) word) (domain loc)
last-in domain loc [] word h k = h
last-in domain loc (e ∷ es) word h k = go (writes_to loc e) refl (λ w z. last-in domain loc es w z k.1)
  where
    go : (t : Bool) → writes_to loc e ≡ t → ((w : ℕ) → StandsAmong w (domain loc) → StandsAmong (last_value (filter (writes_to loc) es) w) (domain loc))
        → StandsAmong (last_value (filter (writes_to loc) (e ∷ es)) word) (domain loc)
    go true q again =
        rw q (again e.value (subst (λ z. StandsAmong e.value (domain z)) (same-number e.loc.0 loc (and-right (is_write e) (e.loc.0 == loc) q)) k.0))
    go false q again = rw q (again word h)

-- from this round on, what is left of a tree writes values of the next round
abbrev Leads : Branching → ℕ → Tree → Type 0
Leads b k rest = (n target x : ℕ) → k ≤ n → StandsAmong x (may_write (round b n) target rest) → StandsAmong x (round b (suc n) target)

-- of one core after so many choices: what is pending, and what is left of its tree
record Within (b : Branching) (k : ℕ) (s : TreeCore) : Type 0 where
  pub pending : Each (IsOf (round b k)) s.pending
  pub rest : Leads b k s.rest

leads-more : (b : Branching) (k : ℕ) (rest : Tree) → Leads b k rest → Leads b (suc k) rest
leads-more b k rest f n target x l h = f n target x (omega arith) h

pending-more : (b : Branching) (k : ℕ) (q : List Entry) → Each (IsOf (round b k)) q → Each (IsOf (round b (suc k))) q
pending-more b k q h = each-map (IsOf (round b k)) (IsOf (round b (suc k))) q (λ e m. next-round b k e.loc.0 e.value m) h

within-more : (b : Branching) (k : ℕ) (s : TreeCore) → Within b k s → Within b (suc k) s
within-more b k s w = record { pending = pending-more b k s.pending w.pending; rest = leads-more b k s.rest w.rest }

record Acts (b : Branching) (k c : ℕ) (s : TreeCore) (g : TreeEffect) (xs : List Entry) : Type 0 where
  pub within : Within b (suc k) g.after
  pub writes : WritesOf (round b (suc k)) g.commits
  pub paths : (n : ℕ)
      → suc k ≤ n
      → StandsAmong (left c g.after xs) (all_paths (round b n) g.after.rest)
      → StandsAmong (left c s (g.commits ++ xs)) (all_paths (round b n) s.rest)

still : (b : Branching) (k c : ℕ) (s : TreeCore) (xs : List Entry) → Within b k s → Acts b k c s (stays s) xs
still b k c s xs w = record { within = within-more b k s w; writes = tt; paths = λ n l h. h }

acts : (b : Branching) (k d : ℕ) (memory : List ℕ) (c p : ℕ) (tree : Tree) (q xs : List Entry)
    → MemoryOf (round b k) memory
    → Each (IsOf (round b k)) q
    → Leads b k tree
    → Acts b k c (record { place = p; rest = tree; pending = q }) (act d memory c tree (record { place = p; rest = tree; pending = q })) xs
acts b k d memory c p (Done outputs) q xs m o f = still b k c (record { place = p; rest = Done outputs; pending = q }) xs (record { pending = o; rest = f })
acts b k d memory c p Cut q xs m o f = still b k c (record { place = p; rest = Cut; pending = q }) xs (record { pending = o; rest = f })
acts b k d memory c p (Reads loc next) q xs m o f =
    let v : ℕ = seen_value memory q loc.0 in
    let i : StandsAmong v (round b k loc.0) = last-in (round b k) loc.0 q (slice_index memory loc.0) (m loc.0) o in
    record {
      within = record {
        pending = pending-more b k q o;
        rest = λ n target x l h.
            f n target x (omega arith)
            (among-for-each x v (round b n loc.0) (λ v. may_write (round b n) target (next v)) (later-round b k n (omega arith) loc.0 v i) h);
      };
      writes = ((λ z. absurd (let y : ⊥ = cc in y)), tt);
      paths = λ n l h. subst (λ z. StandsAmong z (all_paths (round b n) (Reads loc next))) (sym (reads-left c p loc next v xs))
          (among-for-each (v ∷ values_along c (p + 1) (next v) xs) v (round b n loc.0)
          (λ w. map (λ y. w ∷ y) (all_paths (round b n) (next w))) (later-round b k n (omega arith) loc.0 v i)
          (among-map (λ y. v ∷ y) (values_along c (p + 1) (next v) xs) (all_paths (round b n) (next v)) h));
    }
acts b k d memory c p (Stores loc value next) q xs m o f = go (nat_lt (length q) d)
  where
    s : TreeCore
    s = record { place = p; rest = Stores loc value next; pending = q }

    g : TreeEffect
    g = record { after = record { place = p + 1; rest = next; pending = q ++ entry c p W loc value ∷ [] }; commits = [] }

    go : (t : Bool) → Acts b k c s (if t then g else stays s) xs
    go true = record {
      within = record {
        pending = each-append (IsOf (round b (suc k))) q (entry c p W loc value ∷ []) (pending-more b k q o)
            (f k loc.0 value (omega arith) (among-left value (seen_at loc.0 loc value) (may_write (round b k) loc.0 next) (seen-here loc value)), tt);
        rest = λ n target x l h. f n target x (omega arith) (among-right x (seen_at target loc value) (may_write (round b n) target next) h);
      };
      writes = tt;
      paths = λ n l h. h;
    }
    go false = still b k c s xs (record { pending = o; rest = f })
acts b k d memory c p (Fences next) q xs m o f = go (is_none_pending q)
  where
    s : TreeCore
    s = record { place = p; rest = Fences next; pending = q }

    g : TreeEffect
    g = record { after = record { place = p + 1; rest = next; pending = q }; commits = fence c p ∷ [] }

    go : (t : Bool) → Acts b k c s (if t then g else stays s) xs
    go true = record {
      within = record { pending = pending-more b k q o; rest = leads-more b k next f };
      writes = ((λ z. absurd (let y : ⊥ = cc in y)), tt);
      paths = λ n l h. subst (λ z. StandsAmong z (all_paths (round b n) next)) (sym (fences-left c p next xs)) h;
    }
    go false = still b k c s xs (record { pending = o; rest = f })
acts b k d memory c p (Locks loc change next) q xs m o f = go (is_none_pending q)
  where
    v : ℕ
    v = slice_index memory loc.0

    s : TreeCore
    s = record { place = p; rest = Locks loc change next; pending = q }

    g : TreeEffect
    g = record {
      after = record { place = (p + 1) + 1; rest = next v; pending = q };
      commits = entry c (p + 1) LR loc v ∷ (entry c (p + 1) LW loc (written change v) ∷ []);
    }

    leads : (n target x : ℕ)
        → k ≤ n
        → StandsAmong x (seen_at target loc (written change v) ++ may_write (round b n) target (next v))
        → StandsAmong x (round b (suc n) target)
    leads n target x l h =
        f n target x l (among-for-each x v (round b n loc.0) (λ w. seen_at target loc (written change w) ++ may_write (round b n) target (next w))
        (later-round b k n l loc.0 v (m loc.0)) h)

    go : (t : Bool) → Acts b k c s (if t then g else stays s) xs
    go true = record {
      within = record {
        pending = pending-more b k q o;
        rest = λ n target x l h.
            leads n target x (omega arith) (among-right x (seen_at target loc (written change v)) (may_write (round b n) target (next v)) h);
      };
      writes = (
        (λ z. absurd (let y : ⊥ = cc in y)),
        (
          (λ z. leads k loc.0 (written change v) (omega arith)
              (among-left (written change v) (seen_at loc.0 loc (written change v)) (may_write (round b k) loc.0 (next v)) (seen-here loc (written change v)))),
          tt,
        ),
      );
      paths = λ n l h. subst (λ z. StandsAmong z (all_paths (round b n) (Locks loc change next))) (sym (locks-left c p loc change next v (written change v) xs))
          (among-for-each (v ∷ values_along c ((p + 1) + 1) (next v) xs) v (round b n loc.0)
          (λ w. map (λ y. w ∷ y) (all_paths (round b n) (next w))) (later-round b k n (omega arith) loc.0 v (m loc.0))
          (among-map (λ y. v ∷ y) (values_along c ((p + 1) + 1) (next v) xs) (all_paths (round b n) (next v)) h));
    }
    go false = still b k c s xs (record { pending = o; rest = f })

take-in : (domain : ℕ → List ℕ) (q : List Entry) → Each (IsOf domain) q → WritesOf domain (take 1 q)
take-in domain [] o = tt
take-in domain (e ∷ q) o = ((λ z. o.0), tt)

drop-in : (domain : ℕ → List ℕ) (q : List Entry) → Each (IsOf domain) q → Each (IsOf domain) (drop 1 q)
drop-in domain [] o = tt
drop-in domain (e ∷ q) o = o.1

drain-acts : (b : Branching) (k c : ℕ) (s : TreeCore) (xs : List Entry) → Within b k s → Each (IsOwn c) s.pending → Acts b k c s (drain_tree s) xs
drain-acts b k c s xs w o = record {
  within = record { pending = drop-in (round b (suc k)) s.pending (pending-more b k s.pending w.pending); rest = leads-more b k s.rest w.rest };
  writes = take-in (round b (suc k)) s.pending (pending-more b k s.pending w.pending);
  paths = λ n l h. subst (λ z. StandsAmong z (all_paths (round b n) s.rest)) (sym (drain-told c s xs o)) h;
}

record Fits (b : Branching) (k n : ℕ) (S : TreeState) : Type 0 where
  pub size : length S.cores ≡ n
  pub own : AllOwn n S
  pub memory : MemoryOf (round b k) S.memory
  pub cores : (j : ℕ) → j < n → Within b k (tree_core S j)

record Next (b : Branching) (k n : ℕ) (S T : TreeState) (es xs : List Entry) : Type 0 where
  pub fits : Fits b (suc k) n T
  pub paths : (m j : ℕ) → suc k ≤ m → j < n → StandsAmong (left j (tree_core T j) xs) (all_paths (round b m) (tree_core T j).rest)
      → StandsAmong (left j (tree_core S j) (es ++ xs)) (all_paths (round b m) (tree_core S j).rest)

next-by : (b : Branching) (k n : ℕ) (S : TreeState) (c : ℕ) (g : TreeEffect) (xs : List Entry) → Fits b k n S → c < n → Each (IsOwn c) g.after.pending
    → Each (λ e. e.core.0 ≡ c) g.commits → Acts b k c (tree_core S c) g xs → Next b k n S (tree_applied S c g) g.commits xs
next-by b k n S c g xs f l own of_core a =
    let w = tree-changed S c g (let z = f.size in omega arith) in
    let T : TreeState = tree_applied S c g in
    record {
      fits = record {
        size = w.size ∙ f.size;
        own = λ j m. elim (decide j c) [
          | inl q ↦ subst (λ z. Each (IsOwn z) (tree_core T z).pending) (sym q) (subst (λ z. Each (IsOwn c) z.pending) (sym w.own) own)
          | inr q ↦ subst (λ z. Each (IsOwn j) z.pending) (sym (w.others j q)) (f.own j m)
        ];
        memory = memory-of (round b (suc k)) g.commits S.memory (λ loc. next-round b k loc _ (f.memory loc)) a.writes;
        cores = λ j m. elim (decide j c) [
          | inl q ↦ subst (λ z. Within b (suc k) (tree_core T z)) (sym q) (subst (λ z. Within b (suc k) z) (sym w.own) a.within)
          | inr q ↦ subst (λ z. Within b (suc k) z) (sym (w.others j q)) (within-more b k (tree_core S j) (f.cores j m))
        ];
      };
      paths = λ m j lm lj h. elim (decide j c) [
        | inl q ↦ subst (λ z. StandsAmong (left z (tree_core S z) (g.commits ++ xs)) (all_paths (round b m) (tree_core S z).rest)) (sym q)
            (a.paths m lm (subst (λ z. StandsAmong (left c z xs) (all_paths (round b m) z.rest)) w.own
            (subst (λ z. StandsAmong (left z (tree_core T z) xs) (all_paths (round b m) (tree_core T z).rest)) q h)))
        | inr q ↦ subst (λ z. StandsAmong z (all_paths (round b m) (tree_core S j).rest)) (sym (left-other c j (tree_core S j) g.commits xs q of_core))
            (subst (λ z. StandsAmong (left j z xs) (all_paths (round b m) z.rest)) (w.others j q) h)
      ];
    }

choice-next : (b : Branching) (k d n : ℕ) (S : TreeState) (x : Choice) (xs : List Entry) → CoresExist n (x ∷ []) → Fits b k n S
    → Next b k n S (tree_choice d S x) (tree_effect d S x).commits xs
choice-next b k d n S (Step j) xs l f =
    let s : TreeCore = tree_core S j.0 in let w = f.cores j.0 l.0 in
    next-by b k n S j.0 (tree_effect d S (Step j)) xs f l.0 (act-own d S.memory j.0 s.rest s (f.own j.0 l.0)) (act-core d S.memory j.0 s.rest s)
    (acts b k d S.memory j.0 s.place s.rest s.pending xs f.memory w.pending w.rest)
choice-next b k d n S (Drain j) xs l f =
    let s : TreeCore = tree_core S j.0 in
    next-by b k n S j.0 (drain_tree s) xs f l.0 (drop-own j.0 s.pending (f.own j.0 l.0)) (take-core j.0 s.pending (f.own j.0 l.0))
    (drain-acts b k j.0 s xs (f.cores j.0 l.0) (f.own j.0 l.0))

run-listed : (b : Branching) (k d n m : ℕ) (S : TreeState) (cs : List Choice) (outputs : ℕ → List ℕ) → CoresExist n cs → Fits b k n S → k + length cs ≤ m
    → ((j : ℕ) → j < n → IsDoneWith (tree_core (tree_after d S cs) j) (outputs j))
    → (j : ℕ) → j < n → StandsAmong (left j (tree_core S j) (tree_commits d S cs)) (all_paths (round b m) (tree_core S j).rest)
run-listed b k d n m S [] outputs l f lm done j lj =
    subst (λ z. StandsAmong (values_along j (tree_core S j).place z []) (all_paths (round b m) z)) (sym (done j lj).rest) (inl refl)
run-listed b k d n m S (x ∷ cs) outputs l f lm done j lj =
    let r = choice-next b k d n S x (tree_commits d (tree_choice d S x) cs) (l.0, tt) f in
    r.paths m j (omega arith) lj (run-listed b (suc k) d n m (tree_choice d S x) cs outputs l.1 r.fits (omega arith) done j lj)

first-leads : (b : Branching) (j : ℕ) → j < length b.trees → Leads b 0 (slice_index_or b.trees j Cut)
first-leads b j l n target x z h =
    among-right x (round b n target) (all_may_write (round b n) target b.trees)
    (write-among-all (round b n) target x b.trees (slice_index_or b.trees j Cut) (tree-among b.trees j l) h)

pub runs-listed : (b : Branching) (depth : ℕ) (order : List Entry) (outputs : List (List ℕ)) → (h : IsTreeReached b depth order outputs)
    → ArePaths (round b (length h.choices)) b.trees (values_from 0 b.trees order)
runs-listed b depth order outputs h j l =
    let n : ℕ = length b.trees in let m : ℕ = length h.choices in
    let S : TreeState = tree_start b in
    let f : Fits b 0 n S = record {
      size = length-planted b.trees;
      own = start-own b;
      memory = λ loc. inl refl;
      cores = λ i k. subst (λ z. Within b 0 z) (sym (planted-at b.trees i)) (record { pending = tt; rest = first-leads b i k });
    } in
    let r = run-listed b 0 depth n m S h.choices (λ i. slice_index_or outputs i []) h.exist f (omega arith) h.done j l in
    subst (λ z. StandsAmong z (all_paths (round b m) (slice_index_or b.trees j Cut))) (sym (own-values b order j l))
    (subst (λ z. StandsAmong (left j z order) (all_paths (round b m) z.rest)) (planted-at b.trees j)
    (subst (λ z. StandsAmong (left j (tree_core S j) z) (all_paths (round b m) (tree_core S j).rest)) h.commits r))
