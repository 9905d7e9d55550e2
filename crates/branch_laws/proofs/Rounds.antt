-- With more values there are more paths and more writes; so each round has all of the rounds before it.
use Rattle.std.proofs.Common.{◌≡◌, ℕ, zero, suc, List, [], ◌∷◌, ◌++◌, map, ◌≤◌, arith, subst, inl, inr, sym}
use Rattle.basic_laws.proofs.Basics.{le-cases}
use Rattle.branch_laws.specs.Trees.{Tree, Done, Cut, Reads, Stores, Fences, Locks, written}
use Rattle.branch_laws.specs.Branching.{Branching}
use Rattle.branch_laws.specs.Rounds.{StandsAmong, seen_at, may_write, all_may_write, round, all_paths, AddsNothing}
use Rattle.branch_laws.proofs.Among.{among-left, among-right, among-either, among-map, map-among, among-for-each, for-each-among}

abbrev pub HasAllOf : (ℕ → List ℕ) → (ℕ → List ℕ) → Type 0
HasAllOf more domain = (loc v : ℕ) → StandsAmong v (domain loc) → StandsAmong v (more loc)

pub more-writes : (domain more : ℕ → List ℕ) (target x : ℕ) (tree : Tree)
    → HasAllOf more domain
    → StandsAmong x (may_write domain target tree)
    → StandsAmong x (may_write more target tree)
more-writes domain more target x (Done outputs) f h = h
more-writes domain more target x Cut f h = h
more-writes domain more target x (Reads loc next) f h =
    let r = for-each-among x (domain loc.0) (λ v. may_write domain target (next v)) h in
    among-for-each x r.0 (more loc.0) (λ v. may_write more target (next v)) (f loc.0 r.0 r.1) (more-writes domain more target x (next r.0) f r.2)
more-writes domain more target x (Stores loc value next) f h = elim (among-either x (seen_at target loc value) (may_write domain target next) h) [
  | inl k ↦ among-left x (seen_at target loc value) (may_write more target next) k
  | inr k ↦ among-right x (seen_at target loc value) (may_write more target next) (more-writes domain more target x next f k)
]
more-writes domain more target x (Fences next) f h = more-writes domain more target x next f h
more-writes domain more target x (Locks loc change next) f h =
    let r = for-each-among x (domain loc.0) (λ v. seen_at target loc (written change v) ++ may_write domain target (next v)) h in
    among-for-each x r.0 (more loc.0) (λ v. seen_at target loc (written change v) ++ may_write more target (next v)) (f loc.0 r.0 r.1)
    (elim (among-either x (seen_at target loc (written change r.0)) (may_write domain target (next r.0)) r.2) [
      | inl k ↦ among-left x (seen_at target loc (written change r.0)) (may_write more target (next r.0)) k
      | inr k ↦ among-right x (seen_at target loc (written change r.0)) (may_write more target (next r.0)) (more-writes domain more target x (next r.0) f k)
    ])

pub all-more-writes : (domain more : ℕ → List ℕ) (target x : ℕ) (trees : List Tree)
    → HasAllOf more domain
    → StandsAmong x (all_may_write domain target trees)
    → StandsAmong x (all_may_write more target trees)
all-more-writes domain more target x [] f h = h
all-more-writes domain more target x (tree ∷ trees) f h = elim (among-either x (may_write domain target tree) (all_may_write domain target trees) h) [
  | inl k ↦ among-left x (may_write more target tree) (all_may_write more target trees) (more-writes domain more target x tree f k)
  | inr k ↦ among-right x (may_write more target tree) (all_may_write more target trees) (all-more-writes domain more target x trees f k)
]

pub more-paths : (domain more : ℕ → List ℕ) (values : List ℕ) (tree : Tree)
    → HasAllOf more domain
    → StandsAmong values (all_paths domain tree)
    → StandsAmong values (all_paths more tree)
more-paths domain more values (Done outputs) f h = h
more-paths domain more values Cut f h = h
more-paths domain more values (Reads loc next) f h =
    let r = for-each-among values (domain loc.0) (λ v. map (λ z. v ∷ z) (all_paths domain (next v))) h in
    let m = map-among (λ z. r.0 ∷ z) values (all_paths domain (next r.0)) r.2 in
    among-for-each values r.0 (more loc.0) (λ v. map (λ z. v ∷ z) (all_paths more (next v))) (f loc.0 r.0 r.1)
    (subst (λ z. StandsAmong z (map (λ y. r.0 ∷ y) (all_paths more (next r.0)))) (sym m.2)
    (among-map (λ z. r.0 ∷ z) m.0 (all_paths more (next r.0)) (more-paths domain more m.0 (next r.0) f m.1)))
more-paths domain more values (Stores loc value next) f h = more-paths domain more values next f h
more-paths domain more values (Fences next) f h = more-paths domain more values next f h
more-paths domain more values (Locks loc change next) f h =
    let r = for-each-among values (domain loc.0) (λ v. map (λ z. v ∷ z) (all_paths domain (next v))) h in
    let m = map-among (λ z. r.0 ∷ z) values (all_paths domain (next r.0)) r.2 in
    among-for-each values r.0 (more loc.0) (λ v. map (λ z. v ∷ z) (all_paths more (next v))) (f loc.0 r.0 r.1)
    (subst (λ z. StandsAmong z (map (λ y. r.0 ∷ y) (all_paths more (next r.0)))) (sym m.2)
    (among-map (λ z. r.0 ∷ z) m.0 (all_paths more (next r.0)) (more-paths domain more m.0 (next r.0) f m.1)))

pub write-among-all : (domain : ℕ → List ℕ) (target x : ℕ) (trees : List Tree) (tree : Tree)
    → StandsAmong tree trees
    → StandsAmong x (may_write domain target tree)
    → StandsAmong x (all_may_write domain target trees)
write-among-all domain target x [] tree m h = absurd m
write-among-all domain target x (t ∷ trees) tree (inl q) h =
    among-left x (may_write domain target t) (all_may_write domain target trees) (subst (λ z. StandsAmong x (may_write domain target z)) q h)
write-among-all domain target x (t ∷ trees) tree (inr m) h =
    among-right x (may_write domain target t) (all_may_write domain target trees) (write-among-all domain target x trees tree m h)

-- rounds

pub next-round : (b : Branching) (n : ℕ) → HasAllOf (round b (suc n)) (round b n)
next-round b n loc v h = among-left v (round b n loc) (all_may_write (round b n) loc b.trees) h

pub later-round : (b : Branching) (n m : ℕ) → n ≤ m → HasAllOf (round b m) (round b n)
later-round b n zero l loc v h = subst (λ z. StandsAmong v (round b z loc)) (let z : n ≡ 0 = omega arith in z) h
later-round b n (suc m) l loc v h = elim (le-cases n (suc m) l) [
  | inl q ↦ subst (λ z. StandsAmong v (round b z loc)) q h
  | inr k ↦ next-round b m loc v (later-round b n m (omega arith) loc v h)
]

-- where a further round adds nothing, none does
pub stays-so : (b : Branching) (n m : ℕ) → AddsNothing b n → HasAllOf (round b n) (round b m)
stays-so b n zero f loc v h = later-round b 0 n (omega arith) loc v h
stays-so b n (suc m) f loc v h = elim (among-either v (round b m loc) (all_may_write (round b m) loc b.trees) h) [
  | inl k ↦ stays-so b n m f loc v k
  | inr k ↦ f loc v (among-right v (round b n loc) (all_may_write (round b n) loc b.trees)
      (all-more-writes (round b m) (round b n) loc v b.trees (stays-so b n m f) k))
]
