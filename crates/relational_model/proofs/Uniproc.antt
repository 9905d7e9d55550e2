-- Of a TSO execution, the accesses of one location are acyclic: each step goes up from the place of a write, or of the write
-- that a read reads from; and of reads of one write, in program order.
use Rattle.relational_model.proofs.Vocabulary.{◌≡◌, ◌<◌, ◌+◌, ◌==◌, ◌&&◌, ℕ, true, List, Option, Some, None, slice_get, arith, refl, sym}
use Rattle.relational_model.proofs.Vocabulary.{◌∙◌, ◌⊎◌, inl, inr, subst, Litmus, is_before, is_read, is_write, writes_to, Entry, IsIn}
use Rattle.relational_model.proofs.Vocabulary.{IsEarlier, LeadsTo, at_once, onward, IsAcyclic, Candidate, events, is_access, share_location}
use Rattle.relational_model.proofs.Vocabulary.{StandsAfter, IsBeforeOnLocation, po_loc, co, fr, rank}
use Rattle.relational_model.specs.Model.{rf}
use Rattle.relational_model.proofs.Ranks.{before-rank, before-trans}
use Rattle.relational_model.proofs.KindFacts.{write-is-no-read, before-write-kept, read-kept-before, and-both, or-either, same-number, number-same, writes}
use Rattle.relational_model.proofs.Sources.{Known, Counts, earlier-trans, source-counts, source-last, source-none, coherence-in, coherence-earlier, event-in}
use Rattle.relational_model.proofs.Forward.{kept, after-in, starts-in}

-- how far up a read stands: over the write that it reads from; over all writes, where it reads the initial word
abbrev pub Over : List Entry → Option Entry → ℕ → Type 0
Over order None n = n ≡ 1
Over order (Some w) n = (i : ℕ) × ((slice_get order i ≡ Some w) × (n ≡ i + i + 3))

-- and each access: a write by its place, a read by that of its source
abbrev pub Stands : List Entry → Candidate → Entry → ℕ → Type 0
Stands order c x n =
    ((is_write x ≡ true) × ((i : ℕ) × ((slice_get order i ≡ Some x) × (n ≡ i + i + 2)))) ⊎
    ((is_read x ≡ true) × Over order (c.source x) n)

over-once : (order : List Entry) → ((i j : ℕ) (e : Entry) → slice_get order i ≡ Some e → slice_get order j ≡ Some e → i ≡ j)
    → (s : Option Entry) (m n : ℕ) → Over order s m → Over order s n → m ≡ n
over-once order once None m n p q = omega arith
over-once order once (Some w) m n (i, (p, e)) (j, (q, f)) = let same : i ≡ j = once i j w p q in omega arith

stands-once : (t : Litmus) (order : List Entry) (c : Candidate) → Known t order c → (x : Entry) (m n : ℕ) → Stands order c x m
    → Stands order c x n → m ≡ n
stands-once t order c known x m n (inl (w, (i, (p, e)))) (inl (v, (j, (q, f)))) = let same : i ≡ j = known.once i j x p q in omega arith
stands-once t order c known x m n (inl (w, a)) (inr (r, b)) = absurd (write-is-no-read x w r)
stands-once t order c known x m n (inr (r, a)) (inl (w, b)) = absurd (write-is-no-read x w r)
stands-once t order c known x m n (inr (r, a)) (inr (s, b)) = over-once order known.once (c.source x) m n a b

-- higher up, or as high and later in the program
abbrev pub Up : ℕ → ℕ → ℕ → ℕ → Type 0
Up m a n b = (m < n) ⊎ ((m ≡ n) × (a < b))

up-trans : (m a n b k d : ℕ) → Up m a n b → Up n b k d → Up m a k d
up-trans m a n b k d (inl p) (inl q) = inl (let l : m < n = p in let o : n < k = q in omega arith)
up-trans m a n b k d (inl p) (inr q) = inl (let l : m < n = p in let o : n ≡ k = q.0 in omega arith)
up-trans m a n b k d (inr p) (inl q) = inl (let l : m ≡ n = p.0 in let o : n < k = q in omega arith)
up-trans m a n b k d (inr p) (inr q) = inr (p.0 ∙ q.0, (let l : a < b = p.1 in let o : b < d = q.1 in omega arith))

pub record Rises (order : List Entry) (c : Candidate) (x y : Entry) : Type 0 where
  pub from : ℕ
  pub to : ℕ
  pub stands : Stands order c x from
  pub comes : Stands order c y to
  pub up : Up from (rank x) to (rank y)

of-write : (order : List Entry) (c : Candidate) (w : Entry) (i : ℕ) → slice_get order i ≡ Some w → is_write w ≡ true
    → Stands order c w (i + i + 2)
of-write order c w i p wr = inl (wr, (i, (p, refl)))

-- the place of an earlier entry is a smaller one
smaller : (t : Litmus) (order : List Entry) (c : Candidate) → Known t order c → (a b : Entry) (i j : ℕ) → slice_get order i ≡ Some a
    → slice_get order j ≡ Some b → IsEarlier order a b → i < j
smaller t order c known a b i j p q e =
    let f : e.first ≡ i = known.once e.first i a e.is_first p in
    let s : e.second ≡ j = known.once e.second j b e.is_second q in
    let l : e.first < e.second = e.before in omega arith

-- a read that a write counts for stands over that write
over-counted : (t : Litmus) (order : List Entry) (c : Candidate) → Known t order c → (r v : Entry) (i : ℕ) → IsIn order r
    → is_read r ≡ true → slice_get order i ≡ Some v → Counts order r v
    → (n : ℕ) × (Over order (c.source r) n × (i + i + 2 < n))
over-counted t order c known r v i inr_ read p counts = go (c.source r) refl
  where
    go : (s : Option Entry) → c.source r ≡ s → (n : ℕ) × (Over order s n × (i + i + 2 < n))
    go None e = absurd (source-none t order c known r v inr_ read e counts)
    go (Some w) e = at (source-counts t order c known r w inr_ read e).0 (source-last t order c known r w v inr_ read e counts)
      where
        at : IsIn order w → (v ≡ w) ⊎ IsEarlier order v w → (n : ℕ) × (Over order (Some w) n × (i + i + 2 < n))
        at (j, q) (inl same) =
            let k : i ≡ j = known.once i j w (subst (λ x. slice_get order i ≡ Some x) same p) q in
            (j + j + 3, ((j, (q, refl)), omega arith))
        at (j, q) (inr e) = let l : i < j = smaller t order c known v w i j p q e in (j + j + 3, ((j, (q, refl)), omega arith))

-- ---- the steps

share-parts : (x y : Entry) → share_location x y ≡ true → (is_access x ≡ true) × ((is_access y ≡ true) × (x.loc.0 ≡ y.loc.0))
share-parts x y h =
    let f = and-both (is_access x && is_access y) (x.loc.0 == y.loc.0) h in
    let a = and-both (is_access x) (is_access y) f.0 in
    (a.0, (a.1, same-number x.loc.0 y.loc.0 f.1))

pub writes-at : (loc : ℕ) (v : Entry) → is_write v ≡ true → v.loc.0 ≡ loc → writes_to loc v ≡ true
writes-at loc v w e = subst (λ b. (b && (v.loc.0 == loc)) ≡ true) (sym w) (number-same v.loc.0 loc e)

is-over : (order : List Entry) (c : Candidate) (r : Entry) (n : ℕ) → is_read r ≡ true → Over order (c.source r) n → Stands order c r n
is-over order c r n read over = inr (read, over)

-- a write before a write
write-write : (t : Litmus) (order : List Entry) (c : Candidate) → Known t order c → (x y : Entry) → is_write x ≡ true → is_write y ≡ true
    → IsEarlier order x y → Rises order c x y
write-write t order c known x y wx wy e = record {
  from = e.first + e.first + 2;
  to = e.second + e.second + 2;
  stands = of-write order c x e.first e.is_first wx;
  comes = of-write order c y e.second e.is_second wy;
  up = inl (let l : e.first < e.second = e.before in omega arith);
}

-- a write and a read that it counts for
write-read : (t : Litmus) (order : List Entry) (c : Candidate) → Known t order c → (x r : Entry) → is_write x ≡ true → IsIn order r
    → is_read r ≡ true → Counts order r x → Rises order c x r
write-read t order c known x r wx i read counts =
    let o = over-counted t order c known r x counts.0.0 i read counts.0.1 counts in
    record {
      from = counts.0.0 + counts.0.0 + 2;
      to = o.0;
      stands = of-write order c x counts.0.0 counts.0.1 wx;
      comes = is-over order c r o.0 read o.1.0;
      up = inl o.1.1;
    }

-- a read, and a write that is after all that it may have read from
read-write : (t : Litmus) (order : List Entry) (c : Candidate) → Known t order c → (r y : Entry) → IsIn order r → is_read r ≡ true
    → IsIn order y → is_write y ≡ true
    → ((w : Entry) → c.source r ≡ Some w → IsEarlier order w y) → Rises order c r y
read-write t order c known r y i read (j, q) wy after = go (c.source r) refl
  where
    go : (s : Option Entry) → c.source r ≡ s → Rises order c r y
    go None e = record {
      from = 1;
      to = j + j + 2;
      stands = is-over order c r 1 read (subst (λ s. Over order s 1) (sym e) refl);
      comes = of-write order c y j q wy;
      up = inl (omega arith);
    }
    go (Some w) e =
        let b = after w e in
        record {
          from = b.first + b.first + 3;
          to = j + j + 2;
          stands = is-over order c r (b.first + b.first + 3) read
              (subst (λ s. Over order s (b.first + b.first + 3)) (sym e) (b.first, (b.is_first, refl)));
          comes = of-write order c y j q wy;
          up = inl (let l : b.first < j = smaller t order c known w y b.first j b.is_first q b in omega arith);
        }

-- what counts for a read counts for a later one of the same core and location
counts-later : (t : Litmus) (order : List Entry) (c : Candidate) → Known t order c → (x y w : Entry) → IsIn order x → IsIn order y
    → is_read x ≡ true → is_before x y ≡ true → x.loc.0 ≡ y.loc.0
    → Counts order x w → Counts order y w
counts-later t order c known x y w i j rx b same (inw, (wr, how)) = (inw, (subst (λ l. writes_to l w ≡ true) same wr, go how))
  where
    go : IsEarlier order w x ⊎ (is_before w x ≡ true) → IsEarlier order w y ⊎ (is_before w y ≡ true)
    go (inl e) = inl (earlier-trans order w x y known.once e (kept t order c known x y i j b (read-kept-before x y rx)))
    go (inr d) = inr (before-trans w x y d b)

read-read : (t : Litmus) (order : List Entry) (c : Candidate) → Known t order c → (x y : Entry) → IsIn order x → IsIn order y
    → is_read x ≡ true → is_read y ≡ true → is_before x y ≡ true
    → x.loc.0 ≡ y.loc.0 → Rises order c x y
read-read t order c known x y i j rx ry b same = go (c.source x) refl
  where
    rises : (r : Entry) (m n : ℕ) → Over order (c.source x) m → Over order (c.source y) n → (m < n) ⊎ (m ≡ n) → Rises order c x y
    rises r m n p q (inl l) = record { from = m; to = n; stands = is-over order c x m rx p; comes = is-over order c y n ry q; up = inl l }
    rises r m n p q (inr e) =
        record {
          from = m;
          to = n;
          stands = is-over order c x m rx p;
          comes = is-over order c y n ry q;
          up = inr
              (e, (before-rank x y b).1);
        }

    initial : (s : Option Entry) → c.source y ≡ s → c.source x ≡ None → Rises order c x y
    initial None f e = rises y 1 1 (subst (λ s. Over order s 1) (sym e) refl) (subst (λ s. Over order s 1) (sym f) refl) (inr refl)
    initial (Some v) f e =
        let k = (source-counts t order c known y v j ry f).0 in
        rises y 1 (k.0 + k.0 + 3) (subst (λ s. Over order s 1) (sym e) refl)
        (subst (λ s. Over order s (k.0 + k.0 + 3)) (sym f) (k.0, (k.1, refl))) (inl (omega arith))

    at : (w : Entry) (m : ℕ) → c.source x ≡ Some w → slice_get order m ≡ Some w → Counts order y w
        → (n : ℕ) × (Over order (c.source y) n × (m + m + 2 < n)) → Rises order c x y
    at w m e p counts (n, (over, l)) =
        rises y (m + m + 3) n (subst (λ s. Over order s (m + m + 3)) (sym e) (m, (p, refl))) over
        (let z : (m + m + 3 < n) ⊎ (m + m + 3 ≡ n) = grind arith in z)

    go : (s : Option Entry) → c.source x ≡ s → Rises order c x y
    go None e = initial (c.source y) refl e
    go (Some w) e =
        let counts = source-counts t order c known x w i rx e in
        let later = counts-later t order c known x y w i j rx b same counts in
        at w counts.0.0 e counts.0.1 later (over-counted t order c known y w counts.0.0 j ry counts.0.1 later)

step-rises : (t : Litmus) (order : List Entry) (c : Candidate) → Known t order c → (x y : Entry) → IsIn order x → IsIn order y
    → IsBeforeOnLocation c x y → Rises order c x y
step-rises t order c known x y i j (po_loc _ _ b share) =
    let s = share-parts x y share in go s.1.1 (or-either (is_read x) (is_write x) s.0) (or-either (is_read y) (is_write y) s.1.0)
  where
    own : (w : Entry) → x.loc.0 ≡ y.loc.0 → c.source x ≡ Some w → is_read x ≡ true → is_write y ≡ true → IsEarlier order w y
    own w same e rx wy = at (source-counts t order c known x w i rx e)
      where
        at : Counts order x w → IsEarlier order w y
        at (inw, (wr, inl f)) = earlier-trans order w x y known.once f (kept t order c known x y i j b (read-kept-before x y rx))
        at (inw, (wr, inr d)) = kept t order c known w y inw j (before-trans w x y d b) (before-write-kept w y wy)

    go : x.loc.0 ≡ y.loc.0 → (is_read x ≡ true) ⊎ (is_write x ≡ true) → (is_read y ≡ true) ⊎ (is_write y ≡ true) → Rises order c x y
    go same (inl rx) (inl ry) = read-read t order c known x y i j rx ry b same
    go same (inl rx) (inr wy) = read-write t order c known x y i rx j wy (λ w e. own w same e rx wy)
    go same (inr wx) (inl ry) = write-read t order c known x y wx j ry (i, (writes-at y.loc.0 x wx same, inr b))
    go same (inr wx) (inr wy) = write-write t order c known x y wx wy (kept t order c known x y i j b (before-write-kept x y wy))
step-rises t order c known x y i j (rf _ _ f) =
    let counts = source-counts t order c known y x j f.read f.source in
    write-read t order c known x y (writes y.loc.0 x counts.1.0) j f.read counts
step-rises t order c known x y i j (co _ _ e) =
    let first = coherence-in t order c known x.loc.0 x (e.first, e.is_first) in
    let second = coherence-in t order c known x.loc.0 y (e.second, e.is_second) in
    write-write t order c known x y (writes x.loc.0 x first.1) (writes x.loc.0 y second.1)
    (coherence-earlier t order c known x.loc.0 x y e)
step-rises t order c known x y i j (fr _ _ f) =
    let b = after-in t order c known x y f in
    read-write t order c known x y i f.read j (writes x.loc.0 y b.1)
    (λ w e. coherence-earlier t order c known x.loc.0 w y (subst (λ s. StandsAfter (c.coherence x.loc.0) s y) e f.overwritten))

-- ---- the ways

joins : (t : Litmus) (order : List Entry) (c : Candidate) → Known t order c → (x y z : Entry) → Rises order c x y → Rises order c y z
    → Rises order c x z
joins t order c known x y z p q =
    let same : p.to ≡ q.from = stands-once t order c known y p.to q.from p.comes q.stands in
    record {
      from = p.from;
      to = q.to;
      stands = p.stands;
      comes = q.comes;
      up = up-trans p.from (rank x) p.to (rank y) q.to (rank z) p.up (subst (λ n. Up n (rank y) q.to (rank z)) (sym same) q.up);
    }

way-rises : (t : Litmus) (order : List Entry) (c : Candidate) → Known t order c → (x z : Entry)
    → LeadsTo (events t c) (IsBeforeOnLocation c) x z → Rises order c x z
way-rises t order c known _ _ (at_once x z i j b) =
    step-rises t order c known x z (event-in t order c known x i) (event-in t order c known z j) b
way-rises t order c known _ _ (onward x y z i b rest) =
    joins t order c known x y z
    (step-rises t order c known x y (event-in t order c known x i)
    (event-in t order c known y (starts-in (events t c) (IsBeforeOnLocation c) y z rest)) b)
    (way-rises t order c known y z rest)

pub location-acyclic : (t : Litmus) (order : List Entry) (c : Candidate) → Known t order c → IsAcyclic (events t c) (IsBeforeOnLocation c)
location-acyclic t order c known x p =
    let r = way-rises t order c known x x p in
    let e = stands-once t order c known x r.from r.to r.stands r.comes in
    elim r.up [ inl l ↦ omega (arith, e, l) | inr l ↦ let k : rank x < rank x = l.1 in omega arith ]
