-- Where what happens before is acyclic, so it is together with the program order to and from fences.
use Rattle.relational_model.proofs.Vocabulary.{◌≡◌, ◌||◌, Bool, true, false, List, Option, Some, None, refl, sym, ◌∙◌, ◌⊎◌, inl, inr, subst}
use Rattle.relational_model.proofs.Vocabulary.{Litmus, is_before, is_read, is_write, writes_to, Entry, F, IsIn, LeadsTo, at_once, onward}
use Rattle.relational_model.proofs.Vocabulary.{IsAcyclic, Candidate, Returns, events, ReadsFrom, StandsAfter, FromReads, HappensBefore}
use Rattle.relational_model.proofs.Vocabulary.{write_before_write, read_before_access, mfence, implied, rfe, co, fr, arith, may_be_passed}
use Rattle.relational_model.proofs.Vocabulary.{is_locked}
use Rattle.relational_model.proofs.Ranks.{before-trans, before-irreflexive}
use Rattle.relational_model.proofs.KindFacts.{writes}
use Rattle.relational_model.proofs.Forward.{starts-in}
use Rattle.relational_model.proofs.Decisions.{Kept, Goes}
use Rattle.relational_model.proofs.Events.{Sound}

pub parts : (x : Entry) → (is_read x ≡ true) ⊎ ((is_write x ≡ true) ⊎ (x.kind ≡ F))
parts x = grind arith

unpassed : (x y : Entry) → is_write x ≡ true → is_read y ≡ true → may_be_passed x y ≡ false → (is_locked x || is_locked y) ≡ true
unpassed x y a b h = grind arith

pub true-or : (a b : Bool) → (a ≡ true) ⊎ (b ≡ true) → (a || b) ≡ true
true-or true b h = refl
true-or false b (inl h) = let z : ⊥ = cc in absurd z
true-or false b (inr h) = h

read-no-fence : (x : Entry) → is_read x ≡ true → x.kind ≡ F → ⊥
read-no-fence x h e = grind arith

write-no-fence : (x : Entry) → is_write x ≡ true → x.kind ≡ F → ⊥
write-no-fence x h e = grind arith

abbrev pub NoFence : Entry → Type 0
NoFence x = x.kind ≡ F → ⊥

pub is-no-fence : (x : Entry) → (is_read x ≡ true) ⊎ (is_write x ≡ true) → NoFence x
is-no-fence x (inl r) e = read-no-fence x r e
is-no-fence x (inr w) e = write-no-fence x w e

access : (x : Entry) → NoFence x → (is_read x ≡ true) ⊎ (is_write x ≡ true)
access x n = elim (parts x) [ inl r ↦ inl r | inr (inl w) ↦ inr w | inr (inr e) ↦ absurd (n e) ]

pub fence-or : (x : Entry) → (x.kind ≡ F) ⊎ NoFence x
fence-or x = elim (parts x) [ inl r ↦ inr (is-no-fence x (inl r)) | inr (inl w) ↦ inr (is-no-fence x (inr w)) | inr (inr e) ↦ inl e ]

-- the source of a read is a write of the test to its location
pub source-writes : (t : Litmus) (c : Candidate) → Sound t c → (w r : Entry) → IsIn (events t c) r → ReadsFrom c w r
    → IsIn (events t c) w × (writes_to r.loc.0 w ≡ true)
source-writes t c s w r i f =
    let h : Returns t c r (Some w) = subst (Returns t c r) f.source (s.candidate.reads r i f.read) in (h.0, h.1)

pub after-writes : (t : Litmus) (c : Candidate) → Sound t c → (r v : Entry) → FromReads c r v
    → IsIn (events t c) v × (writes_to r.loc.0 v ≡ true)
after-writes t c s r v f = go (c.source r) f.overwritten
  where
    go : (o : Option Entry) → StandsAfter (c.coherence r.loc.0) o v → IsIn (events t c) v × (writes_to r.loc.0 v ≡ true)
    go None h = s.coherent r.loc.0 v h
    go (Some w) h = s.coherent r.loc.0 v (h.second, h.is_second)

-- an edge between accesses happens before; any other is program order
step : (t : Litmus) (c : Candidate) → Sound t c → (x y : Entry) → IsIn (events t c) x → IsIn (events t c) y → Goes c x y
    → HappensBefore (events t c) c x y ⊎ ((is_before x y ≡ true) × ((x.kind ≡ F) ⊎ (y.kind ≡ F)))
step t c s x y i j (inr (inl e)) = inl (rfe x y e.0 e.1)
step t c s x y i j (inr (inr (inl e))) = inl (co x y e)
step t c s x y i j (inr (inr (inr e))) = inl (fr x y e)
step t c s x y i j (inl k) = go (fence-or x) (fence-or y)
  where
    on : (is_read x ≡ true) ⊎ (is_write x ≡ true) → (is_read y ≡ true) ⊎ (is_write y ≡ true) → HappensBefore (events t c) c x y
    on (inl rx) ay = read_before_access x y k.0 rx (true-or (is_read y) (is_write y) ay)
    on (inr wx) (inl ry) = implied x y k.0 wx ry (unpassed x y wx ry k.1)
    on (inr wx) (inr wy) = write_before_write x y k.0 wx wy

    go : (x.kind ≡ F) ⊎ NoFence x → (y.kind ≡ F) ⊎ NoFence y
        → HappensBefore (events t c) c x y ⊎ ((is_before x y ≡ true) × ((x.kind ≡ F) ⊎ (y.kind ≡ F)))
    go (inl f) b = inr (k.0, inl f)
    go (inr a) (inl f) = inr (k.0, inr f)
    go (inr a) (inr b) = inl (on (access x a) (access y b))

-- the ends of an edge that isn't program order are accesses
ends : (t : Litmus) (c : Candidate) → Sound t c → (x y : Entry) → IsIn (events t c) x → IsIn (events t c) y → Goes c x y
    → (Kept x y) ⊎ (NoFence x × NoFence y)
ends t c s x y i j (inl k) = inl k
ends t c s x y i j (inr (inl e)) =
    inr (is-no-fence x (inr (writes y.loc.0 x (source-writes t c s x y j e.0).1)), is-no-fence y (inl e.0.read))
ends t c s x y i j (inr (inr (inl e))) =
    inr (
      is-no-fence x (inr (writes x.loc.0 x (s.coherent x.loc.0 x (e.first, e.is_first)).1)),
      is-no-fence y
          (inr (writes x.loc.0 y (s.coherent x.loc.0 y (e.second, e.is_second)).1)),
    )
ends t c s x y i j (inr (inr (inr e))) =
    inr (is-no-fence x (inl e.read), is-no-fence y (inr (writes x.loc.0 y (after-writes t c s x y e).1)))

-- ---- ways

abbrev pub Comes : Entry → Entry → Type 0
Comes x y = ((x ≡ y) × NoFence x) ⊎ ((x.kind ≡ F) × (is_before x y ≡ true))

abbrev pub Leaves : Entry → Entry → Type 0
Leaves y z = ((y ≡ z) × NoFence z) ⊎ ((z.kind ≡ F) × (is_before y z ≡ true))

pub record Through (t : Litmus) (c : Candidate) (x z : Entry) : Type 0 where
  pub from : Entry
  pub to : Entry
  pub comes : Comes x from
  pub way : LeadsTo (events t c) (HappensBefore (events t c) c) from to
  pub leaves : Leaves to z

abbrev pub Way : Litmus → Candidate → Entry → Entry → Type 0
Way t c x z = ((is_before x z ≡ true) × ((x.kind ≡ F) ⊎ (z.kind ≡ F))) ⊎ Through t c x z

joined : (es : List Entry) (B : Entry → Entry → Type 0) (x y z : Entry) → LeadsTo es B x y → LeadsTo es B y z → LeadsTo es B x z
joined es B _ _ z (at_once x y i j b) q = onward x y z i b q
joined es B _ _ z (onward x u y i b rest) q = onward x u z i b (joined es B u y z rest q)

ends-in : (es : List Entry) (B : Entry → Entry → Type 0) (x y : Entry) → LeadsTo es B x y → IsIn es y
ends-in es B _ _ (at_once x y i j b) = j
ends-in es B _ _ (onward x u y i b rest) = ends-in es B u y rest

over-fence : (t : Litmus) (c : Candidate) (x f y : Entry) → IsIn (events t c) x → IsIn (events t c) f → IsIn (events t c) y → f.kind ≡ F
    → is_before x f ≡ true → is_before f y ≡ true
    → LeadsTo (events t c) (HappensBefore (events t c) c) x y
over-fence t c x f y i k j e a b = at_once x y i j (mfence x f y k e a b)

ways : (t : Litmus) (c : Candidate) (x y z : Entry) → IsIn (events t c) x → IsIn (events t c) y → IsIn (events t c) z → Way t c x y
    → Way t c y z → Way t c x z
ways t c x y z i j k (inl a) (inl b) = go (fence-or x) (fence-or z)
  where
    go : (x.kind ≡ F) ⊎ NoFence x → (z.kind ≡ F) ⊎ NoFence z → Way t c x z
    go (inl f) d = inl (before-trans x y z a.0 b.0, inl f)
    go (inr n) (inl f) = inl (before-trans x y z a.0 b.0, inr f)
    go (inr n) (inr m) =
        inr (record {
          from = x;
          to = z;
          comes = inl (refl, n);
          way = over-fence t c x y z i j k (elim a.1 [ inl f ↦ absurd (n f) | inr f ↦ f ]) a.0 b.0;
          leaves = inl
              (refl, m);
        })
ways t c x y z i j k (inl a) (inr q) = go q.comes (fence-or x)
  where
    go : Comes y q.from → (x.kind ≡ F) ⊎ NoFence x → Way t c x z
    go (inl h) (inl f) =
        inr (record {
          from = q.from;
          to = q.to;
          comes = inr (f, subst (λ u. is_before x u ≡ true) h.0 a.0);
          way = q.way;
          leaves = q.leaves;
        })
    go (inl h) (inr n) = absurd (h.1 (elim a.1 [ inl f ↦ absurd (n f) | inr f ↦ f ]))
    go (inr h) (inl f) =
        inr (record { from = q.from; to = q.to; comes = inr (f, before-trans x y q.from a.0 h.1); way = q.way; leaves = q.leaves })
    go (inr h) (inr n) = inr (record {
      from = x;
      to = q.to;
      comes = inl (refl, n);
      way = joined (events t c) (HappensBefore (events t c) c) x q.from q.to
          (over-fence t c x y q.from i j (starts-in (events t c) (HappensBefore (events t c) c) q.from q.to q.way) h.0 a.0 h.1) q.way;
      leaves = q.leaves;
    })
ways t c x y z i j k (inr p) (inl b) = go p.leaves (fence-or z)
  where
    go : Leaves p.to y → (z.kind ≡ F) ⊎ NoFence z → Way t c x z
    go (inl h) (inl f) =
        inr (record {
          from = p.from;
          to = p.to;
          comes = p.comes;
          way = p.way;
          leaves = inr
              (f, subst (λ u. is_before u z ≡ true) (sym h.0) b.0);
        })
    go (inl h) (inr n) = absurd (h.1 (elim b.1 [ inl f ↦ f | inr f ↦ absurd (n f) ]))
    go (inr h) (inl f) =
        inr (record { from = p.from; to = p.to; comes = p.comes; way = p.way; leaves = inr (f, before-trans p.to y z h.1 b.0) })
    go (inr h) (inr n) = inr (record {
      from = p.from;
      to = z;
      comes = p.comes;
      way = joined (events t c) (HappensBefore (events t c) c) p.from p.to z p.way
          (over-fence t c p.to y z (ends-in (events t c) (HappensBefore (events t c) c) p.from p.to p.way) j k h.0 h.1 b.0);
      leaves = inl (refl, n);
    })
ways t c x y z i j k (inr p) (inr q) = go p.leaves q.comes
  where
    made : LeadsTo (events t c) (HappensBefore (events t c) c) p.from q.to → Way t c x z
    made w = inr (record { from = p.from; to = q.to; comes = p.comes; way = w; leaves = q.leaves })

    go : Leaves p.to y → Comes y q.from → Way t c x z
    go (inl h) (inl g) = made (joined (events t c) (HappensBefore (events t c) c) p.from p.to q.to p.way
        (subst (λ u. LeadsTo (events t c) (HappensBefore (events t c) c) u q.to) (sym (h.0 ∙ g.0)) q.way))
    go (inl h) (inr g) = absurd (h.1 g.0)
    go (inr h) (inl g) = absurd (g.1 h.0)
    go (inr h) (inr g) = made (joined (events t c) (HappensBefore (events t c) c) p.from p.to q.to p.way
        (joined (events t c) (HappensBefore (events t c) c) p.to q.from q.to
        (over-fence t c p.to y q.from (ends-in (events t c) (HappensBefore (events t c) c) p.from p.to p.way) j
        (starts-in (events t c) (HappensBefore (events t c) c) q.from q.to q.way) h.0 h.1 g.1) q.way))

step-way : (t : Litmus) (c : Candidate) → Sound t c → (x y : Entry) → IsIn (events t c) x → IsIn (events t c) y → Goes c x y → Way t c x y
step-way t c s x y i j g = go (step t c s x y i j g) (ends t c s x y i j g)
  where
    whole : HappensBefore (events t c) c x y → NoFence x → NoFence y → Way t c x y
    whole h a b = inr (record { from = x; to = y; comes = inl (refl, a); way = at_once x y i j h; leaves = inl (refl, b) })

    split : HappensBefore (events t c) c x y → Kept x y → (x.kind ≡ F) ⊎ NoFence x → (y.kind ≡ F) ⊎ NoFence y → Way t c x y
    split h k (inl f) b = inl (k.0, inl f)
    split h k (inr a) (inl f) = inl (k.0, inr f)
    split h k (inr a) (inr b) = whole h a b

    go : HappensBefore (events t c) c x y ⊎ ((is_before x y ≡ true) × ((x.kind ≡ F) ⊎ (y.kind ≡ F)))
        → (Kept x y) ⊎ (NoFence x × NoFence y) → Way t c x y
    go (inr b) e = inl b
    go (inl h) (inr n) = whole h n.0 n.1
    go (inl h) (inl k) = split h k (fence-or x) (fence-or y)

all-ways : (t : Litmus) (c : Candidate) → Sound t c → (x z : Entry) → LeadsTo (events t c) (Goes c) x z → Way t c x z
all-ways t c s _ _ (at_once x z i j b) = step-way t c s x z i j b
all-ways t c s _ _ (onward x y z i b rest) =
    let j = starts-in (events t c) (Goes c) y z rest in
    ways t c x y z i j (ends-in (events t c) (Goes c) y z rest) (step-way t c s x y i j b) (all-ways t c s y z rest)

pub goes-acyclic : (t : Litmus) (c : Candidate) → Sound t c → IsAcyclic (events t c) (HappensBefore (events t c) c)
    → IsAcyclic (events t c) (Goes c)
goes-acyclic t c s a x p = elim (all-ways t c s x x p) [ inl b ↦ before-irreflexive x b.0 | inr q ↦ cycle q q.leaves q.comes ]
  where
    cycle : (q : Through t c x x) → Leaves q.to x → Comes x q.from → ⊥
    cycle q (inl h) (inl g) = a q.from (subst (λ u. LeadsTo (events t c) (HappensBefore (events t c) c) q.from u) (h.0 ∙ g.0) q.way)
    cycle q (inl h) (inr g) = h.1 g.0
    cycle q (inr h) (inl g) = g.1 h.0
    cycle q (inr h) (inr g) = a q.from (joined (events t c) (HappensBefore (events t c) c) q.from q.to q.from q.way
        (over-fence t c q.to x q.from (ends-in (events t c) (HappensBefore (events t c) c) q.from q.to q.way)
        (starts-in (events t c) (Goes c) x x p)
        (starts-in (events t c) (HappensBefore (events t c) c) q.from q.to q.way) h.0 h.1 g.1))
