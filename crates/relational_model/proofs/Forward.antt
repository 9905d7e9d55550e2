-- Of a TSO execution, what happens before comes before in the order; and no write comes between the parts of a locked
-- instruction.
use Rattle.relational_model.proofs.Vocabulary.{◌≡◌, true, false, List, Option, Some, None, refl, ◌⊎◌, inl, inr, subst, Litmus, is_before}
use Rattle.relational_model.proofs.Vocabulary.{is_read, is_write, writes_to, may_be_passed, Entry, IsIn, IsEarlier, LeadsTo, at_once}
use Rattle.relational_model.proofs.Vocabulary.{onward, IsAcyclic, Candidate, events, StandsAfter, FromReads, HappensBefore}
use Rattle.relational_model.proofs.Vocabulary.{write_before_write, read_before_access, mfence, implied, rfe, co, fr}
use Rattle.relational_model.proofs.Ranks.{before-rank}
use Rattle.relational_model.proofs.KindFacts.{write-is-no-read, before-write-kept, read-kept-before, kept-before-fence, kept-after-fence}
use Rattle.relational_model.proofs.KindFacts.{kept-with-locked, and-both}
use Rattle.relational_model.proofs.Sources.{Known, Counts, earlier-trans, never-itself, never-back, one-way, source-counts, source-last}
use Rattle.relational_model.proofs.Sources.{source-none, coherence-in, coherence-earlier, event-in}

-- program order that may not be passed is kept
pub kept : (t : Litmus) (order : List Entry) (c : Candidate) → Known t order c → (x y : Entry) → IsIn order x → IsIn order y
    → is_before x y ≡ true → may_be_passed x y ≡ false
    → IsEarlier order x y
kept t order c known x y (i, p) (j, q) b m =
    record { first = i; second = j; is_first = p; is_second = q; before = known.tso.program_order i j x y p q b m }

-- what comes after the source of a read in coherence writes its location
pub after-in : (t : Litmus) (order : List Entry) (c : Candidate) → Known t order c → (r v : Entry) → FromReads c r v
    → IsIn order v × (writes_to r.loc.0 v ≡ true)
after-in t order c known r v f = go (c.source r) f.overwritten
  where
    go : (s : Option Entry) → StandsAfter (c.coherence r.loc.0) s v → IsIn order v × (writes_to r.loc.0 v ≡ true)
    go None h = coherence-in t order c known r.loc.0 v h
    go (Some w) h = coherence-in t order c known r.loc.0 v (h.second, h.is_second)

-- a read comes before each write that overwrites what it read
pub overwritten-later : (t : Litmus) (order : List Entry) (c : Candidate) → Known t order c → (r v : Entry) → IsIn order r
    → FromReads c r v → IsEarlier order r v
overwritten-later t order c known r v i f = go (one-way order r v i (after-in t order c known r v f).0)
  where
    none : (s : Option Entry) → c.source r ≡ s → StandsAfter (c.coherence r.loc.0) s v → Counts order r v → ⊥
    none None e h counts = source-none t order c known r v i f.read e counts
    none (Some w) e h counts = elim (source-last t order c known r w v i f.read e counts) [
      | inl same ↦ never-itself order w known.once (subst (λ x. IsEarlier order w x) same (coherence-earlier t order c known r.loc.0 w v h))
      | inr k ↦ never-back order v w known.once k (coherence-earlier t order c known r.loc.0 w v h)
    ]

    go : (r ≡ v) ⊎ (IsEarlier order r v ⊎ IsEarlier order v r) → IsEarlier order r v
    go (inl same) =
        let w : is_write v ≡ true = (and-both (is_write v) _ (after-in t order c known r v f).1).0 in
        absurd (write-is-no-read v w (subst (λ x. is_read x ≡ true) same f.read))
    go (inr (inl k)) = k
    go (inr (inr k)) = let b = after-in t order c known r v f in absurd (none (c.source r) refl f.overwritten (b.0, (b.1, inl k)))

-- each step of what happens before goes forward in the order
pub step-forward : (t : Litmus) (order : List Entry) (c : Candidate) → Known t order c → (x y : Entry) → IsIn order x → IsIn order y
    → HappensBefore (events t c) c x y
    → IsEarlier order x y
step-forward t order c known x y i j (write_before_write _ _ b wx wy) = kept t order c known x y i j b (before-write-kept x y wy)
step-forward t order c known x y i j (read_before_access _ _ b rx ay) = kept t order c known x y i j b (read-kept-before x y rx)
step-forward t order c known x y i j (mfence _ f _ inside kind b d) =
    let k = event-in t order c known f inside in
    earlier-trans order x f y known.once (kept t order c known x f i k b (kept-before-fence x f kind))
    (kept t order c known f y k j d (kept-after-fence f y kind))
step-forward t order c known x y i j (implied _ _ b wx ry l) = kept t order c known x y i j b (kept-with-locked x y l)
step-forward t order c known x y i j (rfe _ _ f apart) =
    elim (source-counts t order c known y x j f.read f.source).1.1 [ inl e ↦ e | inr b ↦ absurd (apart (before-rank x y b).0) ]
step-forward t order c known x y i j (co _ _ e) = coherence-earlier t order c known x.loc.0 x y e
step-forward t order c known x y i j (fr _ _ f) = overwritten-later t order c known x y i f

pub starts-in : (es : List Entry) (Before : Entry → Entry → Type 0) (x y : Entry) → LeadsTo es Before x y → IsIn es x
starts-in es Before _ _ (at_once x y i j b) = i
starts-in es Before _ _ (onward x y z i b rest) = i

path-forward : (t : Litmus) (order : List Entry) (c : Candidate) → Known t order c → (x z : Entry)
    → LeadsTo (events t c) (HappensBefore (events t c) c) x z → IsEarlier order x z
path-forward t order c known _ _ (at_once x z i j b) =
    step-forward t order c known x z (event-in t order c known x i) (event-in t order c known z j) b
path-forward t order c known _ _ (onward x y z i b rest) =
    let j = starts-in (events t c) (HappensBefore (events t c) c) y z rest in
    earlier-trans order x y z known.once (step-forward t order c known x y (event-in t order c known x i) (event-in t order c known y j) b)
    (path-forward t order c known y z rest)

pub global-acyclic : (t : Litmus) (order : List Entry) (c : Candidate) → Known t order c
    → IsAcyclic (events t c) (HappensBefore (events t c) c)
global-acyclic t order c known x p = never-itself order x known.once (path-forward t order c known x x p)
