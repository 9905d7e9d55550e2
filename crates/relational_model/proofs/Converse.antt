-- Edges that can be kept are kept by an order of the candidate that is a TSO execution: the events without the load parts of locked
-- instructions go into a row, and each load part directly before its store part.
use Rattle.relational_model.proofs.Vocabulary.{◌≡◌, ◌≤◌, zero, suc, List, [], ◌∷◌, ◌++◌, arith, refl, sym, ap, ◌∙◌, ◌⊎◌, inl, inr, subst}
use Rattle.relational_model.proofs.Vocabulary.{length, Litmus, IsAdjacent, IsTsoExecution, Entry, LR, LW, IsIn, at_once, onward, IsAcyclic}
use Rattle.relational_model.proofs.Vocabulary.{Candidate, events, IsCandidateOf, LeaveTheSame, IsOfAnExecution, ArePair, IsAllowed, part_of}
use Rattle.relational_model.proofs.Vocabulary.{GoesForward, LinearExtension, Once}
use Rattle.relational_model.proofs.Lists.{in-case, in-first, in-later, in-append}
use Rattle.relational_model.proofs.Sizes.{once-filter, no-more}
use Rattle.relational_model.proofs.Decisions.{Decision, kinds, Goes, goes}
use Rattle.relational_model.proofs.Sorting.{Decided, in-a-row}
use Rattle.relational_model.proofs.Events.{Sound, sound, once-append, pigeons}
use Rattle.relational_model.proofs.Fences.{goes-acyclic}
use Rattle.relational_model.proofs.Order.{Placed, stand-once}
use Rattle.relational_model.proofs.Left.{leave-the-same}
use Rattle.relational_model.proofs.Values.{is-execution, is-of}
use Rattle.relational_model.proofs.Pairs.{coupled}
use Rattle.relational_model.proofs.AfterStore.{after-store}
use Rattle.relational_model.proofs.Together.{Toward, toward, pair-goes, way, is-other, other-is, others, load-of, put, in-load, From, in-put, put-own, put-load}

-- ---- what can be kept

-- edges that can be decided and never go round; those of each order of the candidate are among them; and what must come after a load
-- part must come after its store part
pub record CanBeKept (t : Litmus) (c : Candidate) (Before : Entry → Entry → Type 0) : Type 0 where
  pub decided : Decided Before
  pub acyclic : IsAcyclic (events t c) Before
  pub holds : (x y : Entry) → Goes c x y → Before x y
  pub after : (r w y : Entry) → IsIn (events t c) r → IsIn (events t c) w → IsIn (events t c) y → ArePair r w → r.loc.0 ≡ w.loc.0
      → (y ≡ w → ⊥) → Before r y → Before w y

-- this order of the candidate is a TSO execution, leaves what it leaves, and no edge goes back in it
pub record IsKeptIn (t : Litmus) (c : Candidate) (Before : Entry → Entry → Type 0) (order : List Entry) : Type 0 where
  pub execution : IsTsoExecution t order
  pub candidate : IsCandidateOf t order c
  pub state : LeaveTheSame t order c
  pub forward : GoesForward Before order

-- an order of the candidate in which no edge goes back
pub record IsKept (t : Litmus) (c : Candidate) (Before : Entry → Entry → Type 0) : Type 0 where
  pub of : IsOfAnExecution t c
  pub forward : GoesForward Before of.order

-- ---- rows

pub forward-append : (B : Entry → Entry → Type 0) (xs ys : List Entry) → GoesForward B xs → GoesForward B ys
    → ((x y : Entry) → IsIn xs x → IsIn ys y → B y x → ⊥) → GoesForward B (xs ++ ys)
forward-append B [] ys f g h = g
forward-append B (x ∷ xs) ys f g h =
    ((λ y i b. go y (in-append xs ys y i) b), forward-append B xs ys f.1 g (λ a y i j b. h a y (in-later x xs a i) j b))
  where
    go : (y : Entry) → IsIn xs y ⊎ IsIn ys y → B y x → ⊥
    go y (inl i) b = f.0 y i b
    go y (inr j) b = h x y (in-first x xs x refl) j b

pub forward-if : (B : Entry → Entry → Type 0) (xs : List Entry) → ((x y : Entry) → IsIn xs x → IsIn xs y → B y x → ⊥) → GoesForward B xs
forward-if B [] h = tt
forward-if B (x ∷ xs) h = (
  (λ y i b. h x y (in-first x xs x refl) (in-later x xs y i) b),
  forward-if B xs
      (λ a y i j b. h a y (in-later x xs a i) (in-later x xs y j) b),
)

-- fewer edges go forward too
fewer : (A B : Entry → Entry → Type 0) → ((x y : Entry) → B x y → A x y) → (xs : List Entry) → GoesForward A xs → GoesForward B xs
fewer A B f [] h = tt
fewer A B f (x ∷ xs) h = ((λ y i b. h.0 y i (f y x b)), fewer A B f xs h.1)

-- ---- the two parts of a locked instruction

same-location : (t : Litmus) (c : Candidate) → Sound t c → (r w : Entry) → IsIn (events t c) r → IsIn (events t c) w → ArePair r w
    → r.loc.0 ≡ w.loc.0
same-location t c s r w i j p =
    let m = (coupled t c r i).0 p.read in
    m.location ∙ ap (λ (z : Entry). z.loc.0)
    (s.same m.other w m.inside j (sym m.pair.core ∙ p.core) (sym m.pair.place ∙ p.place) (ap part_of (m.pair.write ∙ sym p.write)))

one-load : (t : Litmus) (c : Candidate) → Sound t c → (r q w : Entry) → IsIn (events t c) r → IsIn (events t c) q → ArePair r w
    → ArePair q w → r ≡ q
one-load t c s r q w i j p o = s.same r q i j (p.core ∙ sym o.core) (p.place ∙ sym o.place) (ap part_of (p.read ∙ sym o.read))

one-store : (t : Litmus) (c : Candidate) → Sound t c → (r v w : Entry) → IsIn (events t c) v → IsIn (events t c) w → ArePair r v
    → ArePair r w → v ≡ w
one-store t c s r v w i j p o = s.same v w i j (sym p.core ∙ o.core) (sym p.place ∙ o.place) (ap part_of (p.write ∙ sym o.write))

no-load : (w : Entry) → w.kind ≡ LW → w.kind ≡ LR → ⊥
no-load w e f = let z : ⊥ = cc in z

-- ---- each load part is followed by its store part

-- at most one load part is there
pub data Single : List Entry → Type 0 where
  none : Single []
  one : (r : Entry) → Single (r ∷ [])

single : (xs : List Entry) → Once xs → ((x y : Entry) → IsIn xs x → IsIn xs y → x ≡ y) → Single xs
single [] o h = none
single (r ∷ []) o h = one r
single (r ∷ (q ∷ xs)) o h =
    absurd (o.0 (in-first q xs r (h r q (in-first r (q ∷ xs) r refl) (in-later r (q ∷ xs) q (in-first q xs q refl)))))

keeps-single : (zs : List Entry) (x : Entry) (ys : List Entry) → Single zs → ((r : Entry) → IsIn zs r → ArePair r x) → (x.kind ≡ LR → ⊥)
    → IsAdjacent ys → IsAdjacent (zs ++ (x ∷ ys))
keeps-single _ x ys none p n k zero e q l = absurd (n (let same : x ≡ e = cc in ap (λ (z : Entry). z.kind) same ∙ l))
keeps-single _ x ys none p n k (suc i) e q l = k i e q l
keeps-single _ x ys (one r) p n k zero e q l =
    let same : r ≡ e = cc in
    let h = subst (λ z. ArePair z x) same (p r (0, refl)) in
    (x, refl, record { core = sym h.core; place = sym h.place; kind = h.write })
keeps-single _ x ys (one r) p n k (suc zero) e q l = absurd (n (let same : x ≡ e = cc in ap (λ (z : Entry). z.kind) same ∙ l))
keeps-single _ x ys (one r) p n k (suc (suc i)) e q l = k i e q l

module _ (t : Litmus) (c : Candidate) (s : Sound t c) (a : IsAllowed t c) (Before : Entry → Entry → Type 0) (keep : CanBeKept t c Before) where
  pair-before : (r w : Entry) → ArePair r w → Before r w
  pair-before r w p = keep.holds r w (pair-goes c r w p)

  -- ---- events that are no load parts, in a row

  pub record Others (xs : List Entry) : Type 0 where
    pub inside : (x : Entry) → IsIn xs x → IsIn (events t c) x
    pub no_load : (x : Entry) → IsIn xs x → x.kind ≡ LR → ⊥
    pub single : Once xs
    pub forward : GoesForward (Toward (events t c) Before) xs

  rest-of : (x : Entry) (xs : List Entry) → Others (x ∷ xs) → Others xs
  rest-of x xs o = record {
    inside = λ y i. o.inside y (in-later x xs y i);
    no_load = λ y i. o.no_load y (in-later x xs y i);
    single = o.single.1;
    forward = o.forward.1;
  }

  -- no edge goes back to z from what is put there of these, if none does from themselves
  none-back : (xs : List Entry) → ((w : Entry) → IsIn xs w → IsIn (events t c) w)
      → (z : Entry) → IsIn (events t c) z → ((w : Entry) → IsIn xs w → z ≡ w → ⊥) → ((w : Entry) → IsIn xs w → Before w z → ⊥)
      → (y : Entry) → IsIn (put (events t c) xs) y → Before y z → ⊥
  none-back xs f z i n h y j g = go (in-put (events t c) xs y j)
    where
      go : From (events t c) xs y → ⊥
      go (inl k) = h y k g
      go (inr (w, (k, (m, p)))) = h w k (keep.after y w z m (f w k) i p (same-location t c s y w m (f w k) p) (n w k) g)

  put-forward : (xs : List Entry) → Others xs → GoesForward Before (put (events t c) xs)
  put-forward [] o = tt
  put-forward (x ∷ xs) o =
      forward-append Before (load-of (events t c) x) (x ∷ put (events t c) xs)
      (forward-if Before (load-of (events t c) x) (λ r q i j g. own r q i j g)) (
        (λ y j g. none-back xs rest x (o.inside x first) apart (λ w k b. o.forward.0 w k (inl b)) y j g),
        put-forward xs (rest-of x xs o),
      )
      (λ r y i j g. load r y i (in-case x (put (events t c) xs) y j) g)
    where
      first : IsIn (x ∷ xs) x
      first = in-first x xs x refl

      rest : (w : Entry) → IsIn xs w → IsIn (events t c) w
      rest w k = o.inside w (in-later x xs w k)

      apart : (w : Entry) → IsIn xs w → x ≡ w → ⊥
      apart w k e = o.single.0 (subst (IsIn xs) (sym e) k)

      own : (r q : Entry) → IsIn (load-of (events t c) x) r → IsIn (load-of (events t c) x) q → Before q r → ⊥
      own r q i j g =
          let h = in-load (events t c) x r i in
          let k = in-load (events t c) x q j in
          keep.acyclic r (at_once r r h.0 h.0 (subst (λ z. Before z r) (one-load t c s q r x k.0 h.0 k.1 h.1) g))

      load : (r y : Entry) → IsIn (load-of (events t c) x) r → (y ≡ x) ⊎ IsIn (put (events t c) xs) y → Before y r → ⊥
      load r y i (inl e) g =
          let h = in-load (events t c) x r i in
          keep.acyclic r
          (onward r x r h.0 (pair-before r x h.1) (at_once x r (o.inside x first) h.0 (subst (λ z. Before z r) e g)))
      load r y i (inr j) g =
          let h = in-load (events t c) x r i in
          none-back xs rest r h.0
          (λ w k e. o.no_load w (in-later x xs w k) (ap (λ (z : Entry). z.kind) (sym e) ∙ h.1.read))
          (λ w k b. o.forward.0 w k (inr (r, (h.0, (h.1, b))))) y j g

  put-once : (xs : List Entry) → Others xs → Once (put (events t c) xs)
  put-once [] o = tt
  put-once (x ∷ xs) o =
      once-append (load-of (events t c) x) (x ∷ put (events t c) xs) (once-filter _ (events t c) s.once)
      ((λ j. own (in-put (events t c) xs x j)), put-once xs (rest-of x xs o))
      (λ r i j. apart r (in-load (events t c) x r i) (in-case x (put (events t c) xs) r j))
    where
      first : IsIn (x ∷ xs) x
      first = in-first x xs x refl

      own : From (events t c) xs x → ⊥
      own (inl k) = o.single.0 k
      own (inr (w, (k, (m, p)))) = o.no_load x first p.read

      load : (r : Entry) → IsIn (events t c) r × ArePair r x → From (events t c) xs r → ⊥
      load r h (inl k) = o.no_load r (in-later x xs r k) h.1.read
      load r h (inr (w, (k, (m, p)))) =
          o.single.0 (subst (IsIn xs) (one-store t c s r w x (o.inside w (in-later x xs w k)) (o.inside x first) p h.1) k)

      apart : (r : Entry) → IsIn (events t c) r × ArePair r x → (r ≡ x) ⊎ IsIn (put (events t c) xs) r → ⊥
      apart r h (inl e) = o.no_load x first (ap (λ (z : Entry). z.kind) (sym e) ∙ h.1.read)
      apart r h (inr j) = load r h (in-put (events t c) xs r j)

  put-pairs : (xs : List Entry) → Others xs → IsAdjacent (put (events t c) xs)
  put-pairs [] o = λ i e q l. let z : ⊥ = cc in absurd z
  put-pairs (x ∷ xs) o =
      keeps-single (load-of (events t c) x) x (put (events t c) xs)
      (single (load-of (events t c) x) (once-filter _ (events t c) s.once) (λ r q i j.
      let h = in-load (events t c) x r i in
      let k = in-load (events t c) x q j in
      one-load t c s r q x h.0 k.0 h.1 k.1))
      (λ r i. (in-load (events t c) x r i).1) (o.no_load x (in-first x xs x refl)) (put-pairs xs (rest-of x xs o))

  -- ---- the order

  put-placed : (xs : List Entry) → Others xs → ((x : Entry) → IsIn (events t c) x → (x.kind ≡ LR → ⊥) → IsIn xs x)
      → Placed t c (put (events t c) xs)
  put-placed xs o f = record {
    sound = s;
    allowed = a;
    inside = inside;
    outside = outside;
    single = put-once xs o;
    once = stand-once (put (events t c) xs) (put-once xs o);
    forward = fewer Before (Goes c) keep.holds (put (events t c) xs) (put-forward xs o);
    count =
        let less : length (put (events t c) xs) ≤ length (events t c) = no-more (put (events t c) xs) (events t c)
        (put-once xs o) outside in
        let more : length (events t c) ≤ length (put (events t c) xs) = no-more (events t c) (put (events t c) xs) s.once inside in
        omega arith;
  }
    where
      on : (x : Entry) → IsIn (events t c) x → Decision (x.kind ≡ LR) → IsIn (put (events t c) xs) x
      on x i (inl e) =
          let m = (coupled t c x i).0 e in
          put-load (events t c) xs m.other x (f m.other m.inside (no-load m.other m.pair.write)) i m.pair
      on x i (inr n) = put-own (events t c) xs x (f x i n)

      inside : (x : Entry) → IsIn (events t c) x → IsIn (put (events t c) xs) x
      inside x i = on x i (kinds x.kind LR)

      from : (x : Entry) → From (events t c) xs x → IsIn (events t c) x
      from x (inl k) = o.inside x k
      from x (inr (w, (k, (m, p)))) = m

      outside : (x : Entry) → IsIn (put (events t c) xs) x → IsIn (events t c) x
      outside x i = from x (in-put (events t c) xs x i)

  -- all that are no load parts, in such a row: each load part is put before its store part
  pub in-order : (xs : List Entry) → Others xs → ((x : Entry) → IsIn (events t c) x → (x.kind ≡ LR → ⊥) → IsIn xs x)
      → IsKeptIn t c Before (put (events t c) xs)
  in-order xs o f =
      let k = put-placed xs o f in
      record {
        execution = is-execution t c (put (events t c) xs) k (put-pairs xs o);
        candidate = is-of t c (put (events t c) xs) k;
        state = leave-the-same t (put (events t c) xs) c (is-of t c (put (events t c) xs) k);
        forward = put-forward xs o;
      }

  -- the lemma
  pub is-kept : IsKept t c Before
  is-kept =
      go (in-a-row (others (events t c)) (Toward (events t c) Before) (toward (events t c) Before keep.decided)
      (λ x p. keep.acyclic x (way (events t c) (others (events t c)) Before pair-before (λ y i. (is-other (events t c) y i).0) x x p)))
    where
      go : LinearExtension (Toward (events t c) Before) (others (events t c)) → IsKept t c Before
      go r =
          let o : Others r.row = record {
            inside = λ x i. (is-other (events t c) x (r.outside x i)).0;
            no_load = λ x i. (is-other (events t c) x (r.outside x i)).1;
            single = (pigeons (others (events t c)) r.row (once-filter _ (events t c) s.once) r.inside r.count).once;
            forward = r.forward;
          } in
          let k = in-order r.row o (λ x i n. r.inside x (other-is (events t c) x i n)) in
          record {
            of = record { order = put (events t c) r.row; execution = k.execution; candidate = k.candidate; state = k.state };
            forward = k.forward;
          }

-- ---- x86-TSO

pub goes-kept : (t : Litmus) (c : Candidate) (s : Sound t c) (a : IsAllowed t c) → CanBeKept t c (Goes c)
goes-kept t c s a = record {
  decided = goes c;
  acyclic = goes-acyclic t c s a.global;
  holds = λ x y g. g;
  after = λ r w y i j k p e n g. after-store t c s a r w y i j k p e n g;
}

pub is-of-an-execution : (t : Litmus) (c : Candidate) → IsAllowed t c → IsOfAnExecution t c
is-of-an-execution t c a =
    let s = sound t c a.candidate in
    (is-kept t c s a (Goes c) (goes-kept t c s a)).of
