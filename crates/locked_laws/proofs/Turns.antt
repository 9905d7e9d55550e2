-- In the order of an allowed candidate the store part follows its load part at once. So what the load part reads is the last write
-- before both, and in coherence the store part comes directly after it.
use Rattle.relational_model.proofs.Vocabulary.{◌≡◌, ℕ, zero, suc, Bool, true, false, if◌then◌else◌, List, [], ◌∷◌, ◌++◌, Some, slice_get}
use Rattle.relational_model.proofs.Vocabulary.{arith, refl, sym, ap, ◌∙◌, inl, subst, filter, append-nil, Litmus, is_before, is_read}
use Rattle.relational_model.proofs.Vocabulary.{is_write, writes_to, may_be_passed, counting, Entry, LR, LW, IsIn, IsEarlier, Candidate}
use Rattle.relational_model.proofs.Vocabulary.{events, last_in, IsAllowed, ArePair, part_of}
use Rattle.relational_model.proofs.Lists.{in-later, from-precedes, Precedes, precedes-right}
use Rattle.relational_model.proofs.Uniproc.{writes-at}
use Rattle.relational_model.proofs.Sources.{Known, never-back, event-in}
use Rattle.relational_model.proofs.Forward.{kept}
use Rattle.relational_model.proofs.Pairs.{coupled, HasStore}
use Rattle.relational_model.proofs.Events.{same-events-from}
use Rattle.relational_model.proofs.Allowed.{Whole}
use Rattle.tso_terms.specs.ProgramOrder.{IsStorePart}
use Rattle.tso_laws.specs.inner.Laws.{WholeOrdersHaveEachEntryOnce}
use Rattle.relational_model.specs.CandidatesOfOrders.{IsOfAnExecution}
use Rattle.locked_laws.specs.Turns.{TakesItsTurn, LockedInstructionsTakeTurns}

-- ---- lists

-- where a list is cut at two neighbours
pub record Neighbours (xs : List Entry) (x y : Entry) : Type 0 where
  pub front : List Entry
  pub back : List Entry
  pub is : xs ≡ front ++ (x ∷ (y ∷ back))

neighbours : (xs : List Entry) (i : ℕ) (x y : Entry) → slice_get xs i ≡ Some x → slice_get xs (suc i) ≡ Some y → Neighbours xs x y
neighbours [] i x y p q = let z : ⊥ = cc in absurd z
neighbours (z ∷ []) zero x y p q = let w : ⊥ = cc in absurd w
neighbours (z ∷ (u ∷ us)) zero x y p q =
    let a : z ≡ x = cc in
    let b : u ≡ y = cc in
    record { front = []; back = us; is = ap (λ e. e ∷ (u ∷ us)) a ∙ ap (λ e. x ∷ (e ∷ us)) b }
neighbours (z ∷ zs) (suc i) x y p q =
    let n = neighbours zs i x y p q in record { front = z ∷ n.front; back = n.back; is = ap (λ es. z ∷ es) n.is }

filter-append : (p : Entry → Bool) (xs ys : List Entry) → filter p (xs ++ ys) ≡ filter p xs ++ filter p ys
filter-append p [] ys = refl
filter-append p (x ∷ xs) ys = go (p x) (filter-append p xs ys)
  where
    go : (b : Bool) → filter p (xs ++ ys) ≡ filter p xs ++ filter p ys
        → (if b then x ∷ filter p (xs ++ ys) else filter p (xs ++ ys)) ≡ (if b then x ∷ filter p xs else filter p xs) ++ filter p ys
    go true e = ap (λ zs. x ∷ zs) e
    go false e = e

filter-none : (p : Entry → Bool) (xs : List Entry) → ((x : Entry) → IsIn xs x → p x ≡ true → ⊥) → filter p xs ≡ []
filter-none p [] h = refl
filter-none p (x ∷ xs) h = go (p x) refl (filter-none p xs (λ y i e. h y (in-later x xs y i) e))
  where
    go : (b : Bool) → p x ≡ b → filter p xs ≡ [] → (if b then x ∷ filter p xs else filter p xs) ≡ []
    go true q e = absurd (h x (0, refl) q)
    go false q e = e

filter-yes : (p : Entry → Bool) (x : Entry) (xs : List Entry) → p x ≡ true → filter p (x ∷ xs) ≡ x ∷ filter p xs
filter-yes p x xs h = subst (λ b. (if b then x ∷ filter p xs else filter p xs) ≡ x ∷ filter p xs) (sym h) refl

filter-no : (p : Entry → Bool) (x : Entry) (xs : List Entry) → p x ≡ false → filter p (x ∷ xs) ≡ filter p xs
filter-no p x xs h = subst (λ b. (if b then x ∷ filter p xs else filter p xs) ≡ filter p xs) (sym h) refl

-- ---- kinds

pub load-part-reads : (r : Entry) → r.kind ≡ LR → is_read r ≡ true
load-part-reads r k = grind arith

load-part-writes-nothing : (loc : ℕ) (r : Entry) → r.kind ≡ LR → writes_to loc r ≡ false
load-part-writes-nothing loc r k = grind arith

store-part-writes : (w : Entry) → w.kind ≡ LW → is_write w ≡ true
store-part-writes w k = grind arith

-- nothing passes before a load part
unpassed : (e r : Entry) → r.kind ≡ LR → may_be_passed e r ≡ false
unpassed e r k = grind arith

-- ---- the turn of a locked instruction

module _ (t : Litmus) (order : List Entry) (c : Candidate) (known : Known t order c) (whole : Whole t order) where
  in-events : (x : Entry) → IsIn order x → IsIn (events t c) x
  in-events x i = subst (λ xs. IsIn xs x) (sym known.of.events) (whole.made x i)

  -- of what comes after a load part in the order nothing is before it in its program
  none-before : (front back : List Entry) (r : Entry) → order ≡ front ++ (r ∷ back) → IsIn order r → r.kind ≡ LR
      → filter (λ e. is_before e r) back ≡ []
  none-before front back r is i k = filter-none (λ e. is_before e r) back go
    where
      after : (e : Entry) → IsIn back e → IsEarlier order r e
      after e j = from-precedes order r e (subst (Precedes r e) (sym is) (precedes-right front (r ∷ back) r e (inl (refl, j))))

      go : (e : Entry) → IsIn back e → is_before e r ≡ true → ⊥
      go e j b =
          let a = after e j in
          never-back order r e known.once a (kept t order c known e r (a.second, a.is_second) i b (unpassed e r k))

  counts-front : (front back : List Entry) (r : Entry) → order ≡ front ++ (r ∷ back) → IsIn order r → r.kind ≡ LR
      → counting r front back ≡ filter (writes_to r.loc.0) front
  counts-front front back r is i k =
      ap (λ es. filter (writes_to r.loc.0) (front ++ es)) (none-before front back r is i k)
      ∙ ap (filter (writes_to r.loc.0)) (append-nil front)

  coherence-around : (front back : List Entry) (r w : Entry) → order ≡ front ++ (r ∷ (w ∷ back)) → r.kind ≡ LR
      → writes_to r.loc.0 w ≡ true
      → c.coherence r.loc.0 ≡ filter (writes_to r.loc.0) front ++ (w ∷ filter (writes_to r.loc.0) back)
  coherence-around front back r w is k h =
      known.of.coherence r.loc.0
      ∙ (ap (filter (writes_to r.loc.0)) is
      ∙ (filter-append (writes_to r.loc.0) front (r ∷ (w ∷ back))
      ∙ ap (λ es. filter (writes_to r.loc.0) front ++ es)
      (filter-no (writes_to r.loc.0) r (w ∷ back) (load-part-writes-nothing r.loc.0 r k)
      ∙ filter-yes (writes_to r.loc.0) w back h)))

  turn-in-order : (r : Entry) → IsIn order r → r.kind ≡ LR → (w : Entry) × TakesItsTurn t c r w
  turn-in-order r i k = go ((coupled t c r (in-events r i)).0 k) (known.tso.adjacent i.0 r i.1 k)
    where
      with : (w : Entry) → IsIn (events t c) w → ArePair r w → r.loc.0 ≡ w.loc.0 → Neighbours order r w → (w : Entry) × TakesItsTurn t c r w
      with w j pair loc n = (
        w,
        record {
          inside = j;
          pair = pair;
          location = sym loc;
          earlier = filter (writes_to r.loc.0) n.front;
          later = filter (writes_to r.loc.0) n.back;
          coherence = coherence-around n.front n.back r w n.is k (writes-at r.loc.0 w (store-part-writes w pair.write) (sym loc));
          source =
              known.of.sources n.front r (w ∷ n.back) n.is (load-part-reads r k)
              ∙ ap last_in (counts-front n.front (w ∷ n.back) r n.is i k);
        },
      )

      same : (s : HasStore (events t c) r) (y : Entry) → IsIn (events t c) y → IsStorePart r y → y ≡ s.other
      same s y j part =
          same-events-from 0 t.programs t.registers c.reads y s.other j s.inside (part.core ∙ s.pair.core) (part.place ∙ s.pair.place)
          (ap part_of (part.kind ∙ sym s.pair.write))

      go : HasStore (events t c) r → (y : Entry) × (slice_get order (suc i.0) ≡ Some y) × IsStorePart r y → (w : Entry) × TakesItsTurn t c r w
      go s (y, q, part) =
          with s.other s.inside s.pair s.location
          (subst (Neighbours order r) (same s y (in-events y (suc i.0, q)) part) (neighbours order i.0 r y i.1 q))

-- ---- of an allowed candidate

pub turn : ((t : Litmus) (c : Candidate) → IsAllowed t c → IsOfAnExecution t c) → WholeOrdersHaveEachEntryOnce → LockedInstructionsTakeTurns
turn executions once t c r a i k = go (executions t c a)
  where
    go : IsOfAnExecution t c → (w : Entry) × TakesItsTurn t c r w
    go o =
        turn-in-order t o.order c known (record { made = λ e j. once.made_by_the_programs t o.order e o.execution.whole j; once = known.once }) r
        (event-in t o.order c known r i) k
      where
        known : Known t o.order c
        known = record {
          tso = o.execution;
          of = o.candidate;
          once = λ j l e p q. once.once t o.order j l e o.execution.whole p q;
        }
