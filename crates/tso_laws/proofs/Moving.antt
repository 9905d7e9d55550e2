-- Load parts that are put before their store parts, and what is committed in between.
use Rattle.tso_laws.proofs.BusVocabulary.{◌≡◌, ◌≢◌, ℕ, List, [], ◌∷◌, ◌++◌, Bool, true, false, ap, sym, refl, ◌∙◌, ◌==◌, ◌&&◌, inl, inr}
use Rattle.tso_laws.proofs.BusVocabulary.{same_kind, is_at, IsStorePart, MemoryAccess, Holder, Free, HeldBetween, put_before, put_together}
use Rattle.tso_laws.proofs.BusVocabulary.{Entry, LR, LW, IsAnswered, ArePaired, decide, test-true, Each}
use Rattle.tso_laws.proofs.Steps.{IsPlain}

-- what is to come, with the load part that waits put before its store part
abbrev pub moved : Holder → List Entry → List Entry
moved (HeldBetween e) ys = put_before e ys
moved _ ys = ys

not-at : (core place : ℕ) (e : Entry) → same_kind e.kind LW ≡ false → is_at core place LW e ≡ false
not-at core place e h = rw h (go (e.core.0 == core) (e.place == place))
  where
    go : (a b : Bool) → (a && b && false) ≡ false
    go true true = refl
    go true false = refl
    go false true = refl
    go false false = refl

together-plain : (core : ℕ) (what : MemoryAccess) (xs ys : List Entry) → Each (IsPlain core what) xs → put_together (xs ++ ys) ≡ xs ++ put_together ys
together-plain core what [] ys h = refl
together-plain core what (x ∷ xs) ys h = rw h.0.no_load_part (ap (λ z. x ∷ z) (together-plain core what xs ys h.1))

before-plain : (core : ℕ) (what : MemoryAccess) (e : Entry) (xs ys : List Entry) → Each (IsPlain core what) xs → put_before e (xs ++ ys) ≡ xs ++ put_before e ys
before-plain core what e [] ys h = refl
before-plain core what e (x ∷ xs) ys h = rw (not-at e.core.0 e.place x h.0.no_store_part) (ap (λ z. x ∷ z) (before-plain core what e xs ys h.1))

-- entries that are no part of a locked instruction stay where they are
pub moved-plain : (core : ℕ) (what : MemoryAccess) (holder : Holder) (xs ys : List Entry)
    → Each (IsPlain core what) xs
    → moved holder (put_together (xs ++ ys)) ≡ xs ++ moved holder (put_together ys)
moved-plain core what (HeldBetween e) xs ys h = ap (λ z. put_before e z) (together-plain core what xs ys h) ∙ before-plain core what e xs (put_together ys) h
moved-plain core what _ xs ys h = together-plain core what xs ys h

-- y is the store part of x
pub record Parts (x y : Entry) : Type 0 where
  pub load : x.kind ≡ LR
  pub store : IsStorePart x y

-- a load part comes before its store part
pub moved-pair : (x y : Entry) (ys : List Entry) → Parts x y → put_before x (put_together (y ∷ ys)) ≡ x ∷ (y ∷ put_together ys)
moved-pair x y ys p =
    let k : same_kind y.kind LR ≡ false = rw p.store.kind refl in
    let a : is_at x.core.0 x.place LW y ≡ true = rw (test-true y.core.0 x.core.0 p.store.core, test-true y.place x.place p.store.place, p.store.kind) refl in
    rw k (rw a refl)

pub together-pair : (x y : Entry) (ys : List Entry) → Parts x y → put_together (x ∷ (y ∷ ys)) ≡ x ∷ (y ∷ put_together ys)
together-pair x y ys p = let k : same_kind x.kind LR ≡ true = rw p.load refl in rw k (moved-pair x y ys p)

-- ---- between the two parts

-- what is to come after a holder
pub record IsToCome (holder next : Holder) (ys : List Entry) : Type 0 where
  pub answered : (e : Entry) → holder ≡ HeldBetween e → IsAnswered e ys next
  pub paired : ArePaired ys next

-- with these entries in front the rest goes on from that holder, and not from this one
abbrev pub GoesOn : Holder → Holder → List Entry → Type 0
GoesOn holder next xs = (ys : List Entry) (end : Holder) → IsToCome next end ys → IsToCome holder end (xs ++ ys)

kind-not : (e : Entry) → same_kind e.kind LR ≡ false → e.kind ≢ LR
kind-not e h q = let z : same_kind e.kind LR ≡ true = rw q refl in cc

kind-not-store : (e : Entry) → same_kind e.kind LW ≡ false → e.kind ≢ LW
kind-not-store e h q = let z : same_kind e.kind LW ≡ true = rw q refl in cc

paired-plain : (core : ℕ) (what : MemoryAccess) (xs ys : List Entry) (end : Holder) → Each (IsPlain core what) xs → ArePaired ys end → ArePaired (xs ++ ys) end
paired-plain core what [] ys end h p = p
paired-plain core what (x ∷ xs) ys end h p = (λ q. absurd (kind-not x h.0.no_load_part q), paired-plain core what xs ys end h.1 p)

answered-plain : (core : ℕ) (what : MemoryAccess) (e : Entry) (xs ys : List Entry) (end : Holder)
    → core ≢ e.core.0
    → Each (IsPlain core what) xs
    → IsAnswered e ys end
    → IsAnswered e (xs ++ ys) end
answered-plain core what e [] ys end n h a = a
answered-plain core what e (x ∷ xs) ys end n h a = inr (
  record { core = λ q. n (sym h.0.mine ∙ q); no_load_part = kind-not x h.0.no_load_part; no_store_part = kind-not-store x h.0.no_store_part },
  answered-plain core what e xs ys end n h.1 a,
)

-- entries that are no part of a locked instruction, and come of its core only where there are none
pub plain-on : (core : ℕ) (what : MemoryAccess) (holder : Holder) (xs : List Entry)
    → Each (IsPlain core what) xs
    → ((e : Entry) → holder ≡ HeldBetween e → core ≡ e.core.0 → xs ≡ [])
    → GoesOn holder holder xs
plain-on core what holder xs h none ys end b = record {
  answered = λ e q. elim (decide core e.core.0) [
    | inl c ↦ rw (none e q c) (b.answered e q)
    | inr n ↦ answered-plain core what e xs ys end n h (b.answered e q)
  ];
  paired = paired-plain core what xs ys end h b.paired;
}

-- the load part comes
pub load-on : (holder : Holder) (x : Entry) → ((e : Entry) → holder ≢ HeldBetween e) → GoesOn holder (HeldBetween x) (x ∷ [])
load-on holder x n ys end b = record { answered = λ e q. absurd (n e q); paired = (λ q. b.answered x refl, b.paired) }

-- the store part comes
pub store-on : (x y : Entry) → Parts x y → GoesOn (HeldBetween x) Free (y ∷ [])
store-on x y p ys end b = record {
  answered = λ e q. inl (let s : x ≡ e = cc in rw (← s) p.store);
  paired = (λ q. absurd (let k = p.store.kind in let z : ⊥ = cc in z), b.paired);
}

-- both parts come at once
pub pair-on : (x y : Entry) → Parts x y → GoesOn Free Free (x ∷ (y ∷ []))
pair-on x y p ys end b = record {
  answered = λ e q. absurd (let z : ⊥ = cc in z);
  paired = (λ q. inl p.store, (λ q. absurd (let k = p.store.kind in let z : ⊥ = cc in z), b.paired));
}
