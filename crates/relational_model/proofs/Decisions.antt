-- The edges between events can be decided.
use Rattle.relational_model.proofs.Vocabulary.{◌≡◌, ◌≢◌, ℕ, ◌==◌, Bool, true, false, List, [], ◌∷◌, Option, Some, None, refl, ap, ◌∙◌, ◌⊎◌}
use Rattle.relational_model.proofs.Vocabulary.{inl, inr, subst, entry, is_before, is_read, same_kind, may_be_passed, Entry, Kind, IsIn}
use Rattle.relational_model.proofs.Vocabulary.{IsEarlier, Candidate, ReadsFrom, IsBefore, StandsAfter, FromReads}
use Rattle.relational_model.proofs.Lists.{in-case, in-none, in-first, in-later, Precedes, to-precedes, from-precedes}
use Rattle.relational_model.proofs.KindFacts.{same-number, number-same}
use Rattle.relational_model.proofs.Found.{equal-kinds, kind-itself}
use Rattle.relational_model.proofs.Sorting.{Decided}

abbrev pub Decision : Type 0 → Type 0
Decision P = P ⊎ (P → ⊥)

pub both : (P Q : Type 0) → Decision P → Decision Q → Decision (P × Q)
both P Q (inl p) (inl q) = inl (p, q)
both P Q (inl p) (inr q) = inr (λ h. q h.1)
both P Q (inr p) q = inr (λ h. p h.0)

pub either : (P Q : Type 0) → Decision P → Decision Q → Decision (P ⊎ Q)
either P Q (inl p) q = inl (inl p)
either P Q (inr p) (inl q) = inl (inr q)
either P Q (inr p) (inr q) = inr (λ h. elim h [ inl x ↦ p x | inr x ↦ q x ])

pub denied : (P : Type 0) → Decision P → Decision (P → ⊥)
denied P (inl p) = inr (λ h. h p)
denied P (inr p) = inl p

pub carried : (P Q : Type 0) → (P → Q) → (Q → P) → Decision P → Decision Q
carried P Q f g (inl p) = inl (f p)
carried P Q f g (inr p) = inr (λ q. p (g q))

pub is-true : (b : Bool) → Decision (b ≡ true)
is-true true = inl refl
is-true false = inr (λ h. let z : ⊥ = cc in z)

pub is-false-too : (b : Bool) → Decision (b ≡ false)
is-false-too false = inl refl
is-false-too true = inr (λ h. let z : ⊥ = cc in z)

pub number : (a b : ℕ) → Decision (a ≡ b)
number a b = carried ((a == b) ≡ true) (a ≡ b) (same-number a b) (number-same a b) (is-true (a == b))

pub kinds : (j k : Kind) → Decision (j ≡ k)
kinds j k =
    carried (same_kind j k ≡ true) (j ≡ k) (equal-kinds j k) (λ e. subst (λ x. same_kind j x ≡ true) e (kind-itself j))
    (is-true (same_kind j k))

abbrev pub Alike : Entry → Entry → Type 0
Alike x y = (x.core.0 ≡ y.core.0) × ((x.place ≡ y.place) × ((x.kind ≡ y.kind) × ((x.loc.0 ≡ y.loc.0) × (x.value ≡ y.value))))

alike : (x y : Entry) → Alike x y → x ≡ y
alike x y (a, (b, (d, (e, f)))) =
    ap (λ n. entry n x.place x.kind x.loc x.value) a
    ∙ (ap (λ n. entry y.core.0 n x.kind x.loc x.value) b
    ∙ (ap (λ k. entry y.core.0 y.place k x.loc x.value) d
    ∙ (ap (λ l. entry y.core.0 y.place y.kind (record { 0 = l }) x.value) e
    ∙ ap (λ v. entry y.core.0 y.place y.kind y.loc v) f)))

pub entries : (x y : Entry) → Decision (x ≡ y)
entries x y = carried (Alike x y) (x ≡ y) (alike x y)
    (λ e. subst (Alike x) e (refl, (refl, (refl, (refl, refl)))))
    (both (x.core.0 ≡ y.core.0) _ (number x.core.0 y.core.0)
    (both (x.place ≡ y.place) _ (number x.place y.place)
    (both (x.kind ≡ y.kind) _ (kinds x.kind y.kind)
    (both (x.loc.0 ≡ y.loc.0) (x.value ≡ y.value) (number x.loc.0 y.loc.0) (number x.value y.value)))))

pub member : (xs : List Entry) (y : Entry) → Decision (IsIn xs y)
member [] y = inr (λ i. in-none y i)
member (x ∷ xs) y =
    carried ((y ≡ x) ⊎ IsIn xs y) (IsIn (x ∷ xs) y) (λ h. elim h [ inl e ↦ in-first x xs y e | inr i ↦ in-later x xs y i ]) (λ i. in-case x xs y i)
    (either (y ≡ x) (IsIn xs y) (entries y x) (member xs y))

precedes : (xs : List Entry) (a b : Entry) → Decision (Precedes a b xs)
precedes [] a b = inr (λ h. h)
precedes (x ∷ xs) a b =
    either ((a ≡ x) × IsIn xs b) (Precedes a b xs) (both (a ≡ x) (IsIn xs b) (entries a x) (member xs b)) (precedes xs a b)

pub earlier : (xs : List Entry) (a b : Entry) → Decision (IsEarlier xs a b)
earlier xs a b = carried (Precedes a b xs) (IsEarlier xs a b) (from-precedes xs a b) (to-precedes xs a b) (precedes xs a b)

source : (s : Option Entry) (w : Entry) → Decision (s ≡ Some w)
source None w = inr (λ h. let z : ⊥ = cc in z)
source (Some v) w = carried (v ≡ w) (Some v ≡ Some w) (λ e. ap Some e) (λ e. let z : v ≡ w = cc in z) (entries v w)

after : (ws : List Entry) (s : Option Entry) (v : Entry) → Decision (StandsAfter ws s v)
after ws None v = member ws v
after ws (Some w) v = earlier ws w v

-- ---- the edges

-- program order that may not be passed, fences too
abbrev pub Kept : Entry → Entry → Type 0
Kept x y = (is_before x y ≡ true) × (may_be_passed x y ≡ false)

abbrev pub External : Candidate → Entry → Entry → Type 0
External c w r = ReadsFrom c w r × (w.core.0 ≢ r.core.0)

-- what must go forward in an order of the candidate
abbrev pub Goes : Candidate → Entry → Entry → Type 0
Goes c x y = Kept x y ⊎ (External c x y ⊎ (IsBefore c x y ⊎ FromReads c x y))

reads-from : (c : Candidate) (w r : Entry) → Decision (ReadsFrom c w r)
reads-from c w r =
    carried ((is_read r ≡ true) × (c.source r ≡ Some w)) (ReadsFrom c w r) (λ h. record { read = h.0; source = h.1 })
    (λ f. (f.read, f.source))
    (both (is_read r ≡ true) (c.source r ≡ Some w) (is-true (is_read r)) (source (c.source r) w))

from-reads : (c : Candidate) (r v : Entry) → Decision (FromReads c r v)
from-reads c r v =
    carried ((is_read r ≡ true) × StandsAfter (c.coherence r.loc.0) (c.source r) v) (FromReads c r v)
    (λ h. record { read = h.0; overwritten = h.1 }) (λ f. (f.read, f.overwritten))
    (both (is_read r ≡ true) (StandsAfter (c.coherence r.loc.0) (c.source r) v) (is-true (is_read r))
    (after (c.coherence r.loc.0) (c.source r) v))

pub goes : (c : Candidate) → Decided (Goes c)
goes c x y =
    either (Kept x y) _
    (both (is_before x y ≡ true) (may_be_passed x y ≡ false) (is-true (is_before x y)) (is-false-too (may_be_passed x y)))
    (either (External c x y) _
    (both (ReadsFrom c x y) (x.core.0 ≢ y.core.0) (reads-from c x y) (denied (x.core.0 ≡ y.core.0) (number x.core.0 y.core.0)))
    (either (IsBefore c x y) (FromReads c x y) (earlier (c.coherence x.loc.0) x y) (from-reads c x y)))
