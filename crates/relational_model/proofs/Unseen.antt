-- The candidate that uniproc alone forbids: a load reads the initial word after its own core's store to the location.
use Rattle.relational_model.proofs.Vocabulary.{◌≡◌, List, [], ◌∷◌, refl, ap, ◌∙◌, sym, ◌⊎◌, inl, inr, subst, entry, loc_x, Entry, R, W, F}
use Rattle.relational_model.proofs.Vocabulary.{LR, IsIn, IsEarlier, LeadsTo, at_once, onward, IsCandidate, IsForbidden}
use Rattle.relational_model.proofs.Vocabulary.{IsForbiddenByUniproc, IsBeforeOnLocation, po_loc, HappensBefore, write_before_write}
use Rattle.relational_model.proofs.Vocabulary.{read_before_access, mfence, implied, rfe, co, fr, unseen, unseen_candidate}
use Rattle.relational_model.proofs.Forward.{starts-in}
use Rattle.relational_model.proofs.Lists.{in-case, in-none, to-precedes}
use Rattle.relational_model.proofs.Worked.{not-first}
use Rattle.relational_model.proofs.Forbidden.{fit-none, fit-read, fit-write, to-x, told, no-read}

-- the store, and the load after it
abbrev stored : Entry
stored = entry 0 0 W loc_x 1

abbrev loaded : Entry
loaded = entry 0 1 R loc_x 0

abbrev both : List Entry
both = stored ∷ (loaded ∷ [])

-- each event is one of the two
which : (x : Entry) → IsIn both x → (x ≡ stored) ⊎ (x ≡ loaded)
which x i = elim (in-case stored (loaded ∷ []) x i) [
  | inl e ↦ inl e
  | inr j ↦ elim (in-case loaded [] x j) [ inl e ↦ inr e | inr j ↦ absurd (in-none x j) ]
]

apart : loaded ≡ stored → ⊥
apart e = let k : R ≡ W = ap (λ (z : Entry). z.kind) e in let z : ⊥ = cc in z

no-fence : (f : Entry) → IsIn both f → f.kind ≡ F → ⊥
no-fence f i k = elim (which f i) [
  | inl e ↦ let h : f.kind ≡ W = ap (λ (z : Entry). z.kind) e in let z : ⊥ = cc in z
  | inr e ↦ let h : f.kind ≡ R = ap (λ (z : Entry). z.kind) e in let z : ⊥ = cc in z
]

no-load-part : (f : Entry) → IsIn both f → f.kind ≡ LR → ⊥
no-load-part f i k = elim (which f i) [
  | inl e ↦ let h : f.kind ≡ W = ap (λ (z : Entry). z.kind) e in let z : ⊥ = cc in z
  | inr e ↦ let h : f.kind ≡ R = ap (λ (z : Entry). z.kind) e in let z : ⊥ = cc in z
]

-- one write comes before no other
alone : (w v : Entry) → IsEarlier (stored ∷ []) w v → ⊥
alone w v e = elim (to-precedes (stored ∷ []) w v e) [ inl p ↦ in-none v p.1 | inr h ↦ h ]

-- ---- the edges: from the load to the store, and no other

from-store-to-store : HappensBefore both unseen_candidate stored stored → ⊥
from-store-to-store (write_before_write _ _ b p q) = no-read b
from-store-to-store (read_before_access _ _ b p q) = no-read b
from-store-to-store (mfence _ f _ i k b d) = no-fence f i k
from-store-to-store (implied _ _ b p q l) = no-read b
from-store-to-store (rfe _ _ r n) = no-read r.read
from-store-to-store (co _ _ e) = alone stored stored e
from-store-to-store (fr _ _ r) = no-read r.read

from-store-to-load : HappensBefore both unseen_candidate stored loaded → ⊥
from-store-to-load (write_before_write _ _ b p q) = no-read q
from-store-to-load (read_before_access _ _ b p q) = no-read p
from-store-to-load (mfence _ f _ i k b d) = no-fence f i k
from-store-to-load (implied _ _ b p q l) = no-read l
from-store-to-load (rfe _ _ r n) = n refl
from-store-to-load (co _ _ e) = alone stored loaded e
from-store-to-load (fr _ _ r) = no-read r.read

from-load-to-load : HappensBefore both unseen_candidate loaded loaded → ⊥
from-load-to-load (write_before_write _ _ b p q) = no-read b
from-load-to-load (read_before_access _ _ b p q) = no-read b
from-load-to-load (mfence _ f _ i k b d) = no-fence f i k
from-load-to-load (implied _ _ b p q l) = no-read b
from-load-to-load (rfe _ _ r n) = n refl
from-load-to-load (co _ _ e) = alone loaded loaded e
from-load-to-load (fr _ _ r) = elim (in-case stored [] loaded r.overwritten) [ inl e ↦ apart e | inr i ↦ in-none loaded i ]

edge : (x y : Entry) → IsIn both x → IsIn both y → HappensBefore both unseen_candidate x y → (x ≡ loaded) × (y ≡ stored)
edge x y i j h = go (which x i) (which y j)
  where
    go : (x ≡ stored) ⊎ (x ≡ loaded) → (y ≡ stored) ⊎ (y ≡ loaded) → (x ≡ loaded) × (y ≡ stored)
    go (inl a) (inl b) =
        absurd (from-store-to-store (subst (λ z. HappensBefore both unseen_candidate stored z) b (subst (λ z. HappensBefore both unseen_candidate z y) a h)))
    go (inl a) (inr b) =
        absurd (from-store-to-load (subst (λ z. HappensBefore both unseen_candidate stored z) b (subst (λ z. HappensBefore both unseen_candidate z y) a h)))
    go (inr a) (inl b) = (a, b)
    go (inr a) (inr b) =
        absurd (from-load-to-load (subst (λ z. HappensBefore both unseen_candidate loaded z) b (subst (λ z. HappensBefore both unseen_candidate z y) a h)))

path : (x z : Entry) → LeadsTo both (HappensBefore both unseen_candidate) x z → (x ≡ loaded) × (z ≡ stored)
path _ _ (at_once x y i j h) = edge x y i j h
path _ _ (onward x y z i h rest) =
    let e = edge x y i (starts-in both (HappensBefore both unseen_candidate) y z rest) h in
    let r = path y z rest in
    absurd (apart (sym r.0 ∙ e.1))

-- ---- the candidate

candidate : IsCandidate unseen unseen_candidate
candidate =
    told unseen unseen_candidate (stored ∷ []) [] refl
    (fit-write _ _ refl (λ loc h. to-x (stored ∷ []) [] stored (0, refl) loc h) (fit-read _ _ refl refl fit-none)) refl refl
    (λ n. (not-first n, (refl, tt)))

never : ((x : Entry) → LeadsTo both (IsBeforeOnLocation unseen_candidate) x x → ⊥) → ⊥
never acyclic =
    acyclic stored
    (onward stored loaded stored (0, refl) (po_loc stored loaded refl refl)
    (at_once loaded stored (1, refl) (0, refl) (fr loaded stored (record { read = refl; overwritten = (0, refl) }))))

pub unseen-is-forbidden : IsForbidden unseen unseen_candidate
unseen-is-forbidden = record { candidate = candidate; never = λ a. never a.uniproc }

pub unseen-by-uniproc : IsForbiddenByUniproc unseen unseen_candidate
unseen-by-uniproc = record {
  candidate = candidate;
  atomic = λ r v w i j k pair f n b m. no-load-part r i pair.read;
  global = λ x l. let p = path x x l in apart (sym p.0 ∙ p.1);
  never = never;
}
