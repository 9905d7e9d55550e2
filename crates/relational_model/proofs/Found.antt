-- Each TSO execution has a candidate.
use Rattle.relational_model.proofs.Vocabulary.{◌≡◌, ◌==◌, ◌&&◌, Bool, true, false, if◌then◌else◌, List, [], ◌∷◌, ◌++◌, Option, None, arith}
use Rattle.relational_model.proofs.Vocabulary.{refl, sym, ap, ◌∙◌, subst, append_assoc, filter, Litmus, same_kind, writes_to, is_at}
use Rattle.relational_model.proofs.Vocabulary.{counting, Entry, Kind, IsIn, Candidate, last_in, IsCandidateOf, append-nil}
use Rattle.relational_model.proofs.Lists.{in-first, in-later, in-left, in-right, precedes-across, from-precedes, Precedes}
use Rattle.relational_model.proofs.KindFacts.{same-number, number-same, and-both}
use Rattle.relational_model.proofs.Sources.{never-itself}
use Rattle.relational_model.proofs.Events.{reads_from, made-events, same-made}
use Rattle.relational_model.proofs.Allowed.{Whole}

-- ---- where they read from

-- the last write that counts for r, where the list is the rest of the order after `front`
abbrev pub find : List Entry → List Entry → Entry → Option Entry
find front [] r = None
find front (x ∷ xs) r = if is_at r.core.0 r.place r.kind x then last_in (counting r front xs) else find (front ++ (x ∷ [])) xs r

pub equal-kinds : (j k : Kind) → same_kind j k ≡ true → j ≡ k
equal-kinds j k h = grind arith

pub kind-itself : (k : Kind) → same_kind k k ≡ true
kind-itself k = grind arith

pub join : (a b d : Bool) → a ≡ true → b ≡ true → d ≡ true → (a && b && d) ≡ true
join a b d p q r = rw (p, q) r

abbrev pub AllThree : Bool → Bool → Bool → Type 0
AllThree a b d = (a ≡ true) × (b ≡ true) × (d ≡ true)

pub apart-three : (a b d : Bool) → (a && b && d) ≡ true → AllThree a b d
apart-three a b d h =
    let f = and-both (a && b) d h in
    let s = and-both a b f.0 in (s.0, s.1, f.1)

pub at-itself : (r : Entry) → is_at r.core.0 r.place r.kind r ≡ true
at-itself r =
    join (r.core.0 == r.core.0) (r.place == r.place) (same_kind r.kind r.kind) (number-same r.core.0 r.core.0 refl)
    (number-same r.place r.place refl) (kind-itself r.kind)

found : (front middle : List Entry) (r : Entry) (back : List Entry)
    → ((y : Entry) → IsIn middle y → is_at r.core.0 r.place r.kind y ≡ false)
    → find front (middle ++ (r ∷ back)) r ≡ last_in (counting r (front ++ middle) back)
found front [] r back none = rw (at-itself r) (ap (λ f. last_in (counting r f back)) (sym (append-nil front)))
found front (m ∷ ms) r back none =
    let first : is_at r.core.0 r.place r.kind m ≡ false = none m (in-first m ms m refl) in
    rw first (found (front ++ (m ∷ [])) ms r back (λ y i. none y (in-later m ms y i)) ∙ ap (λ f. last_in (counting r f back))
    (append_assoc front (m ∷ []) ms))

pub is-false : (b : Bool) → (b ≡ true → ⊥) → b ≡ false
is-false true f = absurd (f refl)
is-false false f = refl

-- no entry in front of r is of its core, place and kind
none-in-front : (t : Litmus) (order : List Entry) → Whole t order → (front : List Entry) (r : Entry) (back : List Entry)
    → order ≡ front ++ (r ∷ back)
    → (y : Entry) → IsIn front y → is_at r.core.0 r.place r.kind y ≡ false
none-in-front t order whole front r back is y i =
    is-false (is_at r.core.0 r.place r.kind y)
    (λ h. clash (apart-three (y.core.0 == r.core.0) (y.place == r.place) (same_kind y.kind r.kind) h))
  where
    clash : AllThree (y.core.0 == r.core.0) (y.place == r.place) (same_kind y.kind r.kind) → ⊥
    clash h =
        let in-y : IsIn order y = subst (λ xs. IsIn xs y) (sym is) (in-left front (r ∷ back) y i) in
        let in-r : IsIn order r = subst (λ xs. IsIn xs r) (sym is) (in-right front (r ∷ back) r (in-first r back r refl)) in
        let same : y ≡ r = same-made t order y r (whole.made y in-y) (whole.made r in-r) (same-number y.core.0 r.core.0 h.0)
        (same-number y.place r.place h.1) (equal-kinds y.kind r.kind h.2) in
        never-itself order r whole.once
        (from-precedes order r r
        (subst (Precedes r r) (sym is) (precedes-across front (r ∷ back) r r (subst (IsIn front) same i) (in-first r back r refl))))

-- ---- the candidate

abbrev pub candidate_of : Litmus → List Entry → Candidate
candidate_of t order = record {
  reads = reads_from 0 t.programs order;
  source = λ r. find [] order r;
  coherence = λ loc. filter (writes_to loc) order;
}

pub has-candidate : (t : Litmus) (order : List Entry) → Whole t order → (c : Candidate) × IsCandidateOf t order c
has-candidate t order whole = (
  candidate_of t order,
  record {
    events = made-events t order;
    sources = λ front r back is read. ap (λ xs. find [] xs r) is ∙ found [] front r back (none-in-front t order whole front r back is);
    coherence = λ loc. refl;
  },
)
