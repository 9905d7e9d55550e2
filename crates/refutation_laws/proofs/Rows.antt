-- The events of a test have a cycle of some edges, as a list, or are in a row in which each edge goes forward.
use Rattle.refutation_laws.proofs.Vocabulary.{◌≡◌, ◌<◌, ℕ, zero, suc, Bool, true, List, [], ◌∷◌, Some, slice_get, arith, refl, sym, ◌⊎◌}
use Rattle.refutation_laws.proofs.Vocabulary.{inl, inr, subst, list_all, Litmus, Entry, IsIn, LeadsTo, at_once, onward, IsAcyclic, is-true}
use Rattle.refutation_laws.proofs.Vocabulary.{starts-in, GoesForward, Ordered, Decided, ordered-or-round, events_of, is_event, leads_back}
use Rattle.refutation_laws.proofs.Vocabulary.{is_cycle, order-of, at-one}
use Rattle.refutation_laws.proofs.Tests.{and-of}

-- ---- places in the row

-- nothing comes before what leads to it
pub never-back-at : (Before : Entry → Entry → Type 0) (row : List Entry) (i j : ℕ) (a b : Entry) → GoesForward Before row
    → slice_get row i ≡ Some a → slice_get row j ≡ Some b → j < i → Before a b → ⊥
never-back-at Before [] i j a b f p q l h = let z : ⊥ = cc in z
never-back-at Before (x ∷ xs) zero j a b f p q l h = absurd (omega arith)
never-back-at Before (x ∷ xs) (suc i) zero a b f p q l h = let e : x ≡ b = cc in f.0 a (i, p) (subst (Before a) (sym e) h)
never-back-at Before (x ∷ xs) (suc i) (suc j) a b f p q l h = never-back-at Before xs i j a b f.1 p q (omega arith) h

-- an edge goes forward
pub edge-forward : (Before : Entry → Entry → Type 0) (xs : List Entry) (o : Ordered Before xs) (i j : ℕ) (a b : Entry)
    → slice_get o.in_a_row.row i ≡ Some a → slice_get o.in_a_row.row j ≡ Some b → Before a b → i < j
edge-forward Before xs o i j a b p q h = elim (order-of i j) [
  | inl l ↦ l
  | inr (inl e) ↦ absurd (o.never_itself a (o.in_a_row.outside a (i, p)) (subst (Before a) (sym (at-one o.in_a_row.row i j a b p q e)) h))
  | inr (inr l) ↦ absurd (never-back-at Before o.in_a_row.row i j a b o.in_a_row.forward p q l h)
]

path-forward : (Before : Entry → Entry → Type 0) (xs : List Entry) (o : Ordered Before xs) (i j : ℕ) (a b : Entry)
    → slice_get o.in_a_row.row i ≡ Some a → slice_get o.in_a_row.row j ≡ Some b → LeadsTo xs Before a b → i < j
path-forward Before xs o i j _ _ p q (at_once a b m n h) = edge-forward Before xs o i j a b p q h
path-forward Before xs o i j _ _ p q (onward a b d m h rest) =
    let at = o.in_a_row.inside b (starts-in xs Before b d rest) in
    let l : i < at.0 = edge-forward Before xs o i at.0 a b p at.1 h in
    let n : at.0 < j = path-forward Before xs o at.0 j b d at.1 q rest in
    omega arith

pub ordered-acyclic : (Before : Entry → Entry → Type 0) (xs : List Entry) → Ordered Before xs → IsAcyclic xs Before
ordered-acyclic Before xs o x way =
    let at = o.in_a_row.inside x (starts-in xs Before x x way) in
    let l : at.0 < at.0 = path-forward Before xs o at.0 at.0 x x at.1 at.1 way in
    omega arith

-- ---- cycles as lists

abbrev pub Edge : (Entry → Entry → Bool) → Entry → Entry → Type 0
Edge edge x y = edge x y ≡ true

pub edge-decided : (edge : Entry → Entry → Bool) → Decided (Edge edge)
edge-decided edge x y = is-true (edge x y)

record WayBack (t : Litmus) (edge : Entry → Entry → Bool) (first x : Entry) : Type 0 where
  onwards : List Entry
  events : list_all (is_event t) onwards ≡ true
  back : leads_back edge first x onwards ≡ true

way-back : (t : Litmus) (edge : Entry → Entry → Bool) → ((x : Entry) → IsIn (events_of t) x → is_event t x ≡ true) → (x first : Entry)
    → LeadsTo (events_of t) (Edge edge) x first → WayBack t edge first x
way-back t edge is _ _ (at_once x first i j h) = record { onwards = []; events = refl; back = h }
way-back t edge is _ _ (onward x y first i h rest) =
    let w = way-back t edge is y first rest in
    record {
      onwards = y ∷ w.onwards;
      events = and-of (is_event t y) _ (is y (starts-in (events_of t) (Edge edge) y first rest)) w.events;
      back = and-of (edge x y) _ h w.back;
    }

pub record HasCycle (t : Litmus) (edge : Entry → Entry → Bool) : Type 0 where
  pub cycle : List Entry
  pub is_cycle : is_cycle t edge cycle ≡ true

cycle-of : (t : Litmus) (edge : Entry → Entry → Bool) → ((x : Entry) → IsIn (events_of t) x → is_event t x ≡ true) → (x : Entry)
    → LeadsTo (events_of t) (Edge edge) x x → HasCycle t edge
cycle-of t edge is x way =
    let w = way-back t edge is x x way in
    record {
      cycle = x ∷ w.onwards;
      is_cycle =
          and-of (list_all (is_event t) (x ∷ w.onwards)) _
          (and-of (is_event t x) _ (is x (starts-in (events_of t) (Edge edge) x x way)) w.events) w.back;
    }

-- the events of a test have a cycle of these edges, or are in a row in which each edge goes forward
pub cycle-or-row : (t : Litmus) (edge : Entry → Entry → Bool) → ((x : Entry) → IsIn (events_of t) x → is_event t x ≡ true)
    → HasCycle t edge ⊎ Ordered (Edge edge) (events_of t)
cycle-or-row t edge is =
    elim (ordered-or-round (events_of t) (Edge edge) (edge-decided edge)) [ inl g ↦ inl (cycle-of t edge is g.event g.round) | inr o ↦ inr o ]
