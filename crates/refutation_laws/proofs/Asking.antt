-- All questions asked: each case in which every read has a source and every two writes of a location are ordered has an answer, so
-- the whole has one.
use Rattle.refutation_laws.proofs.Vocabulary.{◌≡◌, ◌&&◌, ◌||◌, Bool, true, false, List, [], ◌∷◌, ◌++◌, Option, Some, None, refl, sym, ap}
use Rattle.refutation_laws.proofs.Vocabulary.{◌⊎◌, inl, inr, subst, map, filter, Litmus, Claim, writes_to, Entry, Member, IsIn, in-case}
use Rattle.refutation_laws.proofs.Vocabulary.{in-none, in-first, in-later, in-filter, Known, events_of, same_event, nothing, with_source}
use Rattle.refutation_laws.proofs.Vocabulary.{with_pair, comes_before, Model, Node, ComesFirst, OnLocation, Globally, Between, FalseClaim}
use Rattle.refutation_laws.proofs.Vocabulary.{is_node, branches, IsPossibleSource, ArePossible, has_source, are_ordered, may_ask}
use Rattle.refutation_laws.proofs.Vocabulary.{is_answered, IsFull}
use Rattle.refutation_laws.specs.Refutations.{ReadsFrom}
use Rattle.refutation_laws.proofs.Soundness.{itself}
use Rattle.refutation_laws.proofs.Tests.{or-first, or-second}
use Rattle.refutation_laws.proofs.Composing.{HasTrees, EachHasOne, has-tree}

-- ---- the questions

abbrev pub asking_sources : List Entry → List Node
asking_sources [] = []
asking_sources (x ∷ xs) = ReadsFrom x ∷ asking_sources xs

abbrev pub asking_order : Entry → List Entry → List Node
asking_order w [] = []
asking_order w (v ∷ vs) = ComesFirst w v ∷ asking_order w vs

abbrev pub asking_orders : List Entry → List Entry → List Node
asking_orders [] vs = []
asking_orders (w ∷ ws) vs = asking_order w vs ++ asking_orders ws vs

abbrev pub all_questions : Litmus → List Node
all_questions t = asking_sources (events_of t) ++ asking_orders (events_of t) (events_of t)

member-left : (a : Node) (xs ys : List Node) → Member a xs → Member a (xs ++ ys)
member-left a [] ys h = absurd h
member-left a (x ∷ xs) ys (inl e) = inl e
member-left a (x ∷ xs) ys (inr h) = inr (member-left a xs ys h)

member-right : (a : Node) (xs ys : List Node) → Member a ys → Member a (xs ++ ys)
member-right a [] ys h = h
member-right a (x ∷ xs) ys h = inr (member-right a xs ys h)

asked-source : (xs : List Entry) (r : Entry) → IsIn xs r → Member (ReadsFrom r) (asking_sources xs)
asked-source [] r i = absurd (in-none r i)
asked-source (x ∷ xs) r i = elim (in-case x xs r i) [ inl e ↦ inl (ap (λ z. ReadsFrom z) e) | inr j ↦ inr (asked-source xs r j) ]

asked-order : (w : Entry) (vs : List Entry) (v : Entry) → IsIn vs v → Member (ComesFirst w v) (asking_order w vs)
asked-order w [] v i = absurd (in-none v i)
asked-order w (x ∷ xs) v i = elim (in-case x xs v i) [ inl e ↦ inl (ap (λ z. ComesFirst w z) e) | inr j ↦ inr (asked-order w xs v j) ]

asked-orders : (ws vs : List Entry) (w v : Entry) → IsIn ws w → IsIn vs v → Member (ComesFirst w v) (asking_orders ws vs)
asked-orders [] vs w v i j = absurd (in-none w i)
asked-orders (x ∷ xs) vs w v i j = elim (in-case x xs w i) [
  | inl e ↦
      member-left (ComesFirst w v) (asking_order x vs) (asking_orders xs vs)
      (subst (λ z. Member (ComesFirst w v) (asking_order z vs)) e (asked-order w vs v j))
  | inr l ↦ member-right (ComesFirst w v) (asking_order x vs) (asking_orders xs vs) (asked-orders xs vs w v l j)
]

-- ---- each is asked, and answered in each branch

-- k knows what j does, and what it knows is possible
pub record Grows (t : Litmus) (j k : Known) : Type 0 where
  pub possible : ArePossible t j.sources → ArePossible t k.sources
  pub sources : (r : Entry) → has_source j r ≡ true → has_source k r ≡ true
  pub order : (w v : Entry) → are_ordered j w v ≡ true → are_ordered k w v ≡ true

still-answered : (t : Litmus) (j k : Known) → Grows t j k → (q : Node) → is_answered j q ≡ true → is_answered k q ≡ true
still-answered t j k g (ReadsFrom r) h = g.sources r h
still-answered t j k g (ComesFirst w v) h = g.order w v h
still-answered t j k g (OnLocation cycle) h = refl
still-answered t j k g (Globally cycle) h = refl
still-answered t j k g (Between r v w) h = refl
still-answered t j k g FalseClaim h = refl

with-source-grows : (t : Litmus) (k : Known) (r : Entry) (o : Option Entry) → IsPossibleSource t r o → Grows t k (with_source k r o)
with-source-grows t k r o p = record {
  possible = λ ps. (p, ps);
  sources = λ x h. or-second (same_event r x) (has_source k x) h;
  order = λ w v h. h;
}

four : (a b c d : Bool) → (b || d) ≡ true → ((a || b) || (c || d)) ≡ true
four true b c d h = refl
four false true c d h = refl
four false false true d h = refl
four false false false d h = h

with-pair-grows : (t : Litmus) (k : Known) (w v : Entry) → Grows t k (with_pair k w v)
with-pair-grows t k w v = record {
  possible = λ ps. ps;
  sources = λ x h. h;
  order = λ x y h. four (same_event w x && same_event v y) (comes_before k x y) (same_event w y && same_event v x) (comes_before k y x) h;
}

both-itself : (w v : Entry) → (same_event w w && same_event v v) ≡ true
both-itself w v = subst (λ b. (b && same_event v v) ≡ true) (sym (itself w)) (itself v)

-- what holds of a branch of an answered question
pub record Branch (t : Litmus) (k : Known) (q : Node) (b : Known) : Type 0 where
  pub grows : Grows t k b
  pub answered : is_answered b q ≡ true

module _ (model : Model) (t : Litmus) (claim : Claim) (Other : Type 0) where
  abbrev pub Answer : Known → Type 0
  Answer k = HasTrees model t claim (k ∷ []) ⊎ Other

  each-source : (k : Known) (r : Entry) (ws : List Entry) → ((w : Entry) → IsIn ws w → IsPossibleSource t r (Some w))
      → ((b : Known) → Branch t k (ReadsFrom r) b → Answer b) → EachHasOne model t claim (map (with_source k r) (map (λ w. Some w) ws)) ⊎ Other
  each-source k r [] p f = inl tt
  each-source k r (w ∷ ws) p f =
      go (f (with_source k r (Some w)) (record {
        grows = with-source-grows t k r (Some w) (p w (in-first w ws w refl));
        answered = or-first (same_event r r) (has_source k r) (itself r);
      })) (each-source k r ws (λ v i. p v (in-later w ws v i)) f)
    where
      go : Answer (with_source k r (Some w)) → EachHasOne model t claim (map (with_source k r) (map (λ w. Some w) ws)) ⊎ Other
          → EachHasOne model t claim (map (with_source k r) (map (λ w. Some w) (w ∷ ws))) ⊎ Other
      go (inr o) rest = inr o
      go (inl h) (inr o) = inr o
      go (inl h) (inl more) = inl (h, more)

  each-branch : (k : Known) (q : Node) → may_ask t q ≡ true → ((b : Known) → Branch t k q b → Answer b)
      → EachHasOne model t claim (branches t k q) ⊎ Other
  each-branch k (ReadsFrom r) m f =
      go (f (with_source k r None) (record {
        grows = with-source-grows t k r None tt;
        answered = or-first (same_event r r) (has_source k r) (itself r);
      })) (each-source k r (filter (writes_to r.loc.0) (events_of t)) (λ w i. in-filter (writes_to r.loc.0) (events_of t) w i) f)
    where
      go : Answer (with_source k r None)
          → EachHasOne model t claim (map (with_source k r) (map (λ w. Some w) (filter (writes_to r.loc.0) (events_of t)))) ⊎ Other
          → EachHasOne model t claim (branches t k (ReadsFrom r)) ⊎ Other
      go (inr o) rest = inr o
      go (inl h) (inr o) = inr o
      go (inl h) (inl more) = inl (h, more)
  each-branch k (ComesFirst w v) m f =
      go (f (with_pair k w v) (record {
        grows = with-pair-grows t k w v;
        answered = or-first (comes_before (with_pair k w v) w v) _ (or-first (same_event w w && same_event v v) (comes_before k w v) (both-itself w v));
      })) (f (with_pair k v w) (record {
        grows = with-pair-grows t k v w;
        answered = or-second (comes_before (with_pair k v w) w v) _ (or-first (same_event v v && same_event w w) (comes_before k v w) (both-itself v w));
      }))
    where
      go : Answer (with_pair k w v) → Answer (with_pair k v w) → EachHasOne model t claim (branches t k (ComesFirst w v)) ⊎ Other
      go (inr o) rest = inr o
      go (inl h) (inr o) = inr o
      go (inl h) (inl g) = inl (h, (g, tt))
  each-branch k (OnLocation cycle) m f = let z : ⊥ = cc in absurd z
  each-branch k (Globally cycle) m f = let z : ⊥ = cc in absurd z
  each-branch k (Between r v w) m f = let z : ⊥ = cc in absurd z
  each-branch k FalseClaim m f = let z : ⊥ = cc in absurd z

  may-stand : (k : Known) (q : Node) → may_ask t q ≡ true → is_node model t claim k q ≡ true
  may-stand k (ReadsFrom r) m = m
  may-stand k (ComesFirst w v) m = m
  may-stand k (OnLocation cycle) m = let z : ⊥ = cc in absurd z
  may-stand k (Globally cycle) m = let z : ⊥ = cc in absurd z
  may-stand k (Between r v w) m = let z : ⊥ = cc in absurd z
  may-stand k FalseClaim m = let z : ⊥ = cc in absurd z

  asked : (k : Known) (q : Node) → may_ask t q ≡ true → ((b : Known) → Branch t k q b → Answer b) → Answer k
  asked k q m f = elim (each-branch k q m f) [ inl h ↦ inl (has-tree model t claim k q (may-stand k q m) h) | inr o ↦ inr o ]

  -- each question that is left, in turn
  ask-all : (all left : List Node) (k : Known) → ArePossible t k.sources
      → ((q : Node) → Member q all → may_ask t q ≡ true → Member q left ⊎ (is_answered k q ≡ true))
      → ((b : Known) → ArePossible t b.sources → ((q : Node) → Member q all → may_ask t q ≡ true → is_answered b q ≡ true) → Answer b)
      → Answer k
  ask-all all [] k p done full = full k p (λ q i m. elim (done q i m) [ inl h ↦ absurd h | inr h ↦ h ])
  ask-all all (n ∷ ns) k p done full = go (may_ask t n) refl (λ b q d. ask-all all ns b q d full)
    where
      onwards : (b : Known) → Grows t k b → ((may_ask t n ≡ true) → is_answered b n ≡ true) → (q : Node) → may_ask t q ≡ true
          → Member q (n ∷ ns) ⊎ (is_answered k q ≡ true) → Member q ns ⊎ (is_answered b q ≡ true)
      onwards b g f q m (inl (inl e)) =
          inr (subst (λ z. is_answered b z ≡ true) (sym e) (f (subst (λ z. may_ask t z ≡ true) e m)))
      onwards b g f q m (inl (inr h)) = inl h
      onwards b g f q m (inr h) = inr (still-answered t k b g q h)

      same : Grows t k k
      same = record { possible = λ h. h; sources = λ r h. h; order = λ w v h. h }

      go : (a : Bool) → may_ask t n ≡ a
          → ((b : Known) → ArePossible t b.sources
          → ((q : Node) → Member q all → may_ask t q ≡ true → Member q ns ⊎ (is_answered b q ≡ true)) → Answer b)
          → Answer k
      go true e later =
          asked k n e (λ b h. later b (h.grows.possible p) (λ q i m. onwards b h.grows (λ u. h.answered) q m (done q i m)))
      go false e later = later k p (λ q i m. onwards k same (λ u. let z : ⊥ = cc in absurd z) q m (done q i m))

  -- where each full case has an answer, the case in which nothing is known has one
  pub all-asked : ((k : Known) → IsFull t k → Answer k) → Answer nothing
  all-asked f =
      ask-all (all_questions t) (all_questions t) nothing tt (λ q i m. inl i)
      (λ b p h. f b (record {
        possible = p;
        sources = λ r i m. h (ReadsFrom r)
            (member-left (ReadsFrom r) (asking_sources (events_of t)) (asking_orders (events_of t) (events_of t)) (asked-source (events_of t) r i)) m;
        order = λ w v i j m. h (ComesFirst w v)
            (member-right (ComesFirst w v) (asking_sources (events_of t)) (asking_orders (events_of t) (events_of t))
            (asked-orders (events_of t) (events_of t) w v i j)) m;
      }))
