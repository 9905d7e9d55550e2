-- Events can be put in a row in which no edge goes back, or some edges lead round: a finite acyclic relation extends to a total order.
use Rattle.relational_model.proofs.Vocabulary.{◌≡◌, suc, List, [], ◌∷◌, refl, ap, ◌∙◌, ◌⊎◌, inl, inr, subst, Entry, IsIn, LeadsTo, at_once}
use Rattle.relational_model.proofs.Vocabulary.{onward, IsAcyclic, NonePrecedes, GoesForward, LinearExtension, Ordered}
use Rattle.relational_model.proofs.Lists.{in-case, in-none, in-first, in-later}

-- a relation that can be decided
abbrev pub Decided : (Entry → Entry → Type 0) → Type 0
Decided Before = (x y : Entry) → Before x y ⊎ (Before x y → ⊥)

-- past x: an edge, or two that meet in x
abbrev pub Past : Entry → (Entry → Entry → Type 0) → Entry → Entry → Type 0
Past x Before a b = Before a b ⊎ (Before a x × Before x b)

past-decided : (x : Entry) (Before : Entry → Entry → Type 0) → Decided Before → Decided (Past x Before)
past-decided x Before d a b = go (d a b) (d a x) (d x b)
  where
    go : Before a b ⊎ (Before a b → ⊥) → Before a x ⊎ (Before a x → ⊥) → Before x b ⊎ (Before x b → ⊥)
        → Past x Before a b ⊎ (Past x Before a b → ⊥)
    go (inl p) q r = inl (inl p)
    go (inr p) (inl q) (inl r) = inl (inr (q, r))
    go (inr p) (inl q) (inr r) = inr (λ h. elim h [ inl k ↦ p k | inr k ↦ r k.1 ])
    go (inr p) (inr q) r = inr (λ h. elim h [ inl k ↦ p k | inr k ↦ q k.0 ])

-- a way past x is a way
unpast : (x : Entry) (xs : List Entry) (Before : Entry → Entry → Type 0) (a b : Entry) → LeadsTo xs (Past x Before) a b
    → LeadsTo (x ∷ xs) Before a b
unpast x xs Before _ _ (at_once a b i j (inl p)) = at_once a b (in-later x xs a i) (in-later x xs b j) p
unpast x xs Before _ _ (at_once a b i j (inr p)) =
    onward a x b (in-later x xs a i) p.0 (at_once x b (in-first x xs x refl) (in-later x xs b j) p.1)
unpast x xs Before _ _ (onward a b d i (inl p) rest) = onward a b d (in-later x xs a i) p (unpast x xs Before b d rest)
unpast x xs Before _ _ (onward a b d i (inr p) rest) =
    onward a x d (in-later x xs a i) p.0 (onward x b d (in-first x xs x refl) p.1 (unpast x xs Before b d rest))

-- whether one of these is before x
any-before : (Before : Entry → Entry → Type 0) → Decided Before → (x : Entry) (ys : List Entry)
    → ((z : Entry) × (IsIn ys z × Before z x)) ⊎ NonePrecedes Before x ys
any-before Before d x [] = inr (λ z i b. in-none z i)
any-before Before d x (y ∷ ys) = go (d y x) (any-before Before d x ys)
  where
    go : Before y x ⊎ (Before y x → ⊥) → ((z : Entry) × (IsIn ys z × Before z x)) ⊎ NonePrecedes Before x ys
        → ((z : Entry) × (IsIn (y ∷ ys) z × Before z x)) ⊎ NonePrecedes Before x (y ∷ ys)
    go (inl p) rest = inl (y, (in-first y ys y refl, p))
    go (inr p) (inl (z, h)) = inl (z, (in-later y ys z h.0, h.1))
    go (inr p) (inr none) = inr (λ z i b. elim (in-case y ys z i) [ inl e ↦ p (subst (λ w. Before w x) e b) | inr i ↦ none z i b ])

-- x put in after the last of these that is before it
weaker : (x : Entry) (Before : Entry → Entry → Type 0) (ys : List Entry) → GoesForward (Past x Before) ys → GoesForward Before ys
weaker x Before [] h = tt
weaker x Before (y ∷ ys) h = ((λ z i b. h.0 z i (inl b)), weaker x Before ys h.1)

placed : (Before : Entry → Entry → Type 0) → Decided Before → (x : Entry) → (Before x x → ⊥) → (ys : List Entry)
    → ((y : Entry) → IsIn ys y → Before x y → Before y x → ⊥)
    → GoesForward (Past x Before) ys → LinearExtension Before (x ∷ ys)
placed Before d x once [] twice h = record {
  row = x ∷ [];
  forward = ((λ z i b. in-none z i), tt);
  inside = λ y i. i;
  outside = λ y i. i;
  count = refl;
}
placed Before d x once (y ∷ ys) twice h =
    go (any-before Before d x (y ∷ ys)) (placed Before d x once ys (λ z i. twice z (in-later y ys z i)) h.1)
  where
    go : ((z : Entry) × (IsIn (y ∷ ys) z × Before z x)) ⊎ NonePrecedes Before x (y ∷ ys)
        → LinearExtension Before (x ∷ ys)
        → LinearExtension Before (x ∷ (y ∷ ys))
    go (inr none) rest = record {
      row = x ∷ (y ∷ ys);
      forward = (none, weaker x Before (y ∷ ys) h);
      inside = λ z i. i;
      outside = λ z i. i;
      count = refl;
    }
    go (inl (z, (i, b))) rest = record {
      row = y ∷ rest.row;
      forward = ((λ v j k. after v (in-case x ys v (rest.outside v j)) k), rest.forward);
      inside = λ v j. into v (in-case x (y ∷ ys) v j);
      outside = λ v j. out v (in-case y rest.row v j);
      count = ap suc rest.count;
    }
      where
        clash : (z ≡ y) ⊎ IsIn ys z → Before x y → ⊥
        clash (inl e) k = twice y (in-first y ys y refl) k (subst (λ w. Before w x) e b)
        clash (inr j) k = h.0 z j (inr (b, k))

        after : (v : Entry) → (v ≡ x) ⊎ IsIn ys v → Before v y → ⊥
        after v (inl e) k = clash (in-case y ys z i) (subst (λ w. Before w y) e k)
        after v (inr j) k = h.0 v j (inl k)

        into : (v : Entry) → (v ≡ x) ⊎ IsIn (y ∷ ys) v → IsIn (y ∷ rest.row) v
        into v (inl e) = in-later y rest.row v (rest.inside v (in-first x ys v e))
        into v (inr j) =
            elim (in-case y ys v j) [ inl e ↦ in-first y rest.row v e | inr j ↦ in-later y rest.row v (rest.inside v (in-later x ys v j)) ]

        out : (v : Entry) → (v ≡ y) ⊎ IsIn rest.row v → IsIn (x ∷ (y ∷ ys)) v
        out v (inl e) = in-later x (y ∷ ys) v (in-first y ys v e)
        out v (inr j) =
            elim (in-case x ys v (rest.outside v j)) [ inl e ↦ in-first x (y ∷ ys) v e | inr j ↦ in-later x (y ∷ ys) v (in-later y ys v j) ]

-- ---- a row, or a way round

pub record GoesRound (Before : Entry → Entry → Type 0) (xs : List Entry) : Type 0 where
  pub event : Entry
  pub round : LeadsTo xs Before event event

-- the lemma
pub ordered-or-round : (xs : List Entry) (Before : Entry → Entry → Type 0) → Decided Before → GoesRound Before xs ⊎ Ordered Before xs
ordered-or-round [] Before d =
    inr (record { in_a_row = record { row = []; forward = tt; inside = λ y i. i; outside = λ y i. i; count = refl }; never_itself = λ x i b. in-none x i })
ordered-or-round (x ∷ xs) Before d = go (ordered-or-round xs (Past x Before) (past-decided x Before d)) (d x x)
  where
    here : IsIn (x ∷ xs) x
    here = in-first x xs x refl

    over : (ys zs : List Entry) → ((y : Entry) → IsIn ys y → IsIn zs y) → (y : Entry) → IsIn (x ∷ ys) y → IsIn (x ∷ zs) y
    over ys zs f y i = elim (in-case x ys y i) [ inl e ↦ in-first x zs y e | inr j ↦ in-later x zs y (f y j) ]

    more : (r : LinearExtension (Past x Before) xs) → LinearExtension Before (x ∷ r.row) → LinearExtension Before (x ∷ xs)
    more r q = record {
      row = q.row;
      forward = q.forward;
      inside = λ y i. q.inside y (over xs r.row r.inside y i);
      outside = λ y i. over r.row xs r.outside y (q.outside y i);
      count = q.count ∙ ap suc r.count;
    }

    go : GoesRound (Past x Before) xs ⊎ Ordered (Past x Before) xs → Before x x ⊎ (Before x x → ⊥)
        → GoesRound Before (x ∷ xs) ⊎ Ordered Before (x ∷ xs)
    go (inl g) b = inl (record { event = g.event; round = unpast x xs Before g.event g.event g.round })
    go (inr o) (inl b) = inl (record { event = x; round = at_once x x here here b })
    go (inr o) (inr never) = inr (record {
      in_a_row =
          more o.in_a_row
          (placed Before d x never o.in_a_row.row (λ y i b k. o.never_itself y (o.in_a_row.outside y i) (inr (k, b))) o.in_a_row.forward);
      never_itself = λ y i b. elim (in-case x xs y i) [ inl e ↦ never (subst (λ z. Before z z) e b) | inr i ↦ o.never_itself y i (inl b) ];
    })

pub in-a-row : (xs : List Entry) (Before : Entry → Entry → Type 0) → Decided Before → IsAcyclic xs Before → LinearExtension Before xs
in-a-row xs Before d a = elim (ordered-or-round xs Before d) [ inl g ↦ absurd (a g.event g.round) | inr o ↦ o.in_a_row ]
