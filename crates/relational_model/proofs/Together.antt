-- A row of the events in which each load part of a locked instruction comes directly before its store part.
use Rattle.relational_model.proofs.Vocabulary.{◌≡◌, Bool, true, false, List, [], ◌∷◌, ◌++◌, arith, refl, ap, ◌⊎◌, inl, inr, subst, filter}
use Rattle.relational_model.proofs.Vocabulary.{Entry, LR, LW, IsIn, LeadsTo, at_once, onward, Candidate, ArePair, is_locked, is_locked_kind}
use Rattle.relational_model.proofs.Vocabulary.{part_of}
use Rattle.std.specs.Prelude.{not}
use Rattle.relational_model.proofs.Lists.{in-case, in-none, in-first, in-later, in-append, in-left, in-right, in-filter, filter-in}
use Rattle.relational_model.proofs.Ranks.{rank-before}
use Rattle.relational_model.proofs.KindFacts.{kept-with-locked}
use Rattle.relational_model.proofs.Decisions.{Decision, both, either, carried, number, kinds, Goes}
use Rattle.relational_model.proofs.Sorting.{Decided}
use Rattle.relational_model.proofs.Fences.{true-or}

exists : (P : Entry → Type 0) → ((x : Entry) → Decision (P x)) → (xs : List Entry) → Decision ((x : Entry) × (IsIn xs x × P x))
exists P d [] = inr (λ h. in-none h.0 h.1.0)
exists P d (x ∷ xs) = go (d x) (exists P d xs)
  where
    go : Decision (P x) → Decision ((y : Entry) × (IsIn xs y × P y)) → Decision ((y : Entry) × (IsIn (x ∷ xs) y × P y))
    go (inl p) q = inl (x, (in-first x xs x refl, p))
    go (inr p) (inl (y, h)) = inl (y, (in-later x xs y h.0, h.1))
    go (inr p) (inr q) = inr (λ h. elim (in-case x xs h.0 h.1.0) [ inl e ↦ p (subst P e h.1.1) | inr i ↦ q (h.0, (i, h.1.1)) ])

pub pair : (r w : Entry) → Decision (ArePair r w)
pair r w = carried ((r.kind ≡ LR) × ((w.kind ≡ LW) × ((r.core.0 ≡ w.core.0) × (r.place ≡ w.place)))) (ArePair r w)
    (λ h. record { read = h.0; write = h.1.0; core = h.1.1.0; place = h.1.1.1 }) (λ p. (p.read, (p.write, (p.core, p.place))))
    (both (r.kind ≡ LR) _ (kinds r.kind LR)
    (both (w.kind ≡ LW) _ (kinds w.kind LW)
    (both (r.core.0 ≡ w.core.0) (r.place ≡ w.place) (number r.core.0 w.core.0) (number r.place w.place))))

-- an edge to an event, or to the load part that comes directly before it
abbrev pub Toward : List Entry → (Entry → Entry → Type 0) → Entry → Entry → Type 0
Toward es Before x y = Before x y ⊎ ((r : Entry) × (IsIn es r × (ArePair r y × Before x r)))

pub toward : (es : List Entry) (Before : Entry → Entry → Type 0) → Decided Before → Decided (Toward es Before)
toward es Before d x y =
    either (Before x y) _ (d x y)
    (exists (λ r. ArePair r y × Before x r) (λ r. both (ArePair r y) (Before x r) (pair r y) (d x r)) es)

pub pair-goes : (c : Candidate) (r w : Entry) → ArePair r w → Goes c r w
pair-goes c r w p =
    inl (
      rank-before r w p.core
          (let a : part_of r.kind ≡ 0 = ap part_of p.read in let b : part_of w.kind ≡ 1 = ap part_of p.write in
          let e : r.place ≡ w.place = p.place in omega arith),
      kept-with-locked r w (true-or (is_locked r) (is_locked w) (inl (ap is_locked_kind p.read))),
    )

pub way : (es ns : List Entry) (Before : Entry → Entry → Type 0) → ((r w : Entry) → ArePair r w → Before r w)
    → ((x : Entry) → IsIn ns x → IsIn es x) → (x z : Entry) → LeadsTo ns (Toward es Before) x z → LeadsTo es Before x z
way es ns Before p f _ _ (at_once x z i j (inl g)) = at_once x z (f x i) (f z j) g
way es ns Before p f _ _ (at_once x z i j (inr (r, (k, (q, g))))) = onward x r z (f x i) g (at_once r z k (f z j) (p r z q))
way es ns Before p f _ _ (onward x y z i (inl g) rest) = onward x y z (f x i) g (way es ns Before p f y z rest)
way es ns Before p f _ _ (onward x y z i (inr (r, (k, (q, g)))) rest) =
    onward x r z (f x i) g (onward r y z k (p r y q) (way es ns Before p f y z rest))

abbrev pub answer : {P : Type 0} → Decision P → Bool
answer (inl p) = true
answer (inr p) = false

said : (P : Type 0) (d : Decision P) → answer d ≡ true → P
said P (inl p) h = p
said P (inr p) h = let z : ⊥ = cc in absurd z

says : (P : Type 0) (d : Decision P) → P → answer d ≡ true
says P (inl p) h = refl
says P (inr p) h = absurd (p h)

denies : (P : Type 0) (d : Decision P) → (P → ⊥) → not (answer d) ≡ true
denies P (inl p) h = absurd (h p)
denies P (inr p) h = refl

denied-is : (P : Type 0) (d : Decision P) → not (answer d) ≡ true → P → ⊥
denied-is P (inl p) h q = let z : ⊥ = cc in z
denied-is P (inr p) h q = p q

-- the events that are no load part of a locked instruction
abbrev pub others : List Entry → List Entry
others es = filter (λ e. not (answer (kinds e.kind LR))) es

pub is-other : (es : List Entry) (x : Entry) → IsIn (others es) x → IsIn es x × (x.kind ≡ LR → ⊥)
is-other es x i = let h = in-filter (λ e. not (answer (kinds e.kind LR))) es x i in (h.0, denied-is (x.kind ≡ LR) (kinds x.kind LR) h.1)

pub other-is : (es : List Entry) (x : Entry) → IsIn es x → (x.kind ≡ LR → ⊥) → IsIn (others es) x
other-is es x i n = filter-in (λ e. not (answer (kinds e.kind LR))) es x i (denies (x.kind ≡ LR) (kinds x.kind LR) n)

-- the load part of w, if it is a store part
abbrev pub load-of : List Entry → Entry → List Entry
load-of es w = filter (λ r. answer (pair r w)) es

abbrev pub put : List Entry → List Entry → List Entry
put es [] = []
put es (x ∷ xs) = load-of es x ++ (x ∷ put es xs)

pub in-load : (es : List Entry) (w r : Entry) → IsIn (load-of es w) r → IsIn es r × ArePair r w
in-load es w r i = let h = in-filter (λ e. answer (pair e w)) es r i in (h.0, said (ArePair r w) (pair r w) h.1)

load-in : (es : List Entry) (w r : Entry) → IsIn es r → ArePair r w → IsIn (load-of es w) r
load-in es w r i p = filter-in (λ e. answer (pair e w)) es r i (says (ArePair r w) (pair r w) p)

-- what is put there is one of these, or the load part of one
abbrev pub From : List Entry → List Entry → Entry → Type 0
From es xs y = IsIn xs y ⊎ ((w : Entry) × (IsIn xs w × (IsIn es y × ArePair y w)))

pub in-put : (es xs : List Entry) (y : Entry) → IsIn (put es xs) y → From es xs y
in-put es [] y i = absurd (in-none y i)
in-put es (x ∷ xs) y i = go (in-append (load-of es x) (x ∷ put es xs) y i) (λ j. in-put es xs y j)
  where
    later : From es xs y → From es (x ∷ xs) y
    later (inl j) = inl (in-later x xs y j)
    later (inr (w, h)) = inr (w, (in-later x xs w h.0, h.1))

    go : IsIn (load-of es x) y ⊎ IsIn (x ∷ put es xs) y → (IsIn (put es xs) y → From es xs y) → From es (x ∷ xs) y
    go (inl j) rest = let h = in-load es x y j in inr (x, (in-first x xs x refl, (h.0, h.1)))
    go (inr j) rest = elim (in-case x (put es xs) y j) [ inl e ↦ inl (in-first x xs y e) | inr j ↦ later (rest j) ]

pub put-own : (es xs : List Entry) (y : Entry) → IsIn xs y → IsIn (put es xs) y
put-own es [] y i = absurd (in-none y i)
put-own es (x ∷ xs) y i = in-right (load-of es x) (x ∷ put es xs) y (go (in-case x xs y i) (λ j. put-own es xs y j))
  where
    go : (y ≡ x) ⊎ IsIn xs y → (IsIn xs y → IsIn (put es xs) y) → IsIn (x ∷ put es xs) y
    go (inl e) rest = in-first x (put es xs) y e
    go (inr j) rest = in-later x (put es xs) y (rest j)

pub put-load : (es xs : List Entry) (w r : Entry) → IsIn xs w → IsIn es r → ArePair r w → IsIn (put es xs) r
put-load es [] w r i j p = absurd (in-none w i)
put-load es (x ∷ xs) w r i j p = elim (in-case x xs w i) [
  | inl e ↦ in-left (load-of es x) (x ∷ put es xs) r (load-in es x r j (subst (ArePair r) e p))
  | inr k ↦ in-right (load-of es x) (x ∷ put es xs) r (in-later x (put es xs) r (put-load es xs w r k j p))
]
