-- Back from event to event: where one comes again, the way between is a cycle.
use Rattle.found_reasons.proofs.Vocabulary.{◌≡◌, ◌<◌, ◌-◌, ◌+◌, take, ℕ, suc, Bool, true, false, if◌then◌else◌, List, [], ◌∷◌, length}
use Rattle.found_reasons.proofs.Vocabulary.{Option, Some, None, option_map, slice_index_or, map, arith, refl, sym, ap, ◌∙◌, ◌⊎◌, inl, inr}
use Rattle.found_reasons.proofs.Vocabulary.{subst, list_all, Litmus, Entry, IsIn, in-case, in-none, in-first, in-later, no-more, Ordered}
use Rattle.found_reasons.proofs.Vocabulary.{Once, bare, same_event, is_event, events_of, leads_back, is_cycle, and-of, same-bare, itself}
use Rattle.found_reasons.proofs.Vocabulary.{is-event, up_to, IsSorted}

-- ---- events of a test have the value 0, so that one event is one entry

map-bare : (xs : List Entry) (x : Entry) → IsIn (map bare xs) x → bare x ≡ x
map-bare [] x i = absurd (in-none x i)
map-bare (y ∷ ys) x i = elim (in-case (bare y) (map bare ys) x i) [ inl e ↦ ap bare e ∙ sym e | inr j ↦ map-bare ys x j ]

pub same-is : (t : Litmus) (x y : Entry) → IsIn (events_of t) x → IsIn (events_of t) y → same_event x y ≡ true → x ≡ y
same-is t x y i j h = sym (map-bare _ x i) ∙ (same-bare x y h ∙ map-bare _ y j)

module _ (edge : Entry → Entry → Bool) where
  -- the first of a path is led to by x
  abbrev pub Leads : Entry → List Entry → Type 0
  Leads x [] = Unit {0}
  Leads x (p ∷ ps) = edge x p ≡ true

  abbrev pub Path : List Entry → Type 0
  Path [] = Unit {0}
  Path (p ∷ ps) = Leads p ps × Path ps

  -- a path among these events, none of which it has twice, and an event that leads to its first one
  pub record IsWalk (some path : List Entry) (at : Entry) : Type 0 where
    pub inside : (x : Entry) → IsIn path x → IsIn some x
    pub here : IsIn some at
    pub steps : Path path
    pub leads : Leads at path
    pub once : Once path

  pub at-start : (some : List Entry) (at : Entry) → IsIn some at → IsWalk some [] at
  at-start some at i = record { inside = λ x j. absurd (in-none x j); here = i; steps = tt; leads = tt; once = tt }

  not-there : (at : Entry) (path : List Entry) → up_to at path ≡ None → IsIn path at → ⊥
  not-there at [] e i = in-none at i
  not-there at (p ∷ ps) e i = go (same_event p at) refl e (in-case p ps at i) (λ f j. not-there at ps f j)
    where
      none : (o : Option (List Entry)) → option_map (λ f. p ∷ f) o ≡ None → o ≡ None
      none None q = refl
      none (Some f) q = let z : ⊥ = cc in absurd z

      go : (b : Bool) → same_event p at ≡ b → (if b then Some (p ∷ []) else option_map (λ f. p ∷ f) (up_to at ps)) ≡ None
          → (at ≡ p) ⊎ IsIn ps at → (up_to at ps ≡ None → IsIn ps at → ⊥) → ⊥
      go true q f j later = let z : ⊥ = cc in z
      go false q f (inl j) later = let r : same_event p at ≡ true = subst (λ z. same_event z at ≡ true) j (itself at) in let z : ⊥ = cc in z
      go false q f (inr j) later = later (none (up_to at ps) f) j

  pub walk-on : (some path : List Entry) (at next : Entry) → IsWalk some path at → up_to at path ≡ None → IsIn some next → edge next at ≡ true
      → IsWalk some (at ∷ path) next
  walk-on some path at next w e i h = record {
    inside = λ x j. on x (in-case at path x j);
    here = i;
    steps = (w.leads, w.steps);
    leads = h;
    once = ((λ j. not-there at path e j), w.once);
  }
    where
      on : (x : Entry) → (x ≡ at) ⊎ IsIn path x → IsIn some x
      on x (inl q) = subst (IsIn some) (sym q) w.here
      on x (inr j) = w.inside x j

  -- so a path is no longer than its events are many
  pub shorter : (some path : List Entry) (at : Entry) → IsWalk some path at → up_to at path ≡ None → length path < length some
  shorter some path at w e = no-more (at ∷ path) some ((λ j. not-there at path e j), w.once) (λ x j. on x (in-case at path x j))
    where
      on : (x : Entry) → (x ≡ at) ⊎ IsIn path x → IsIn some x
      on x (inl q) = subst (IsIn some) (sym q) w.here
      on x (inr j) = w.inside x j

  -- ---- the cycle

  record Back (first x : Entry) (path part : List Entry) : Type 0 where
    rest : List Entry
    is : part ≡ x ∷ rest
    back : leads_back edge first x rest ≡ true
    inside : (y : Entry) → IsIn rest y → IsIn path y

  -- from x the path leads to an event like `at`, and from there to the first
  comes-back : (first at x : Entry) (path part : List Entry) → edge at first ≡ true → Path (x ∷ path)
      → ((y : Entry) → IsIn (x ∷ path) y → same_event y at ≡ true → y ≡ at) → up_to at (x ∷ path) ≡ Some part → Back first x path part
  comes-back first at x [] part h p one e = go (same_event x at) refl e
    where
      go : (b : Bool) → same_event x at ≡ b → (if b then Some (x ∷ []) else None) ≡ Some part → Back first x [] part
      go true q f = record {
        rest = [];
        is = let z : (x ∷ []) ≡ part = cc in sym z;
        back = subst (λ z. edge z first ≡ true) (sym (one x (in-first x [] x refl) q)) h;
        inside = λ y i. i;
      }
      go false q f = let z : ⊥ = cc in absurd z
  comes-back first at x (y ∷ ys) part h p one e =
      go (same_event x at) refl (up_to at (y ∷ ys)) refl e
      (λ tail f. comes-back first at y ys tail h p.1 (λ z i. one z (in-later x (y ∷ ys) z i)) f)
    where
      go : (b : Bool) → same_event x at ≡ b → (o : Option (List Entry)) → up_to at (y ∷ ys) ≡ o
          → (if b then Some (x ∷ []) else option_map (λ f. x ∷ f) o) ≡ Some part
          → ((tail : List Entry) → up_to at (y ∷ ys) ≡ Some tail → Back first y ys tail) → Back first x (y ∷ ys) part
      go true q o r f later = record {
        rest = [];
        is = let z : (x ∷ []) ≡ part = cc in sym z;
        back = subst (λ z. edge z first ≡ true) (sym (one x (in-first x (y ∷ ys) x refl) q)) h;
        inside = λ z i. absurd (in-none z i);
      }
      go false q None r f later = let z : ⊥ = cc in absurd z
      go false q (Some tail) r f later =
          let b = later tail r in
          let same : (x ∷ tail) ≡ part = cc in
          record {
            rest = y ∷ b.rest;
            is = sym same ∙ ap (λ zs. x ∷ zs) b.is;
            back = and-of (edge x y) _ p.0 b.back;
            inside = λ z i. elim (in-case y b.rest z i) [ inl s ↦ in-first y ys z s | inr j ↦ in-later y ys z (b.inside z j) ];
          }

all-events : (t : Litmus) (xs : List Entry) → ((x : Entry) → IsIn xs x → IsIn (events_of t) x) → list_all (is_event t) xs ≡ true
all-events t [] f = refl
all-events t (x ∷ xs) f = and-of (is_event t x) _ (is-event t x (f x (in-first x xs x refl))) (all-events t xs (λ y i. f y (in-later x xs y i)))

-- the front of the path up to the event that comes again is a cycle
pub around : (t : Litmus) (edge : Entry → Entry → Bool) (some path : List Entry) (at : Entry)
    → ((x : Entry) → IsIn some x → IsIn (events_of t) x) → IsWalk edge some path at → (part : List Entry) → up_to at path ≡ Some part
    → is_cycle t edge part ≡ true
around t edge some [] at inside w part e = let z : ⊥ = cc in absurd z
around t edge some (x ∷ path) at inside w part e =
    subst (λ zs. is_cycle t edge zs ≡ true) (sym b.is)
    (and-of (list_all (is_event t) (x ∷ b.rest)) _ (all-events t (x ∷ b.rest) (λ y i. within y (in-case x b.rest y i))) b.back)
  where
    b : Back edge x x path part
    b = comes-back edge x at x path part w.leads w.steps
        (λ y i h. same-is t y at (inside y (w.inside y i)) (inside at w.here) h) e

    within : (y : Entry) → (y ≡ x) ⊎ IsIn b.rest y → IsIn (events_of t) y
    within y (inl q) = inside y (w.inside y (in-first x path y q))
    within y (inr i) = inside y (w.inside y (in-later x path y (b.inside y i)))

-- ---- no rest: a row

pub all-in-row : (edge : Entry → Entry → Bool) (some row rest : List Entry) → IsSorted edge some row rest → length rest ≡ 0
    → Ordered (λ x y. edge x y ≡ true) some
all-in-row edge some row rest s none = record {
  in_a_row = record {
    row = row;
    forward = s.parted.forward;
    inside = λ x i. on x (s.parted.whole x i);
    outside = s.parted.in_row;
    count = let c = s.parted.count in omega (arith, c, none);
  };
  never_itself = λ x i b. s.parted.never_itself x (on x (s.parted.whole x i)) b;
}
  where
    empty : (xs : List Entry) (x : Entry) → length xs ≡ 0 → IsIn xs x → ⊥
    empty [] x e i = in-none x i
    empty (y ∷ ys) x e i = omega (arith, e)

    on : (x : Entry) → IsIn row x ⊎ IsIn rest x → IsIn row x
    on x (inl i) = i
    on x (inr i) = absurd (empty rest x none i)

pub at-first : (xs : List Entry) (x : Entry) → 0 < length xs → x ≡ slice_index_or xs 0 x → IsIn xs x
at-first [] x l e = absurd (omega (arith, l))
at-first (y ∷ ys) x l e = (0, ap (λ z. Some z) (sym e))

pub smaller : (n m : ℕ) → m < n → n - suc m < n - m
smaller n m l = omega (arith, l)

-- what the place of x in a path tells of its front
pub told : (x : Entry) (path now : List Entry) (o p : Option ℕ) → now ≡ path → option_map (λ i. take (i + 1) now) o ≡ up_to x now → o ≡ p
    → up_to x path ≡ option_map (λ i. take (i + 1) path) p
told x path now o p e h q =
    ap (up_to x) (sym e) ∙ (sym h ∙ (ap (λ (xs : List Entry). option_map (λ i. take (i + 1) xs) o) e ∙ ap (option_map (λ i. take (i + 1) path)) q))
