-- Events that are put in a row step by step: those of the rest that none of the rest must precede come next.
use Rattle.found_reasons.proofs.Vocabulary.{◌≡◌, ◌<◌, ◌==◌, ℕ, Bool, true, false, not, List, [], ◌∷◌, ◌++◌, length, arith, refl, sym, ap}
use Rattle.found_reasons.proofs.Vocabulary.{◌∙◌, ◌⊎◌, inl, inr, subst, filter, list_any, Entry, IsIn, in-none, in-append, in-left, in-right}
use Rattle.found_reasons.proofs.Vocabulary.{in-filter, filter-in, same-number, number-same, once-filter, once-append, Once, any-in}
use Rattle.found_reasons.proofs.Vocabulary.{is_first, IsParted, IsSorted, picked-and-left, forward-append, forward-if, clash, from-not}
use Rattle.found_reasons.proofs.Vocabulary.{length-append, nil_from_length, append-nil}

-- ---- what a test picks, and what it leaves

picked-or-left : (p : Entry → Bool) (xs : List Entry) (x : Entry) → IsIn xs x → IsIn (filter p xs) x ⊎ IsIn (filter (λ e. not (p e)) xs) x
picked-or-left p xs x i = go (p x) refl
  where
    go : (b : Bool) → p x ≡ b → IsIn (filter p xs) x ⊎ IsIn (filter (λ e. not (p e)) xs) x
    go true q = inl (filter-in p xs x i q)
    go false q = inr (filter-in (λ e. not (p e)) xs x i (ap not q))

-- ---- rows

module _ (edge : Entry → Entry → Bool) where
  abbrev pub Before : Entry → Entry → Type 0
  Before x y = edge x y ≡ true

  first-has-none : (xs : List Entry) (x y : Entry) → is_first edge xs x ≡ true → IsIn xs y → Before y x → ⊥
  first-has-none xs x y h i b =
      clash (list_any (λ z. edge z x) xs) (any-in (λ z. edge z x) xs y i b) (from-not (list_any (λ z. edge z x) xs) h)

  pub nothing-parted : (some : List Entry) → IsParted edge some [] some
  nothing-parted some = record {
    in_row = λ x i. absurd (in-none x i);
    in_rest = λ x i. i;
    whole = λ x i. inr i;
    count = omega arith;
    forward = tt;
    never_itself = λ x i b. in-none x i;
    before = λ x y i j b. in-none x i;
    once = λ o. tt;
    apart = λ o x i j. in-none x i;
    once_rest = λ o. o;
  }

  parted-by : (some row rest : List Entry) → IsParted edge some row rest
      → IsParted edge some (row ++ filter (is_first edge rest) rest) (filter (λ x. not (is_first edge rest x)) rest)
  parted-by some row rest p = record {
    in_row = λ x i. into x (in-append row first x i);
    in_rest = λ x i. p.in_rest x (in-left-over x i);
    whole = λ x i. on x (p.whole x i);
    count = let a = length-append row first in let b = picked-and-left (is_first edge rest) rest in let d = p.count in omega (arith, a, b, d);
    forward =
        forward-append Before row first p.forward (forward-if Before first (λ x y i j b. first-has-none rest x y (chosen x i).1 (chosen y j).0 b))
        (λ x y i j b. p.before x y i (chosen y j).0 b);
    never_itself = λ x i b. itself x (in-append row first x i) b;
    before = λ x y i j b. earlier x y (in-append row first x i) (in-left-over y j) b;
    once = λ o. once-append row first (p.once o) (once-filter (is_first edge rest) rest (p.once_rest o)) (λ x i j. p.apart o x i (chosen x j).0);
    apart = λ o x i j. asunder o x (in-append row first x i) j;
    once_rest = λ o. once-filter (λ x. not (is_first edge rest x)) rest (p.once_rest o);
  }
    where
      first : List Entry
      first = filter (is_first edge rest) rest

      left : List Entry
      left = filter (λ x. not (is_first edge rest x)) rest

      chosen : (x : Entry) → IsIn first x → IsIn rest x × (is_first edge rest x ≡ true)
      chosen x i = in-filter (is_first edge rest) rest x i

      in-left-over : (x : Entry) → IsIn left x → IsIn rest x
      in-left-over x i = (in-filter (λ x. not (is_first edge rest x)) rest x i).0

      into : (x : Entry) → IsIn row x ⊎ IsIn first x → IsIn some x
      into x (inl i) = p.in_row x i
      into x (inr i) = p.in_rest x (chosen x i).0

      on : (x : Entry) → IsIn row x ⊎ IsIn rest x → IsIn (row ++ first) x ⊎ IsIn left x
      on x (inl i) = inl (in-left row first x i)
      on x (inr i) = elim (picked-or-left (is_first edge rest) rest x i) [ inl i ↦ inl (in-right row first x i) | inr i ↦ inr i ]

      itself : (x : Entry) → IsIn row x ⊎ IsIn first x → Before x x → ⊥
      itself x (inl i) b = p.never_itself x i b
      itself x (inr i) b = first-has-none rest x x (chosen x i).1 (chosen x i).0 b

      earlier : (x y : Entry) → IsIn row x ⊎ IsIn first x → IsIn rest y → Before y x → ⊥
      earlier x y (inl i) j b = p.before x y i j b
      earlier x y (inr i) j b = first-has-none rest x y (chosen x i).1 j b

      asunder : Once some → (x : Entry) → IsIn row x ⊎ IsIn first x → IsIn left x → ⊥
      asunder o x (inl i) j = p.apart o x i (in-left-over x j)
      asunder o x (inr i) j =
          clash (is_first edge rest x) (chosen x i).1 (from-not (is_first edge rest x) (in-filter (λ x. not (is_first edge rest x)) rest x j).1)

  pub parted-more : (some row rest : List Entry) → IsParted edge some row rest → (first left : List Entry) → first ≡ filter (is_first edge rest) rest
      → left ≡ filter (λ x. not (is_first edge rest x)) rest → IsParted edge some (row ++ first) left
  parted-more some row rest p first left a b =
      subst (IsParted edge some (row ++ first)) (sym b)
      (subst (λ fs. IsParted edge some (row ++ fs) (filter (λ x. not (is_first edge rest x)) rest)) (sym a) (parted-by some row rest p))

  -- none of the rest can be first
  pub none-first : (some row rest : List Entry) → IsParted edge some row rest → (first : List Entry) → first ≡ filter (is_first edge rest) rest
      → length first ≡ 0 → IsSorted edge some row rest
  none-first some row rest p first is none = record { parted = p; stuck = λ x i. go x i (list_any (λ y. edge y x) rest) refl }
    where
      empty : (xs : List Entry) (x : Entry) → length xs ≡ 0 → IsIn xs x → ⊥
      empty [] x e i = in-none x i
      empty (y ∷ ys) x e i = omega (arith, e)

      go : (x : Entry) → IsIn rest x → (b : Bool) → list_any (λ y. edge y x) rest ≡ b → b ≡ true
      go x i true q = refl
      go x i false q = absurd (empty first x none (subst (λ zs. IsIn zs x) (sym is) (filter-in (is_first edge rest) rest x i (ap not q))))

  -- fewer are left where some can
  pub fewer-left : (rest first left : List Entry) → first ≡ filter (is_first edge rest) rest → left ≡ filter (λ x. not (is_first edge rest x)) rest
      → (length first ≡ 0 → ⊥) → length left < length rest
  fewer-left rest first left p q some =
      let a = ap length p in let d = ap length q in let b = picked-and-left (is_first edge rest) rest in omega (arith, a, b, d, some)

-- ---- a round: those of the rest that can be first come behind the row, and the others are left

module _ (edge : Entry → Entry → Bool) (some row rest items row2 left : List Entry) (p : IsParted edge some row rest) (is : items ≡ rest)
    (a : row2 ≡ row ++ filter (is_first edge items) items) (b : left ≡ filter (λ x. not (is_first edge items x)) items) where
  first : row2 ≡ row ++ filter (is_first edge rest) rest
  first = a ∙ ap (λ (xs : List Entry). row ++ filter (is_first edge xs) xs) is

  others : left ≡ filter (λ x. not (is_first edge rest x)) rest
  others = b ∙ ap (λ (xs : List Entry). filter (λ x. not (is_first edge xs x)) xs) is

  pub parted-further : IsParted edge some row2 left
  parted-further =
      subst (λ xs. IsParted edge some xs left) (sym first)
      (parted-more edge some row rest p (filter (is_first edge rest) rest) left refl others)

  pub fewer-than : (length left ≡ length rest → ⊥) → length left < length rest
  fewer-than more = let d = ap length others in let c = picked-and-left (is_first edge rest) rest in omega (arith, d, c, more)

  -- none could be first
  pub sorted-here : length left ≡ length rest → IsSorted edge some row2 rest
  sorted-here same =
      let d = ap length others in
      let c = picked-and-left (is_first edge rest) rest in
      let none : length (filter (is_first edge rest) rest) ≡ 0 = omega (arith, same, d, c) in
      subst (λ xs. IsSorted edge some xs rest)
      (sym (first ∙ (ap (λ fs. row ++ fs) (nil_from_length (filter (is_first edge rest) rest) none) ∙ append-nil row)))
      (none-first edge some row rest p (filter (is_first edge rest) rest) refl none)

-- ---- what a test for an empty list tells

pub no-items : (xs : List Entry) (n : ℕ) (b : Bool) → n ≡ length xs → b ≡ (n == 0) → b ≡ true → length xs ≡ 0
no-items xs n b size is h = sym size ∙ same-number n 0 (sym is ∙ h)

pub some-items : (xs : List Entry) (n : ℕ) (b : Bool) → n ≡ length xs → b ≡ (n == 0) → b ≡ false → length xs ≡ 0 → ⊥
some-items xs n b size is h none = clash (n == 0) (number-same n 0 (size ∙ none)) (sym is ∙ h)
