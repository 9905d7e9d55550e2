-- Lists of things, each told by a text that begins with it.
use Rattle.printed_laws.proofs.Vocabulary.{◌≡◌, ℕ, List, [], ◌∷◌, ◌++◌, refl, sym, ap, ◌∙◌, zero, suc, arith, ◌+◌, slice_index, All, map}
use Rattle.printed_laws.proofs.Vocabulary.{append_assoc, All-head, All-tail, All-cons, All-nil, IsWord}

-- what is printed of a thing that fits tells this of it, with what may come after it
abbrev pub Tells : {A B : Type 0} → (A → Type 0) → (List ℕ → Type 0) → (A → List ℕ) → (A → B) → Type 0
Tells {A} Fits After print told =
    (a b : A) (rest other : List ℕ) → Fits a → Fits b → After rest → After other → print a ++ rest ≡ print b ++ other → (told a ≡ told b) × (rest ≡ other)

-- A list's text is that of its members in turn, numbered from some number on. No member's text begins what comes after the list.
module _ {A B : Type 0} (Fits : A → Type 0) (Within After : List ℕ → Type 0) (print : ℕ → A → List ℕ) (prints : ℕ → List A → List ℕ) (told : A → B)
    (none : (n : ℕ) → prints n [] ≡ []) (some : (n : ℕ) (x : A) (xs : List A) → prints n (x ∷ xs) ≡ print n x ++ prints (n + 1) xs)
    (each : (n : ℕ) → Tells Fits Within (print n) told)
    (within : (n : ℕ) (xs : List A) (rest : List ℕ) → All Fits xs → After rest → Within (prints n xs ++ rest))
    (ended : (n : ℕ) (x : A) (more rest : List ℕ) → Fits x → After rest → print n x ++ more ≡ rest → ⊥) where
  split : (n : ℕ) (x : A) (xs : List A) (rest : List ℕ) → prints n (x ∷ xs) ++ rest ≡ print n x ++ (prints (n + 1) xs ++ rest)
  split n x xs rest = ap (λ (l : List ℕ). l ++ rest) (some n x xs) ∙ append_assoc (print n x) (prints (n + 1) xs) rest

  pub list-cut : (n : ℕ) (xs ys : List A) (rest other : List ℕ) → All Fits xs → All Fits ys → After rest → After other
      → prints n xs ++ rest ≡ prints n ys ++ other → (map told xs ≡ map told ys) × (rest ≡ other)
  list-cut n [] [] rest other p q f f' e = (refl, ap (λ (l : List ℕ). l ++ rest) (sym (none n)) ∙ (e ∙ ap (λ (l : List ℕ). l ++ other) (none n)))
  list-cut n [] (y ∷ ys) rest other p q f f' e =
      absurd (ended n y _ rest (All-head Fits y ys q) f (sym (split n y ys other) ∙ (sym e ∙ ap (λ (l : List ℕ). l ++ rest) (none n))))
  list-cut n (x ∷ xs) [] rest other p q f f' e =
      absurd (ended n x _ other (All-head Fits x xs p) f' (sym (split n x xs rest) ∙ (e ∙ ap (λ (l : List ℕ). l ++ other) (none n))))
  list-cut n (x ∷ xs) (y ∷ ys) rest other p q f f' e =
      let later = All-tail Fits x xs p in
      let later' = All-tail Fits y ys q in
      let first =
      each n x y (prints (n + 1) xs ++ rest) (prints (n + 1) ys ++ other) (All-head Fits x xs p)
      (All-head Fits y ys q) (within (n + 1) xs rest later f) (within (n + 1) ys other later' f')
      (sym (split n x xs rest) ∙ (e ∙ split n y ys other)) in
      let further = list-cut (n + 1) xs ys rest other later later' f f' first.1 in
      ((λ i. first.0 i ∷ further.0 i), further.1)

each-itself : {A : Type 0} (xs : List A) → map (λ x. x) xs ≡ xs
each-itself [] = refl
each-itself (x ∷ xs) = ap (λ (l : List _). x ∷ l) (each-itself xs)

-- lists whose members are told themselves
pub all-told : {A : Type 0} (xs ys : List A) → map (λ x. x) xs ≡ map (λ x. x) ys → xs ≡ ys
all-told xs ys e = sym (each-itself xs) ∙ (e ∙ each-itself ys)

pub both-fit : {A : Type 0} (P Q : A → Type 0) (xs : List A) → All P xs → All Q xs → All (λ x. P x × Q x) xs
both-fit P Q [] p q = All-nil (λ x. P x × Q x)
both-fit P Q (x ∷ xs) p q = All-cons (λ x. P x × Q x) x xs (All-head P x xs p, All-head Q x xs q) (both-fit P Q xs (All-tail P x xs p) (All-tail Q x xs q))

pub word-at : (words : List ℕ) (i : ℕ) → All IsWord words → IsWord (slice_index words i)
word-at [] i all = omega arith
word-at (w ∷ ws) zero all = All-head IsWord w ws all
word-at (w ∷ ws) (suc i) all = word-at ws i (All-tail IsWord w ws all)
