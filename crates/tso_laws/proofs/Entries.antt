-- Orders of entries with one more in the middle, as one core sees them.
use Rattle.tso_laws.proofs.Vocabulary.{◌≡◌, ◌<◌, ◌≤◌, ℕ, suc, List, [], ◌∷◌, ◌++◌, Bool, true, false, length, slice_index, arith, sym, ◌∙◌}
use Rattle.tso_laws.proofs.Vocabulary.{append_assoc, refl, subst, ◌==◌, ◌&&◌, if◌then◌else◌, nat_tests, same_kind, is_write, is_read}
use Rattle.tso_laws.proofs.Vocabulary.{is_before, may_be_passed, writes_to, is_store, is_load, is_write_kind, is_read_kind, read_value}
use Rattle.tso_laws.proofs.Vocabulary.{is_at, and-true, Entry, Kind, R, LR, Each, each-insert, each-left, append-nil, cases_Bool, inl, inr}
use Rattle.tso_laws.proofs.Folds.{last_word, last_own, passed}

-- where y comes after x in the order, and before it in the program of core c, y is a store and x a load
abbrev pub Fine : ℕ → ℕ → Entry → Entry → Type 0
Fine d c x y = y.core.0 ≡ c → is_before y x ≡ true → (may_be_passed y x ≡ true) × (0 < d)

abbrev pub Ordered : ℕ → ℕ → List Entry → Type 0
Ordered d c [] = Unit {0}
Ordered d c (x ∷ xs) = Each (λ y. Fine d c x y) xs × Ordered d c xs

pub ordered-insert : (d c : ℕ) (xs ys : List Entry) (e : Entry)
    → Ordered d c (xs ++ ys)
    → Each (λ x. Fine d c x e) xs
    → Each (λ y. Fine d c e y) ys
    → Ordered d c ((xs ++ (e ∷ [])) ++ ys)
ordered-insert d c [] ys e h a b = (b, h)
ordered-insert d c (x ∷ xs) ys e h a b = (each-insert (λ y. Fine d c x y) xs ys e h.0 a.0, ordered-insert d c xs ys e h.1 a.1 b)

-- the reads of core c in the later list have the values that are due, with `front` before them
abbrev pub DueIn : ℕ → List ℕ → List Entry → List Entry → Type 0
DueIn c words front [] = Unit {0}
DueIn c words front (x ∷ back) =
    (x.core.0 ≡ c → is_read x ≡ true → x.value ≡ last_own x back (last_word x.loc.0 front (slice_index words x.loc.0)))
    × DueIn c words (front ++ (x ∷ [])) back

pub not_both : (k : Kind) → is_write_kind k ≡ true → is_read_kind k ≡ false
not_both R h = cc
not_both LR h = cc
not_both _ h = refl

pub due-writes : (c : ℕ) (words : List ℕ) (front xs : List Entry) → Each (λ x. is_write x ≡ true) xs → DueIn c words front xs
due-writes c words front [] h = tt
due-writes c words front (x ∷ xs) h = (λ k r. absurd (let w : is_read x ≡ false = not_both x.kind h.0 in cc), due-writes c words (front ++ (x ∷ [])) xs h.1)

pub last_own-insert : (x : Entry) (xs ys : List Entry) (e : Entry) (v : ℕ)
    → (writes_to x.loc.0 e && is_before e x) ≡ false
    → last_own x ((xs ++ (e ∷ [])) ++ ys) v ≡ last_own x (xs ++ ys) v
last_own-insert x [] ys e v h = rw h refl
last_own-insert x (y ∷ xs) ys e v h = last_own-insert x xs ys e _ h

abbrev pub Uncounted : ℕ → Entry → Entry → Type 0
Uncounted c e x = x.core.0 ≡ c → is_read x ≡ true → (writes_to x.loc.0 e && is_before e x) ≡ false

abbrev pub OwnDue : ℕ → List ℕ → List Entry → List Entry → Entry → Type 0
OwnDue c words front ys e = e.core.0 ≡ c → is_read e ≡ true → e.value ≡ last_own e ys (last_word e.loc.0 front (slice_index words e.loc.0))

pub due-insert : (c : ℕ) (words : List ℕ) (front xs ys : List Entry) (e : Entry) → DueIn c words front (xs ++ ys) → Each (λ y. is_write y ≡ true) ys
    → Each (Uncounted c e) xs → OwnDue c words (front ++ xs) ys e → DueIn c words front ((xs ++ (e ∷ [])) ++ ys)
due-insert c words front [] ys e h w q own =
    (subst (λ f. OwnDue c words f ys e) (append-nil front) own, due-writes c words (front ++ (e ∷ [])) ys w)
due-insert c words front (x ∷ xs) ys e h w q own = (
  λ k r. h.0 k r ∙ sym (last_own-insert x xs ys e _ (q.0 k r)),
  due-insert c words (front ++ (x ∷ [])) xs ys e h.1 w q.1 (subst (λ f. OwnDue c words f ys e) (sym (append_assoc front (x ∷ []) xs)) own),
)

-- the due value of a read before which all of the list stands
pub last_own-all : (x : Entry) (ys : List Entry) (v : ℕ) → Each (λ y. is_before y x ≡ true) ys → last_own x ys v ≡ last_word x.loc.0 ys v
last_own-all x [] v h = refl
last_own-all x (y ∷ ys) v h = rw (h.0, and-true) (last_own-all x ys _ h.1)

-- how many entries are of core c
abbrev pub count : ℕ → List Entry → ℕ
count c [] = 0
count c (x ∷ xs) = (if x.core.0 == c then suc (count c xs) else count c xs)

pub count-insert-own : (c : ℕ) (xs ys : List Entry) (e : Entry) → (e.core.0 == c) ≡ true → count c ((xs ++ (e ∷ [])) ++ ys) ≡ suc (count c (xs ++ ys))
count-insert-own c [] ys e h = rw h refl
count-insert-own c (x ∷ xs) ys e h = rw (count-insert-own c xs ys e h) (both (x.core.0 == c) (count c (xs ++ ys)))
  where
    both : (b : Bool) (n : ℕ) → (if b then suc (suc n) else suc n) ≡ suc (if b then suc n else n)
    both true n = refl
    both false n = refl

pub count-insert-other : (c : ℕ) (xs ys : List Entry) (e : Entry) → (e.core.0 == c) ≡ false → count c ((xs ++ (e ∷ [])) ++ ys) ≡ count c (xs ++ ys)
count-insert-other c [] ys e h = rw h refl
count-insert-other c (x ∷ xs) ys e h = rw (count-insert-other c xs ys e h) refl

-- the value read at a place that the front has not come to is that of the entry
pub read_value-after : (c place : ℕ) (kind : Kind) (xs ys : List Entry) (e : Entry)
    → Each (λ x. x.core.0 ≡ c → x.place < place) xs
    → is_at c place kind e ≡ true
    → read_value c place kind (xs ++ (e ∷ ys)) ≡ e.value
read_value-after c place kind [] ys e h r = rw r refl
read_value-after c place kind (x ∷ xs) ys e h r =
    let n : is_at c place kind x ≡ false = other c place kind x h.0 in rw n (read_value-after c place kind xs ys e h.1 r)
  where
    other : (c place : ℕ) (kind : Kind) (x : Entry) → (x.core.0 ≡ c → x.place < place) → is_at c place kind x ≡ false
    other c place kind x h = go x.core.0 x.place (same_kind x.kind kind) h
      where
        go : (a b : ℕ) (k : Bool) → (a ≡ c → b < place) → ((a == c) && (b == place) && k) ≡ false
        go a b k h = grind (arith, nat_tests)

-- the loads of core c in the list have at most d own stores after them that they passed
abbrev pub Few : ℕ → ℕ → List Entry → Type 0
Few d c [] = Unit {0}
Few d c (x ∷ xs) = (x.core.0 ≡ c → is_load x ≡ true → passed x xs ≤ d) × Few d c xs

passed-insert : (x : Entry) (xs ys : List Entry) (e : Entry) → (is_store e && is_before e x) ≡ false → passed x ((xs ++ (e ∷ [])) ++ ys) ≡ passed x (xs ++ ys)
passed-insert x [] ys e h = rw h refl
passed-insert x (y ∷ xs) ys e h = rw (passed-insert x xs ys e h) refl

pub few-insert : (d c : ℕ) (xs ys : List Entry) (e : Entry) → Few d c (xs ++ ys) → Each (λ x. x.core.0 ≡ c → (is_store e && is_before e x) ≡ false) xs
    → (e.core.0 ≡ c → is_load e ≡ true → passed e ys ≤ d) → Few d c ((xs ++ (e ∷ [])) ++ ys)
few-insert d c [] ys e h a own = (own, h)
few-insert d c (x ∷ xs) ys e h a own = (λ k l. rw (passed-insert x xs ys e (a.0 k)) (h.0 k l), few-insert d c xs ys e h.1 a.1 own)

pub passed-length : (x : Entry) (ys : List Entry) → passed x ys ≤ length ys
passed-length x [] = omega arith
passed-length x (y ∷ ys) = let l = passed-length x ys in both (is_store y && is_before y x) (passed x ys) l
  where
    both : (b : Bool) (n : ℕ) → n ≤ length ys → (if b then suc n else n) ≤ suc (length ys)
    both true n l = omega arith
    both false n l = omega arith

-- what the whole list keeps its front keeps
pub ordered-left : (d c : ℕ) (xs ys : List Entry) → Ordered d c (xs ++ ys) → Ordered d c xs
ordered-left d c [] ys h = tt
ordered-left d c (x ∷ xs) ys h = (each-left (λ y. Fine d c x y) xs ys h.0, ordered-left d c xs ys h.1)

passed-left : (x : Entry) (xs ys : List Entry) → passed x xs ≤ passed x (xs ++ ys)
passed-left x [] ys = omega arith
passed-left x (y ∷ xs) ys = let h = passed-left x xs ys in elim (cases_Bool (is_store y && is_before y x)) [ inl q ↦ rw q (omega arith) | inr q ↦ rw q h ]

pub few-left : (d c : ℕ) (xs ys : List Entry) → Few d c (xs ++ ys) → Few d c xs
few-left d c [] ys h = tt
few-left d c (x ∷ xs) ys h = (λ k l. let a = h.0 k l in let b = passed-left x xs ys in omega arith, few-left d c xs ys h.1)
