-- What is shown isn't hidden, so states that differ in hidden registers alone look alike.
use Rattle.search_report.proofs.Vocabulary.{◌≡◌, ◌<◌, ◌≤◌, ◌⊎◌, ℕ, ◌+◌, zero, suc, Bool, false, List, [], ◌∷◌, ◌++◌, map, length, take}
use Rattle.search_report.proofs.Vocabulary.{drop, Some, slice_get, slice_set, slice_index, slice_index_or, if◌then◌else◌, arith, ap, sym}
use Rattle.search_report.proofs.Vocabulary.{◌∙◌, subst, refl, index_of, Reg, Core, cleared, hidden_of, seen_from, seen, Named, Register}
use Rattle.search_report.proofs.Vocabulary.{Location, shown_value, AreNotShown, IsNotHidden}
use Rattle.std.proofs.Math.ListN.{length-set}
use Rattle.std.specs.Prelude.{All}
use Rattle.tso_report.specs.inner.Tally.{NameExists}

pub lt-or : (n k : ℕ) → (k < n) ⊎ (n ≤ k)
lt-or n k = grind arith

-- ---- one register more is shown

false-stays : (ds : List Bool) (i r : ℕ) → slice_index_or ds r false ≡ false → slice_index_or (slice_set ds i false) r false ≡ false
false-stays [] i r h = h
false-stays (d ∷ ds) zero zero h = refl
false-stays (d ∷ ds) zero (suc r) h = h
false-stays (d ∷ ds) (suc i) zero h = h
false-stays (d ∷ ds) (suc i) (suc r) h = false-stays ds i r h

false-there : (ds : List Bool) (i : ℕ) → slice_index_or (slice_set ds i false) i false ≡ false
false-there [] i = refl
false-there (d ∷ ds) zero = refl
false-there (d ∷ ds) (suc i) = false-there ds i

-- what is so of a row, and of the one that takes its place
row-stays : (P : List Bool → Type 0) (rows : List (List Bool)) (k c : ℕ) (row : List Bool)
    → (P (hidden_of rows k) → P row)
    → P (hidden_of rows c)
    → P (hidden_of (slice_set rows k row) c)
row-stays P [] k c row f h = h
row-stays P (x ∷ rows) zero zero row f h = f h
row-stays P (x ∷ rows) zero (suc c) row f h = h
row-stays P (x ∷ rows) (suc k) zero row f h = h
row-stays P (x ∷ rows) (suc k) (suc c) row f h = row-stays P rows k c row f h

row-there : (rows : List (List Bool)) (k : ℕ) (row : List Bool) → k < length rows → hidden_of (slice_set rows k row) k ≡ row
row-there [] k row l = absurd (let z : ⊥ = omega (arith, l) in z)
row-there (x ∷ rows) zero row l = refl
row-there (x ∷ rows) (suc k) row l = row-there rows k row (omega (arith, l))

module _ (old new : List (List Bool)) (k i : ℕ) (new-is : new ≡ slice_set old k (slice_set (hidden_of old k) i false)) where
  pub others-stay : (other : Named) → IsNotHidden old other → IsNotHidden new other
  others-stay (Register core reg) h =
      subst (λ z. slice_index_or (hidden_of z core.0) (index_of reg) false ≡ false) (sym new-is)
      (row-stays (λ ds. slice_index_or ds (index_of reg) false ≡ false) old k core.0
      (slice_set (hidden_of old k) i false) (false-stays (hidden_of old k) i (index_of reg)) h)
  others-stay (Location loc) h = tt

  pub this-shown : (core : Core) (reg : Reg) → k < length old → core.0 ≡ k → index_of reg ≡ i → IsNotHidden new (Register core reg)
  this-shown core reg l q e =
      ap (λ z. slice_index_or (hidden_of z core.0) (index_of reg) false) new-is
      ∙ ap (λ z. slice_index_or (hidden_of (slice_set old k (slice_set (hidden_of old k) i false)) z) (index_of reg) false) q
      ∙ ap (λ z. slice_index_or z (index_of reg) false) (row-there old k (slice_set (hidden_of old k) i false) l)
      ∙ ap (λ z. slice_index_or (slice_set (hidden_of old k) i false) z false) e ∙ false-there (hidden_of old k) i

pub row-at : (rows : List (List Bool)) (k : ℕ) (d : List Bool) → k < length rows → slice_index_or rows k d ≡ hidden_of rows k
row-at [] k d l = absurd (let z : ⊥ = omega (arith, l) in z)
row-at (x ∷ rows) zero d l = refl
row-at (x ∷ rows) (suc k) d l = row-at rows k d (omega (arith, l))

-- what is named isn't hidden any more, and nothing else is that wasn't
pub record IsShownBy (old new : List (List Bool)) (named : Named) : Type 0 where
  pub shown : IsNotHidden new named
  pub others : (other : Named) → IsNotHidden old other → IsNotHidden new other
  pub count : length new ≡ length old

pub shows : (old : List (List Bool)) (at i : ℕ) (d : List Bool) (core : Core) (reg : Reg) → at ≡ core.0 → i ≡ index_of reg → core.0 < length old
    → IsShownBy old (slice_set old at (slice_set (slice_index_or old at d) i false)) (Register core reg)
shows old at i d core reg a e l =
    let row : slice_index_or old at d ≡ hidden_of old at = row-at old at d (omega (arith, a, l)) in
    let is : slice_set old at (slice_set (slice_index_or old at d) i false)
    ≡ slice_set old at (slice_set (hidden_of old at) i false) =
    ap (λ z. slice_set old at (slice_set z i false)) row in
    record {
      shown = this-shown old _ at i is core reg (omega (arith, a, l)) (sym a) (sym e);
      others = others-stay old _ at i is;
      count = length-set old at _;
    }

-- a register that is known is of a core for which there is a row
pub core-known : (cores locations : ℕ) (names others : List Named) (j : ℕ) (d : Named) (core : Core) (reg : Reg)
    → All (NameExists cores locations) names
    → others ≡ names
    → j < length others
    → slice_index_or others j d ≡ Register core reg → core.0 < cores
core-known cores locations names others j d core reg known e l is =
    let m : j < length names = (let n = ap length e in omega (arith, n, l)) in
    subst (NameExists cores locations) is (subst (λ z. NameExists cores locations (slice_index_or z j d)) (sym e) (known j d m))

-- a list written over one of the same length
pub whole : {A : Type 0} (xs ys : List A) (n : ℕ) → length xs ≡ length ys → n ≡ length ys → take n (xs ++ drop (length xs) ys) ≡ xs
whole [] [] zero p q = refl
whole [] [] (suc n) p q = refl
whole [] (y ∷ ys) n p q = absurd (let z : ⊥ = omega (arith, p) in z)
whole (x ∷ xs) [] n p q = absurd (let z : ⊥ = omega (arith, p) in z)
whole (x ∷ xs) (y ∷ ys) zero p q = absurd (let z : ⊥ = omega (arith, q) in z)
whole (x ∷ xs) (y ∷ ys) (suc n) p q = ap (λ z. x ∷ z) (whole xs ys n (omega (arith, p)) (omega (arith, q)))

pub get-or : (xs : List Named) (j : ℕ) (d n : Named) → slice_get xs j ≡ Some n → slice_index_or xs j d ≡ n
get-or [] j d n at = absurd (let z : ⊥ = cc in z)
get-or (x ∷ xs) zero d n at = let z : x ≡ n = cc in z
get-or (x ∷ xs) (suc j) d n at = get-or xs j d n at

pub get-within : (xs : List Named) (j : ℕ) (n : Named) → slice_get xs j ≡ Some n → j < length xs
get-within [] j n at = absurd (let z : ⊥ = cc in z)
get-within (x ∷ xs) zero n at = omega arith
get-within (x ∷ xs) (suc j) n at = let l = get-within xs j n at in omega (arith, l)

-- ---- what isn't hidden has the same value

clear-none : (ds : List Bool) → cleared ds [] ≡ []
clear-none [] = refl
clear-none (d ∷ ds) = refl

seen-at : (hidden : List (List Bool)) (n k : ℕ) (rs : List (List ℕ))
    → slice_index_or (seen_from hidden n rs) k [] ≡ cleared (hidden_of hidden (n + k)) (slice_index_or rs k [])
seen-at hidden n k [] = sym (clear-none (hidden_of hidden (n + k)))
seen-at hidden n zero (r ∷ rs) = let q : n ≡ n + 0 = omega arith in ap (λ z. cleared (hidden_of hidden z) r) q
seen-at hidden n (suc k) (r ∷ rs) =
    let q : (n + 1) + k ≡ n + suc k = omega arith in
    seen-at hidden (n + 1) k rs ∙ ap (λ z. cleared (hidden_of hidden z) (slice_index_or rs k [])) q

live-same : (ds : List Bool) (rs ss : List ℕ) (i : ℕ) → cleared ds rs ≡ cleared ds ss → slice_index_or ds i false ≡ false → slice_index rs i ≡ slice_index ss i
live-same [] rs ss i h e = ap (λ z. slice_index z i) h
live-same (d ∷ ds) [] [] i h e = refl
live-same (d ∷ ds) [] (s ∷ ss) i h e = absurd (let z : ⊥ = cc in z)
live-same (d ∷ ds) (r ∷ rs) [] i h e = absurd (let z : ⊥ = cc in z)
live-same (d ∷ ds) (r ∷ rs) (s ∷ ss) zero h e =
    let p : (if d then 0 else r) ≡ (if d then 0 else s) = cc in
    (ap (λ b. if b then 0 else r) (sym e) ∙ p ∙ ap (λ b. if b then 0 else s) e)
live-same (d ∷ ds) (r ∷ rs) (s ∷ ss) (suc i) h e = let q : cleared ds rs ≡ cleared ds ss = cc in live-same ds rs ss i q e

module _ (hidden : List (List Bool)) (registers others : List (List ℕ)) (memory : List ℕ) (same : seen hidden registers ≡ seen hidden others) where
  core-same : (k : ℕ) → cleared (hidden_of hidden k) (slice_index_or registers k []) ≡ cleared (hidden_of hidden k) (slice_index_or others k [])
  core-same k =
      let q : 0 + k ≡ k = omega arith in
      subst (λ z. cleared (hidden_of hidden z) (slice_index_or registers k []) ≡ cleared (hidden_of hidden z) (slice_index_or others k [])) q
      (sym (seen-at hidden 0 k registers) ∙ ap (λ z. slice_index_or z k []) same ∙ seen-at hidden 0 k others)

  one-same : (n : Named) → IsNotHidden hidden n → shown_value registers memory n ≡ shown_value others memory n
  one-same (Register core reg) h =
      live-same (hidden_of hidden core.0) (slice_index_or registers core.0 []) (slice_index_or others core.0 []) (index_of reg) (core-same core.0) h
  one-same (Location loc) h = refl

  pub values-same : (names : List Named) → ((j : ℕ) (n : Named) → slice_get names j ≡ Some n → IsNotHidden hidden n)
      → map (shown_value registers memory) names ≡ map (shown_value others memory) names
  values-same [] h = refl
  values-same (n ∷ names) h = rw (one-same n (h 0 n refl), values-same names (λ j. h (suc j))) refl

pub not-shown : (shown : List Named) (hidden : List (List Bool)) (names : List Named)
    → names ≡ shown
    → ((j : ℕ) (n : Named) → slice_get names j ≡ Some n → IsNotHidden hidden n)
    → AreNotShown shown hidden
not-shown shown hidden names q h registers others memory same =
    subst (λ z. map (shown_value registers memory) z ≡ map (shown_value others memory) z) q (values-same hidden registers others memory same names h)
