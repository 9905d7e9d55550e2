-- Writes at places of a list, and what entries do to memory.
use Rattle.tso_laws.proofs.EagerVocabulary.{◌≡◌, ◌≢◌, ℕ, zero, suc, List, [], ◌∷◌, Bool, true, false, length, slice_set, slice_index, ap}
use Rattle.tso_laws.proofs.EagerVocabulary.{sym, ◌∙◌, refl, if◌then◌else◌, get_or-set_other, length-set, is_write, memory_after, Entry}
use Rattle.tso_laws.proofs.EagerVocabulary.{Each}

pub set-set-same : {A : Type 0} (xs : List A) (k : ℕ) (a b : A) → slice_set (slice_set xs k a) k b ≡ slice_set xs k b
set-set-same [] k a b = refl
set-set-same (x ∷ xs) zero a b = refl
set-set-same (x ∷ xs) (suc k) a b = ap (λ z. x ∷ z) (set-set-same xs k a b)

pub set-set-other : {A : Type 0} (xs : List A) (j k : ℕ) (a b : A) → j ≢ k → slice_set (slice_set xs j a) k b ≡ slice_set (slice_set xs k b) j a
set-set-other [] j k a b n = refl
set-set-other (x ∷ xs) zero zero a b n = absurd (n refl)
set-set-other (x ∷ xs) zero (suc k) a b n = refl
set-set-other (x ∷ xs) (suc j) zero a b n = refl
set-set-other (x ∷ xs) (suc j) (suc k) a b n = ap (λ z. x ∷ z) (set-set-other xs j k a b (λ q. n (ap suc q)))

-- none of the entries writes
abbrev pub Silent : List Entry → Type 0
Silent es = Each (λ e. is_write e ≡ false) es

-- those that write do it at this location
abbrev pub Only : ℕ → List Entry → Type 0
Only l es = Each (λ e. is_write e ≡ true → e.loc.0 ≡ l) es

-- those that write do it elsewhere
abbrev pub NotAt : ℕ → List Entry → Type 0
NotAt l es = Each (λ e. is_write e ≡ true → e.loc.0 ≢ l) es

-- memory after one entry
abbrev pub put : Entry → List ℕ → List ℕ
put e words = if is_write e then slice_set words e.loc.0 e.value else words

pub length-put : (b : Bool) (words : List ℕ) (l v : ℕ) → length (if b then slice_set words l v else words) ≡ length words
length-put true words l v = length-set words l v
length-put false words l v = refl

pub length-memory : (es : List Entry) (words : List ℕ) → length (memory_after es words) ≡ length words
length-memory [] words = refl
length-memory (e ∷ es) words = length-memory es (put e words) ∙ length-put (is_write e) words e.loc.0 e.value

pub silent-same : (es : List Entry) (words : List ℕ) → Silent es → memory_after es words ≡ words
silent-same [] words h = refl
silent-same (e ∷ es) words h = ap (λ b. memory_after es (if b then slice_set words e.loc.0 e.value else words)) h.0 ∙ silent-same es words h.1

one-elsewhere : (b : Bool) (words : List ℕ) (l m v : ℕ) → (b ≡ true → m ≢ l) → slice_index (if b then slice_set words m v else words) l ≡ slice_index words l
one-elsewhere false words l m v h = refl
one-elsewhere true words l m v h = get_or-set_other words m l v 0 (λ q. h refl (sym q))

pub elsewhere : (l : ℕ) (es : List Entry) (words : List ℕ) → NotAt l es → slice_index (memory_after es words) l ≡ slice_index words l
elsewhere l [] words h = refl
elsewhere l (e ∷ es) words h = elsewhere l es (put e words) h.1 ∙ one-elsewhere (is_write e) words l e.loc.0 e.value h.0

pub only-elsewhere : (l m : ℕ) (es : List Entry) → m ≢ l → Only l es → NotAt m es
only-elsewhere l m [] n h = tt
only-elsewhere l m (e ∷ es) n h = (λ w q. n (sym q ∙ h.0 w), only-elsewhere l m es n h.1)

two-writes : (b c : Bool) (words : List ℕ) (l m v w : ℕ) → (b ≡ true → c ≡ true → l ≢ m)
    → (if c then slice_set (if b then slice_set words l v else words) m w else (if b then slice_set words l v else words))
    ≡ (if b then slice_set (if c then slice_set words m w else words) l v else (if c then slice_set words m w else words))
two-writes true true words l m v w h = set-set-other words l m v w (h refl refl)
two-writes true false words l m v w h = refl
two-writes false true words l m v w h = refl
two-writes false false words l m v w h = refl

one-passes : (l : ℕ) (e : Entry) (es : List Entry) (words : List ℕ) → (is_write e ≡ true → e.loc.0 ≡ l) → NotAt l es
    → memory_after es (put e words) ≡ put e (memory_after es words)
one-passes l e [] words h k = refl
one-passes l e (x ∷ es) words h k =
    ap (memory_after es) (two-writes (is_write e) (is_write x) words e.loc.0 x.loc.0 e.value x.value (λ b c q. k.0 c (sym q ∙ h b)))
    ∙ one-passes l e es (put x words) h k.1

-- writes at one location and writes elsewhere may come in either order
pub commute : (l : ℕ) (es ds : List Entry) (words : List ℕ) → Only l es → NotAt l ds
    → memory_after es (memory_after ds words) ≡ memory_after ds (memory_after es words)
commute l [] ds words h k = refl
commute l (e ∷ es) ds words h k =
    ap (memory_after es) (sym (one-passes l e ds words h.0 k)) ∙ commute l es ds (put e words) h.1 k
