-- What is looked up on a machine, one after the other.
use Rattle.trace_report.proofs.Vocabulary.{◌≡◌, ◌∙◌, ℕ, zero, suc, ◌+◌, ◌-◌, ◌<◌, List, [], ◌∷◌, ◌++◌, length, map, take, Some, None}
use Rattle.trace_report.proofs.Vocabulary.{option_map, slice_get, slice_index_or, refl, sym, ap, arith, length-append, length-map}
use Rattle.trace_report.proofs.Vocabulary.{unwrap_or, Data, view, Value, Litmus, CoreState, idle, core_of, Running, registers_value}
use Rattle.trace_report.proofs.Vocabulary.{store_text, cached_lines_in}
use Rattle.trace_report.proofs.Looking.{pending-of}
use Rattle.machine_core.specs.inner.Looking.{core_numbered, cached_line, pending_at}

-- ---- a list read one after the other
read-on : {A : Type 0} (n : ℕ) (xs done : List A) (x : A) → n ≡ length done → Some x ≡ slice_get xs n → done ≡ take n xs → done ++ x ∷ [] ≡ take (n + 1) xs
read-on zero (y ∷ ys) done x many found so_far = let e : x ≡ y = cc in ap (λ d. d ++ x ∷ []) so_far ∙ ap (λ z. z ∷ []) e
read-on zero [] done x many found so_far = absurd cc
read-on (suc n) [] done x many found so_far = absurd cc
read-on (suc n) (y ∷ ys) [] x many found so_far = absurd cc
read-on (suc n) (y ∷ ys) (d ∷ ds) x many found so_far =
    let first : d ≡ y = cc in
    let rest : ds ≡ take n ys = cc in
    let size : n ≡ length ds = omega arith in
    let next : suc n + 1 ≡ suc (n + 1) = omega arith in
    ap (λ z. z ∷ (ds ++ x ∷ [])) first ∙ (ap (λ z. y ∷ z) (read-on n ys ds x size found rest) ∙ ap (λ k. take k (y ∷ ys)) (sym next))

read-all : {A : Type 0} (n : ℕ) (xs : List A) → None ≡ slice_get xs n → take n xs ≡ xs
read-all zero [] found = refl
read-all zero (y ∷ ys) found = absurd cc
read-all (suc n) [] found = refl
read-all (suc n) (y ∷ ys) found = ap (λ z. y ∷ z) (read-all n ys found)

mapped : {A B : Type 0} (f : A → B) (xs : List A) (n : ℕ) → option_map f (slice_get xs n) ≡ slice_get (map f xs) n
mapped f [] n = refl
mapped f (x ∷ xs) zero = refl
mapped f (x ∷ xs) (suc n) = mapped f xs n

-- ---- values made of such a list

one-more : (values after : List Value) (d : Data) → map view after ≡ map view values ++ d ∷ [] → length after ≡ length values + 1
one-more values after d pushed =
    sym (length-map after view)
    ∙ (ap length pushed ∙ (length-append (map view values) (d ∷ []) ∙ ap (λ k. k + 1) (length-map values view)))

pub next-read : {A : Type 0} (f : A → Data) (xs : List A) (n : ℕ) (values after : List Value) (x : A) → n ≡ length values → Some x ≡ slice_get xs n
    → map view after ≡ map view values ++ f x ∷ [] → map view values ≡ take (length values) (map f xs) → map view after ≡ take (length after) (map f xs)
next-read f xs n values after x many found pushed so_far =
    let all = map f xs in
    let size : length after ≡ n + 1 = one-more values after (f x) pushed ∙ ap (λ k. k + 1) (sym many) in
    let there : Some (f x) ≡ slice_get all n = ap (option_map f) found ∙ mapped f xs n in
    pushed
    ∙ (read-on n all (map view values) (f x) (many ∙ sym (length-map values view)) there (so_far ∙ ap (λ k. take k all) (sym many))
    ∙ ap (λ k. take k all) (sym size))

pub all-read : {A : Type 0} (f : A → Data) (xs : List A) (n : ℕ) (values : List Value) → n ≡ length values → None ≡ slice_get xs n
    → map view values ≡ take (length values) (map f xs) → map view values ≡ map f xs
all-read f xs n values many none so_far =
    so_far ∙ (ap (λ k. take k (map f xs)) (sym many) ∙ read-all n (map f xs) (ap (option_map f) none ∙ mapped f xs n))

within : {A : Type 0} (xs : List A) (n : ℕ) (x : A) → Some x ≡ slice_get xs n → n < length xs
within [] n x found = absurd cc
within (y ∷ ys) zero x found = omega arith
within (y ∷ ys) (suc n) x found = let l = within ys n x found in omega (arith, l)

pub fewer-left : {A : Type 0} (f : A → Data) (xs : List A) (n : ℕ) (values after : List Value) (x : A) → n ≡ length values → Some x ≡ slice_get xs n
    → map view after ≡ map view values ++ f x ∷ [] → length xs - length after < length xs - length values
fewer-left f xs n values after x many found pushed =
    let l = within xs n x found in
    let size = one-more values after (f x) pushed in
    omega (arith, l, many, size)

-- a copy of a set, and a text of a pending store, as they are in such lists
pub copy-at : (m : Running) (core set rank : ℕ) → cached_line m core set rank ≡ slice_get (cached_lines_in m core set) rank
copy-at m core set rank = mapped _ _ rank

pub store-at : (t : Litmus) (m : Running) (core number : ℕ)
    → option_map (store_text t) (pending_at m core number) ≡ slice_get (map (store_text t) (core_of m.state.flat core).pending) number
store-at t m core number = ap (option_map (store_text t)) (pending-of m core number) ∙ mapped (store_text t) (core_of m.state.flat core).pending number

-- ---- a core's registers

registers-in : (cores : List CoreState) (i : ℕ)
    → registers_value (unwrap_or (option_map (λ (s : CoreState). s.registers) (slice_get cores i)) (0 ∷ 0 ∷ 0 ∷ 0 ∷ 0 ∷ 0 ∷ []))
    ≡ registers_value (slice_index_or cores i idle).registers
registers-in [] i = refl
registers-in (s ∷ ss) zero = refl
registers-in (s ∷ ss) (suc i) = registers-in ss i

pub registers-of : (m : Running) (core : ℕ)
    → registers_value (unwrap_or (option_map (λ (s : CoreState). s.registers) (core_numbered m core)) (0 ∷ 0 ∷ 0 ∷ 0 ∷ 0 ∷ 0 ∷ []))
    ≡ registers_value (core_of m.state.flat core).registers
registers-of m core = registers-in m.state.flat.cores core
