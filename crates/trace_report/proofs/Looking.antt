-- What is looked up of a core on a machine.
use Rattle.trace_report.proofs.Vocabulary.{◌≡◌, ◌∙◌, ℕ, zero, suc, ◌+◌, ◌-◌, ◌<◌, List, [], ◌∷◌, ◌++◌, length, take, Option, Some, None}
use Rattle.trace_report.proofs.Vocabulary.{option_map, slice_get, slice_index_or, refl, sym, ap, arith, length-append, option_and_then}
use Rattle.trace_report.proofs.Vocabulary.{unwrap_or, value_in, CoreState, idle, core_of, Entry, Running, Reg}
use Rattle.machine_core.specs.inner.Looking.{core_numbered, pending_at}
use Rattle.trace_report.specs.declared.step.Given.{Given}
use Rattle.trace_report.specs.Steps.{register_given}

place-in : (cores : List CoreState) (i : ℕ) → unwrap_or (option_map (λ (s : CoreState). s.place) (slice_get cores i)) 0 ≡ (slice_index_or cores i idle).place
place-in [] i = refl
place-in (s ∷ ss) zero = refl
place-in (s ∷ ss) (suc i) = place-in ss i

pub place-of : (m : Running) (core : ℕ) → unwrap_or (option_map (λ (s : CoreState). s.place) (core_numbered m core)) 0 ≡ (core_of m.state.flat core).place
place-of m core = place-in m.state.flat.cores core

register-in : (cores : List CoreState) (i : ℕ) (reg : Reg)
    → unwrap_or (option_map (λ (s : CoreState). value_in s.registers reg) (slice_get cores i)) 0 ≡ value_in (slice_index_or cores i idle).registers reg
register-in [] i reg = refl
register-in (s ∷ ss) zero reg = refl
register-in (s ∷ ss) (suc i) reg = register-in ss i reg

pub register-of : (m : Running) (core : ℕ) (reg : Reg)
    → unwrap_or (option_map (λ (s : CoreState). value_in s.registers reg) (core_numbered m core)) 0 ≡ value_in (core_of m.state.flat core).registers reg
register-of m core reg = register-in m.state.flat.cores core reg

-- what a register was given
pub given-value : (m : Running) (core : ℕ) (reg : Reg) (found : Option ℕ) (value : ℕ)
    → found ≡ option_map (λ (s : CoreState). value_in s.registers reg) (core_numbered m core) → value ≡ unwrap_or found 0
    → record { reg = reg; value = value } ≡ register_given (core_of m.state.flat core).registers reg
given-value m core reg found value found_is value_is =
    let made : ℕ → Given = λ v. record { reg = reg; value = v } in
    ap made (value_is ∙ (ap (λ o. unwrap_or o 0) found_is ∙ register-of m core reg))

pending-in : (cores : List CoreState) (i number : ℕ)
    → option_and_then (λ (s : CoreState). slice_get s.pending number) (slice_get cores i)
    ≡ slice_get (slice_index_or cores i idle).pending number
pending-in [] i number = refl
pending-in (s ∷ ss) zero number = refl
pending-in (s ∷ ss) (suc i) number = pending-in ss i number

pub pending-of : (m : Running) (core number : ℕ) → pending_at m core number ≡ slice_get (core_of m.state.flat core).pending number
pending-of m core number = pending-in m.state.flat.cores core number

-- ---- a list read one after the other

pub read-on : (n : ℕ) (xs done : List Entry) (x : Entry) → n ≡ length done → Some x ≡ slice_get xs n → done ≡ take n xs → done ++ x ∷ [] ≡ take (n + 1) xs
read-on zero (y ∷ ys) done x many found so_far = let e : x ≡ y = cc in ap (λ d. d ++ x ∷ []) so_far ∙ ap (λ z. z ∷ []) e
read-on zero [] done x many found so_far = absurd cc
read-on (suc n) [] done x many found so_far = absurd cc
read-on (suc n) (y ∷ ys) [] x many found so_far = absurd cc
read-on (suc n) (y ∷ ys) (d ∷ ds) x many found so_far =
    let first : d ≡ y = cc in
    let rest : ds ≡ take n ys = cc in
    let size : n ≡ length ds = omega arith in
    let next : suc n + 1 ≡ suc (n + 1) = omega arith in
    ap (λ z. z ∷ (ds ++ x ∷ [])) first ∙ (ap (λ z. y ∷ z) (read-on n ys ds x size found rest) ∙ ap (λ k. take k (y ∷ ys)) (sym next))

pub within : (n : ℕ) (xs : List Entry) (x : Entry) → Some x ≡ slice_get xs n → n < length xs
within zero [] x found = absurd cc
within zero (y ∷ ys) x found = omega arith
within (suc n) [] x found = absurd cc
within (suc n) (y ∷ ys) x found = let h : n < length ys = within n ys x found in omega arith

pub read-all : (n : ℕ) (xs : List Entry) → None ≡ slice_get xs n → take n xs ≡ xs
read-all zero [] found = refl
read-all zero (y ∷ ys) found = absurd cc
read-all (suc n) [] found = refl
read-all (suc n) (y ∷ ys) found = ap (λ z. y ∷ z) (read-all n ys found)

-- one more pending store, and that there is none
pub next-pending : (m : Running) (core n : ℕ) (done : List Entry) (x : Entry) → n ≡ length done → Some x ≡ pending_at m core n
    → done ≡ take (length done) (core_of m.state.flat core).pending → done ++ x ∷ [] ≡ take (length (done ++ x ∷ [])) (core_of m.state.flat core).pending
next-pending m core n done x many found so_far =
    let at : Some x ≡ slice_get (core_of m.state.flat core).pending n = found ∙ pending-of m core n in
    let size : length (done ++ x ∷ []) ≡ n + 1 = length-append done (x ∷ []) ∙ ap (λ k. k + 1) (sym many) in
    read-on n (core_of m.state.flat core).pending done x many at (so_far ∙ ap (λ k. take k (core_of m.state.flat core).pending) (sym many))
    ∙ ap (λ k. take k (core_of m.state.flat core).pending) (sym size)

pub all-pending : (m : Running) (core n : ℕ) (done : List Entry) → n ≡ length done → None ≡ pending_at m core n
    → done ≡ take (length done) (core_of m.state.flat core).pending → done ≡ (core_of m.state.flat core).pending
all-pending m core n done many none so_far =
    so_far ∙ (ap (λ k. take k (core_of m.state.flat core).pending) (sym many) ∙ read-all n (core_of m.state.flat core).pending (none ∙ pending-of m core n))

pub one-pending-fewer : (m : Running) (core n : ℕ) (done after : List Entry) (x : Entry)
    → n ≡ length done
    → Some x ≡ pending_at m core n
    → after ≡ done ++ x ∷ []
    → length (core_of m.state.flat core).pending - length after < length (core_of m.state.flat core).pending - length done
one-pending-fewer m core n done after x many found pushed =
    let l = within n (core_of m.state.flat core).pending x (found ∙ pending-of m core n) in
    let size : length after ≡ length done + 1 = ap length pushed ∙ length-append done (x ∷ []) in
    omega (arith, l, many, size)
