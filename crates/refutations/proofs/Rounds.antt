-- The rounds of known writes: where one knows no more than the one before, no later one does.
use Rattle.refutations.proofs.Vocabulary.{◌≡◌, ◌<◌, ◌≤◌, ◌+◌, ℕ, zero, suc, Bool, true, List, [], ◌∷◌, arith, refl, sym, ap, ◌∙◌, ◌⊎◌, inl}
use Rattle.refutations.proofs.Vocabulary.{inr, subst, length, pointwise, Litmus, Entry, Source, and-both, Known, events_of, known_writes}
use Rattle.refutations.proofs.Vocabulary.{all_known, writes_from, returned, Option, slice_index_or, left_of, known_first_registers}

pub settled : (t : Litmus) (k : Known) (n all : ℕ) → n ≤ all → known_writes t k (suc n) ≡ known_writes t k n
    → known_writes t k all ≡ known_writes t k n
settled t k n zero l h = let e : zero ≡ n = omega (arith, l) in ap (known_writes t k) e
settled t k n (suc all) l h = elim (split n all l) [
  | inl e ↦ ap (known_writes t k) e
  | inr m ↦ ap (λ ws. writes_from (returned t ws k.sources) 0 t.programs t.registers) (settled t k n all m h) ∙ h
]
  where
    split : (i j : ℕ) → i ≤ suc j → (suc j ≡ i) ⊎ (i ≤ j)
    split i j m = grind arith

-- what a round knows more
pub one-round : (t : Litmus) (k : Known) (n : ℕ) (more writes before : List Entry) (sources : List Source) → before ≡ writes → sources ≡ k.sources
    → more ≡ writes_from (returned t before sources) 0 t.programs t.registers → writes ≡ known_writes t k n → more ≡ known_writes t k (n + 1)
one-round t k n more writes before sources a b is was =
    let e : suc n ≡ n + 1 = omega arith in
    is
    ∙ (ap (λ ss. writes_from (returned t before ss) 0 t.programs t.registers) b
    ∙ (ap (λ ws. writes_from (returned t ws k.sources) 0 t.programs t.registers) (a ∙ was) ∙ ap (known_writes t k) e))

-- the round that knows no more than the one before
pub settled-at : (t : Litmus) (k : Known) (events : List Entry) (n : ℕ) → events ≡ events_of t → n < length events → (more writes before : List Entry)
    (sources : List Source) → before ≡ writes → sources ≡ k.sources
    → more ≡ writes_from (returned t before sources) 0 t.programs t.registers → writes ≡ known_writes t k n → more ≡ writes
    → more ≡ all_known t k
settled-at t k events n e l more writes before sources a b is was same =
    let all : n ≤ length (events_of t) = subst (λ es. n ≤ length es) e (omega (arith, l)) in
    let m : n + 1 ≡ suc n = omega arith in
    let still : known_writes t k (suc n) ≡ known_writes t k n =
    ap (known_writes t k) (sym m) ∙ (sym (one-round t k n more writes before sources a b is was) ∙ (same ∙ was)) in
    same ∙ (was ∙ sym (settled t k n (length (events_of t)) all still))

-- the registers at the end, where all writes were known before
pub with-all : (t : Litmus) (k : Known) (left : List (List (Option ℕ))) (before : List Entry) (sources : List Source)
    → before ≡ all_known t k → sources ≡ k.sources
    → ((core : ℕ) → core < length t.programs → slice_index_or left core []
    ≡ left_of (returned t before sources) core 0 (slice_index_or t.programs core []) (known_first_registers t.registers core))
    → (core : ℕ) → core < length t.programs → slice_index_or left core []
    ≡ left_of (returned t (all_known t k) k.sources) core 0 (slice_index_or t.programs core []) (known_first_registers t.registers core)
with-all t k left before sources a b each core l =
    let all = ap (λ ws. left_of (returned t ws sources) core 0 (slice_index_or t.programs core []) (known_first_registers t.registers core)) a in
    let own = ap (λ ss. left_of (returned t (all_known t k) ss) core 0 (slice_index_or t.programs core []) (known_first_registers t.registers core)) b in
    each core l ∙ (all ∙ own)

-- lists whose entries a test takes for the same, one by one
pub as-same : (E : Entry → Entry → Bool) → ((x y : Entry) → E x y ≡ true → x ≡ y) → (xs ys : List Entry) → pointwise E xs ys ≡ true → xs ≡ ys
as-same E f [] [] h = refl
as-same E f [] (y ∷ ys) h = let z : ⊥ = cc in absurd z
as-same E f (x ∷ xs) [] h = let z : ⊥ = cc in absurd z
as-same E f (x ∷ xs) (y ∷ ys) h =
    let m = and-both (E x y) (pointwise E xs ys) h in
    ap (λ z. z ∷ xs) (f x y m.0) ∙ ap (λ zs. y ∷ zs) (as-same E f xs ys m.1)
