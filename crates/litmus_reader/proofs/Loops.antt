-- Loops that go on with what is left, in some number of steps that is enough.
use Rattle.litmus_reader.proofs.Vocabulary.{◌≡◌, ℕ, zero, suc, ◌≤◌, ◌<◌, sym, ◌∙◌, arith}

-- the total is what the rest gives, in some number of steps that is enough
pub record After {S A : Type 0} (size : S → ℕ) (within : ℕ → S → A) (s : S) (total : A) : Type 0 where
  pub count : ℕ
  pub enough : size s ≤ count
  pub same : within count s ≡ total

-- what the next step gives is the total
pub ends : {S A : Type 0} (size : S → ℕ) (within : ℕ → S → A) (s : S) (r total : A)
    → (size s ≤ 0 → within zero s ≡ r)
    → ((n : ℕ) → within (suc n) s ≡ r)
    → After size within s total
    → total ≡ r
ends size within s r total none some b = by_count b.count b.enough b.same
  where
    by_count : (n : ℕ) → size s ≤ n → within n s ≡ total → total ≡ r
    by_count zero enough same = sym same ∙ none enough
    by_count (suc n) enough same = sym same ∙ some n

-- the next step leads to a smaller rest
pub goes_on : {S A : Type 0} (size : S → ℕ) (within : ℕ → S → A) (s t : S) (total : A)
    → size t < size s
    → ((n : ℕ) → within (suc n) s ≡ within n t)
    → After size within s total
    → After size within t total
goes_on size within s t total smaller step b = by_count b.count b.enough b.same
  where
    by_count : (n : ℕ) → size s ≤ n → within n s ≡ total → After size within t total
    by_count zero enough same = absurd (omega (arith, enough, smaller))
    by_count (suc n) enough same = record { count = n; enough = omega (arith, enough, smaller); same = sym (step n) ∙ same }
