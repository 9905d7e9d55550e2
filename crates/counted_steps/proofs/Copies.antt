-- The copies of a line that other cores give up for a request, core by core.
use Rattle.std.proofs.Common.{◌≡◌, ◌≤◌, ◌+◌, inl, inr, ℕ, zero, suc, Bool, List, [], ◌∷◌, length, None, refl, sym, ap, ◌∙◌, arith}
use Rattle.std.specs.Prelude.{slice_set}
use Rattle.basic_laws.proofs.Basics.{decide, test-true, test-false}
use Rattle.protocol_tables.specs.declared.state.Snoop.{Snoop}
use Rattle.protocol_tables.specs.declared.state.State as protocol
use Rattle.cache_set.specs.CacheTags.{TagSets, sets_of, tag_in, states_by_core}
use Rattle.cache_counts.specs.Traffic.{given_up, given_up_in}
use Rattle.counted_steps.proofs.Sums.{add-both, of_others, sum-later, sum-same, sum_from, unless}

-- 1 where a core gives up its copy
abbrev pub given_at : (protocol.State → Snoop) → ℕ → List TagSets → ℕ → ℕ
given_at column line caches i = given_up column (tag_in (sets_of caches i) line)

plus-one : (n : ℕ) → n + 1 ≡ suc n
plus-one n = omega arith

one-less : (n most : ℕ) → suc n ≤ suc most → n ≤ most
one-less n most l = omega (arith, l)

too-many : (n : ℕ) → suc n ≤ 0 → ⊥
too-many n l = omega (arith, l)

nobody : (column : protocol.State → Snoop) (line most : ℕ) → given_up_in column (states_by_core most line []) ≡ 0
nobody column line zero = refl
nobody column line (suc most) = ap (λ (n : ℕ). 0 + n) (nobody column line most)

nobody-else : (column : protocol.State → Snoop) (line most k : ℕ) → given_up_in column (slice_set (states_by_core most line []) k None) ≡ 0
nobody-else column line zero k = refl
nobody-else column line (suc most) zero = ap (λ (n : ℕ). 0 + n) (nobody column line most)
nobody-else column line (suc most) (suc k) = ap (λ (n : ℕ). 0 + n) (nobody-else column line most k)

-- the sum over all caches but the first
sum-behind : (f g : ℕ → ℕ) → ((i : ℕ) → f (suc i) ≡ g i) → (count : ℕ) → sum_from f 1 count ≡ sum_from g 0 count
sum-behind f g same count = sum-later f 0 count ∙ sum-same (λ i. f (i + 1)) g (λ i. ap f (plus-one i) ∙ same i) 0 count

everybody : (column : protocol.State → Snoop) (line most : ℕ) (caches : List TagSets) → length caches ≤ most
    → given_up_in column (states_by_core most line caches) ≡ sum_from (given_at column line caches) 0 (length caches)
everybody column line most [] few = nobody column line most
everybody column line zero (sets ∷ caches) few = absurd (too-many (length caches) few)
everybody column line (suc most) (sets ∷ caches) few =
    ap (λ (n : ℕ). given_up column (tag_in sets line) + n)
    (everybody column line most caches (one-less (length caches) most few)
    ∙ sym (sum-behind (given_at column line (sets ∷ caches)) (given_at column line caches) (λ i. refl) (length caches)))

later-other : (k : ℕ) (f : ℕ → ℕ) (i : ℕ) → of_others (suc k) f (suc i) ≡ of_others k (λ j. f (suc j)) i
later-other k f i = elim (decide i k) [
  | inl is ↦ ap (λ (b : Bool). unless b (f (suc i))) (test-true (suc i) (suc k) (ap suc is) ∙ sym (test-true i k is))
  | inr apart ↦ ap (λ (b : Bool). unless b (f (suc i))) (test-false (suc i) (suc k) (λ e. apart (omega (arith, e))) ∙ sym (test-false i k apart))
]

first-other : (f : ℕ → ℕ) (i : ℕ) → of_others 0 f (suc i) ≡ f (suc i)
first-other f i = ap (λ (b : Bool). unless b (f (suc i))) (test-false (suc i) 0 (λ e. omega (arith, e)))

before-others : (k : ℕ) (f : ℕ → ℕ) → f 0 ≡ of_others (suc k) f 0
before-others k f = sym (ap (λ (b : Bool). unless b (f 0)) (test-false 0 (suc k) (λ e. omega (arith, e))))

pub others-given : (column : protocol.State → Snoop) (line most k : ℕ) (caches : List TagSets) → length caches ≤ most
    → given_up_in column (slice_set (states_by_core most line caches) k None) ≡ sum_from (of_others k (given_at column line caches)) 0 (length caches)
others-given column line most k [] few = nobody-else column line most k
others-given column line zero k (sets ∷ caches) few = absurd (too-many (length caches) few)
others-given column line (suc most) zero (sets ∷ caches) few =
    let f : ℕ → ℕ = given_at column line (sets ∷ caches) in
    ap (λ (n : ℕ). 0 + n)
    (everybody column line most caches (one-less (length caches) most few)
    ∙ sym (sum-behind (of_others 0 f) (given_at column line caches) (first-other f) (length caches)))
others-given column line (suc most) (suc k) (sets ∷ caches) few =
    let f : ℕ → ℕ = given_at column line (sets ∷ caches) in
    add-both (given_up column (tag_in sets line)) (of_others (suc k) f 0) _ _ (before-others k f)
    (others-given column line most k caches (one-less (length caches) most few)
    ∙ sym (sum-behind (of_others (suc k) f) (of_others k (given_at column line caches)) (later-other k f) (length caches)))
