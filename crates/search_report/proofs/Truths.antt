-- In how many states a claim is true: one state after the other, and no more than there are.
use Rattle.search_report.proofs.Vocabulary.{◌≡◌, ◌∙◌, ℕ, suc, ◌+◌, ◌-◌, Bool, true, false, not, cond, List, [], ◌∷◌, length, Vec, Bor, Some}
use Rattle.search_report.proofs.Vocabulary.{refl, sym, ap, subst, arith, count_by, values_of, Global, sum_by-cons, All-head, All-tail}
use Rattle.search_report.proofs.Vocabulary.{All-nil, All-cons, Litmus, IsTest, IsCondition, Claim, NamesExist, truth_of, claim_of}
use Rattle.search_report.proofs.Vocabulary.{condition_of, FinalState, Named, Outcome, outcome_of, shown_values, held_in, failed_in}
use Rattle.search_report.proofs.Vocabulary.{IsOutcomeOf, kept_of, outcomes_at, AreShown, AllHave}
use Rattle.tso_terms.specs.declared.condition.Cond.{Cond}

abbrev pub Entries : Type 0
Entries = List (Vec ℕ Global × Bor FinalState)

-- what the test isn't true of is what is left
others-counted : {X : Type 0} (p : X → Bool) (xs : List X) → count_by p xs + count_by (λ x. not (p x)) xs ≡ length xs
others-counted p [] = refl
others-counted p (x ∷ xs) =
    let first : count_by p (x ∷ xs) ≡ cond (p x) 1 0 + count_by p xs = sum_by-cons (λ y. cond (p y) 1 0) x xs in
    let second : count_by (λ y. not (p y)) (x ∷ xs) ≡ cond (not (p x)) 1 0 + count_by (λ y. not (p y)) xs = sum_by-cons (λ y. cond (not (p y)) 1 0) x xs in
    let one : cond (p x) 1 0 + cond (not (p x)) 1 0 ≡ 1 = by_test (p x) in
    omega (arith, first, second, one, others-counted p xs)
  where
    by_test : (b : Bool) → cond b 1 0 + cond (not b) 1 0 ≡ 1
    by_test true = refl
    by_test false = refl

pub states-kept : (es : Entries) → values_of (kept_of es) ≡ outcomes_at (values_of es)
states-kept [] = refl
states-kept (e ∷ es) = ap (λ rest. outcome_of e.1.now ∷ rest) (states-kept es)

pub as-many : (es : Entries) → length (values_of (kept_of es)) ≡ length es
as-many [] = refl
as-many (e ∷ es) = ap suc (as-many es)

pub failed-left : (claim : Claim) (es : Entries) (len held : ℕ) → len ≡ length es → held ≡ held_in claim (values_of (kept_of es))
    → len - held ≡ failed_in claim (values_of (kept_of es))
failed-left claim es len held all some =
    omega (arith, all, some, as-many es, others-counted (λ (o : Outcome). truth_of o.registers o.memory claim) (values_of (kept_of es)))

-- ---- one state after the other

-- so many were counted, and the others are there to be counted
abbrev pub Counts : Claim → ℕ → List (Bor FinalState) → Entries → Type 0
Counts claim held rest es =
    (held + held_in claim (outcomes_at rest) ≡ held_in claim (outcomes_at (values_of es))) × AllHave claim (outcomes_at rest)

pub none-counted : (claim : Claim) (rest : List (Bor FinalState)) (es : Entries)
    → rest ≡ values_of es
    → AllHave claim (values_of (kept_of es))
    → Counts claim 0 rest es
none-counted claim rest es are have =
    let all = ap (λ states. held_in claim (outcomes_at states)) are in (
      omega (arith, all),
      subst (AllHave claim) (states-kept es ∙ ap outcomes_at (sym are)) have,
    )

pub next-has : (claim : Claim) (held : ℕ) (all rest : List (Bor FinalState)) (es : Entries) (s : Bor FinalState) (registers : List (List ℕ)) (memory : List ℕ)
    → all ≡ s ∷ rest → registers ≡ s.now.registers.items → memory ≡ s.now.memory.items → Counts claim held all es
    → NamesExist (length registers) (length memory) claim
next-has claim held all rest es s registers memory steps are_registers are_words counts =
    let has =
    All-head (λ o. NamesExist (length o.registers) (length o.memory) claim) (outcome_of s.now) (outcomes_at rest)
    (subst (λ states. AllHave claim (outcomes_at states)) steps counts.1) in
    subst (λ r. NamesExist (length r) (length memory) claim) (sym are_registers)
    (subst (λ m. NamesExist (length s.now.registers.items) (length m) claim) (sym are_words) has)

next-counts : (claim : Claim) (held n : ℕ) (all rest : List (Bor FinalState)) (es : Entries) (s : Bor FinalState)
    (registers : List (List ℕ)) (memory : List ℕ) (holds : Bool)
    → all ≡ s ∷ rest → registers ≡ s.now.registers.items → memory ≡ s.now.memory.items → holds ≡ truth_of registers memory claim → n ≡ cond holds 1 0
    → Counts claim held all es → Counts claim (held + n) rest es
next-counts claim held n all rest es s registers memory holds steps are_registers are_words is one counts =
    let truth : holds ≡ truth_of s.now.registers.items s.now.memory.items claim =
    is ∙ (ap (λ r. truth_of r memory claim) are_registers ∙ ap (λ m. truth_of s.now.registers.items m claim) are_words) in
    let split : held_in claim (outcomes_at (s ∷ rest)) ≡ cond (truth_of s.now.registers.items s.now.memory.items claim) 1 0 + held_in claim (outcomes_at rest) =
    sum_by-cons (λ (o : Outcome). cond (truth_of o.registers o.memory claim) 1 0) (outcome_of s.now) (outcomes_at rest) in
    let first : held_in claim (outcomes_at all) ≡ n + held_in claim (outcomes_at rest) =
    ap (λ states. held_in claim (outcomes_at states)) steps
    ∙ (split ∙ ap (λ k. k + held_in claim (outcomes_at rest)) (sym (one ∙ ap (λ b. cond b 1 0) truth))) in (
      omega (arith, first, counts.0),
      All-tail (λ o. NamesExist (length o.registers) (length o.memory) claim) (outcome_of s.now) (outcomes_at rest)
          (subst (λ states. AllHave claim (outcomes_at states)) steps counts.1),
    )

pub one-held : (claim : Claim) (held : ℕ) (all rest : List (Bor FinalState)) (es : Entries) (s : Bor FinalState)
    (registers : List (List ℕ)) (memory : List ℕ) (holds : Bool)
    → all ≡ s ∷ rest → registers ≡ s.now.registers.items → memory ≡ s.now.memory.items → holds ≡ truth_of registers memory claim → holds ≡ true
    → Counts claim held all es → Counts claim (held + 1) rest es
one-held claim held all rest es s registers memory holds steps are_registers are_words is true_here counts =
    next-counts claim held 1 all rest es s registers memory holds steps are_registers are_words is (ap (λ b. cond b 1 0) (sym true_here)) counts

pub one-failed : (claim : Claim) (held : ℕ) (all rest : List (Bor FinalState)) (es : Entries) (s : Bor FinalState)
    (registers : List (List ℕ)) (memory : List ℕ) (holds : Bool)
    → all ≡ s ∷ rest → registers ≡ s.now.registers.items → memory ≡ s.now.memory.items → holds ≡ truth_of registers memory claim → holds ≡ false
    → Counts claim held all es → Counts claim held rest es
one-failed claim held all rest es s registers memory holds steps are_registers are_words is false_here counts =
    let same : held + 0 ≡ held = omega arith in
    subst (λ n. Counts claim n rest es) same
    (next-counts claim held 0 all rest es s registers memory holds steps are_registers are_words is (ap (λ b. cond b 1 0) (sym false_here)) counts)

pub all-counted : (claim : Claim) (held : ℕ) (rest : List (Bor FinalState)) (es : Entries)
    → rest ≡ []
    → Counts claim held rest es
    → held ≡ held_in claim (values_of (kept_of es))
all-counted claim held rest es none counts =
    let last : held_in claim (outcomes_at rest) ≡ 0 = ap (λ states. held_in claim (outcomes_at states)) none in
    let all : held_in claim (outcomes_at (values_of es)) ≡ held_in claim (values_of (kept_of es)) = ap (held_in claim) (sym (states-kept es)) in
    omega (arith, last, all, counts.0)

-- ---- what the test's condition names is there

pub has-names : (t : Litmus) (c : Cond) (o : Outcome)
    → IsTest t
    → Some (condition_of c) ≡ t.condition
    → IsOutcomeOf t o
    → NamesExist (length o.registers) (length o.memory) (claim_of c.prop)
has-names t c o test is whole =
    let fits : IsCondition (length t.programs) (length t.locations) (condition_of c) =
    test.condition_fits (condition_of c) (sym is) in
    subst (λ n. NamesExist n (length o.memory) (claim_of c.prop)) (sym whole.registers)
    (subst (λ n. NamesExist (length t.programs) n (claim_of c.prop)) (sym whole.memory) fits.names_known)

pub all-have : (t : Litmus) (names : List Named) (c : Cond) (kept : List (List ℕ × Outcome))
    → IsTest t
    → Some (condition_of c) ≡ t.condition
    → AreShown t names kept
    → AllHave (claim_of c.prop) (values_of kept)
all-have t names c [] test is shown = All-nil (λ o. NamesExist (length o.registers) (length o.memory) (claim_of c.prop))
all-have t names c (k ∷ kept) test is shown =
    let Is : List ℕ × Outcome → Type 0 = λ x. (x.0 ≡ shown_values names x.1) × IsOutcomeOf t x.1 in
    All-cons (λ o. NamesExist (length o.registers) (length o.memory) (claim_of c.prop)) k.1 (values_of kept)
    (has-names t c k.1 test is (All-head Is k kept shown).1) (all-have t names c kept test is (All-tail Is k kept shown))

-- the names that the condition has are there in one state
pub names-there : (t : Litmus) (c : Cond) (f : FinalState) (registers : List (List ℕ)) (memory : List ℕ)
    → IsTest t
    → Some (condition_of c) ≡ t.condition
    → IsOutcomeOf t (outcome_of f)
    → registers ≡ f.registers.items → memory ≡ f.memory.items → NamesExist (length registers) (length memory) (claim_of c.prop)
names-there t c f registers memory test is whole are_registers are_words =
    subst (λ r. NamesExist (length r) (length memory) (claim_of c.prop)) (sym are_registers)
    (subst (λ m. NamesExist (length f.registers.items) (length m) (claim_of c.prop)) (sym are_words) (has-names t c (outcome_of f) test is whole))
