-- The numbers of the states in which a claim is true: one state after the other.
use Rattle.search_report.proofs.Vocabulary.{◌≡◌, ◌∙◌, ◌≤◌, ℕ, suc, ◌+◌, Bool, true, false, if◌then◌else◌, List, [], ◌∷◌, ◌++◌, length, Bor}
use Rattle.search_report.proofs.Vocabulary.{codes, refl, sym, ap, subst, append_assoc, arith, values_of, All-head, All-tail, Claim}
use Rattle.search_report.proofs.Vocabulary.{NamesExist, truth_of, FinalState, outcome_of, true_from, true_in, printed_numbers, kept_of}
use Rattle.search_report.proofs.Vocabulary.{outcomes_at, AllHave}
use Rattle.std.specs.Fmt.{decimal}
use Rattle.search_report.proofs.Truths.{Entries, states-kept}

-- of so many states so many come before the others, and the numbers of these are still to be written; then it is the whole
abbrev pub Numbered : Claim → List ℕ → ℕ → ℕ → List ℕ → List (Bor FinalState) → Type 0
Numbered claim whole many before text rest =
    (text ++ printed_numbers (true_from (before + 1) claim (outcomes_at rest)) ≡ whole) × AllHave claim (outcomes_at rest) × (before + length rest ≡ many)

as-many-values : (es : Entries) → length (values_of es) ≡ length es
as-many-values [] = refl
as-many-values (e ∷ es) = ap suc (as-many-values es)

pub none-numbered : (claim : Claim) (text : List ℕ) (rest : List (Bor FinalState)) (es : Entries) → rest ≡ values_of es → AllHave claim (values_of (kept_of es))
    → Numbered claim (text ++ printed_numbers (true_in claim (values_of (kept_of es)))) (length es) 0 text rest
none-numbered claim text rest es are have =
    let same : outcomes_at rest ≡ values_of (kept_of es) = ap outcomes_at are ∙ sym (states-kept es) in
    let many : length rest ≡ length es = ap length are ∙ as-many-values es in
    (ap (λ states. text ++ printed_numbers (true_from 1 claim states)) same, subst (AllHave claim) (sym same) have, omega (arith, many))

pub next-has : (claim : Claim) (whole : List ℕ) (many before : ℕ) (text : List ℕ) (all rest : List (Bor FinalState))
    (s : Bor FinalState) (registers : List (List ℕ)) (memory : List ℕ)
    → all ≡ s ∷ rest → registers ≡ s.now.registers.items → memory ≡ s.now.memory.items → Numbered claim whole many before text all
    → NamesExist (length registers) (length memory) claim
next-has claim whole many before text all rest s registers memory steps are_registers are_words numbered =
    let has =
    All-head (λ o. NamesExist (length o.registers) (length o.memory) claim) (outcome_of s.now) (outcomes_at rest)
    (subst (λ states. AllHave claim (outcomes_at states)) steps numbered.1) in
    subst (λ r. NamesExist (length r) (length memory) claim) (sym are_registers)
    (subst (λ m. NamesExist (length s.now.registers.items) (length m) claim) (sym are_words) has)

module _ (claim : Claim) (whole : List ℕ) (many before : ℕ) (text : List ℕ) (all rest : List (Bor FinalState))
    (s : Bor FinalState) (registers : List (List ℕ)) (memory : List ℕ) (holds : Bool)
    (steps : all ≡ s ∷ rest) (are_registers : registers ≡ s.now.registers.items)
    (are_words : memory ≡ s.now.memory.items) (is : holds ≡ truth_of registers memory claim)
    (numbered : Numbered claim whole many before text all) where
  abbrev further : List ℕ
  further = true_from (before + 1 + 1) claim (outcomes_at rest)

  count : (before + 1) + length rest ≡ many
  count = let longer : length all ≡ suc (length rest) = ap length steps in let was = numbered.2 in omega (arith, longer, was)

  left : AllHave claim (outcomes_at rest)
  left =
      All-tail (λ o. NamesExist (length o.registers) (length o.memory) claim) (outcome_of s.now) (outcomes_at rest)
      (subst (λ states. AllHave claim (outcomes_at states)) steps numbered.1)

  -- what was still to be written, by the truth in this state
  by-truth : text ++ printed_numbers (if holds then (before + 1) ∷ further else further) ≡ whole
  by-truth =
      let truth : holds ≡ truth_of s.now.registers.items s.now.memory.items claim =
      is ∙ (ap (λ r. truth_of r memory claim) are_registers ∙ ap (λ m. truth_of s.now.registers.items m claim) are_words) in
      ap (λ b. text ++ printed_numbers (if b then (before + 1) ∷ further else further)) truth
      ∙ (sym (ap (λ states. text ++ printed_numbers (true_from (before + 1) claim (outcomes_at states))) steps) ∙ numbered.0)

  pub one-true : (more : List ℕ) → holds ≡ true → more ≡ text ++ (codes " " ++ decimal (before + 1)) → Numbered claim whole many (before + 1) more rest
  one-true more true_here written =
      let number : more ++ printed_numbers further ≡ text ++ printed_numbers ((before + 1) ∷ further) =
      ap (λ x. x ++ printed_numbers further) written
      ∙ (append_assoc text (codes " " ++ decimal (before + 1)) (printed_numbers further)
      ∙ ap (λ x. text ++ x) (append_assoc (codes " ") (decimal (before + 1)) (printed_numbers further))) in (
        number ∙ (sym (ap (λ b. text ++ printed_numbers (if b then (before + 1) ∷ further else further)) true_here) ∙ by-truth),
        left,
        count,
      )

  pub one-false : holds ≡ false → Numbered claim whole many (before + 1) text rest
  one-false false_here =
      (sym (ap (λ b. text ++ printed_numbers (if b then (before + 1) ∷ further else further)) false_here) ∙ by-truth, left, count)

-- one more number fits where so many states do
pub one-more-fits : (claim : Claim) (whole : List ℕ) (many before : ℕ) (text : List ℕ) (all rest : List (Bor FinalState)) (s : Bor FinalState)
    → all ≡ s ∷ rest → Numbered claim whole many before text all → before + 1 ≤ many
one-more-fits claim whole many before text all rest s steps numbered =
    let longer : length all ≡ suc (length rest) = ap length steps in let was = numbered.2 in omega (arith, longer, was)
