-- What is written of the states that are kept.
use Rattle.search_report.proofs.Vocabulary.{◌≡◌, ◌∙◌, ℕ, Bool, Option, Some, codes, Condition, held_in, failed_in, true_in, printed_numbers}
use Rattle.search_report.proofs.Vocabulary.{List, [], ◌∷◌, ◌++◌, map, length, Vec, Bor, refl, sym, ap, subst, append_assoc, values_of}
use Rattle.search_report.proofs.Vocabulary.{Global, length-map, All-head, All-tail, Litmus, FinalState, shown_value, Named, Outcome}
use Rattle.search_report.proofs.Vocabulary.{outcome_of, shown_values, state_line, by_line, outcome_lines, outcomes_line, condition_lines}
use Rattle.search_report.proofs.Vocabulary.{outcomes_text, holds_in, state_value, IsOutcomeOf, kept_of, AreShown, kept_lines, kept_values}
use Rattle.tso_report.specs.declared.arrays.Array.{Array}
use Rattle.tso_report.specs.inner.Arrays.{IsBegun}
use Rattle.tso_report.specs.Report.{line, test_line}
use Rattle.tso_report.specs.Tally.{observed_line}
use Rattle.search_report.specs.Verdict.{is_met, verdict_line}
use Rattle.search_report.proofs.Truths.{Entries, as-many}

abbrev Is : Litmus → List Named → List ℕ × Outcome → Type 0
Is t names k = (k.0 ≡ shown_values names k.1) × IsOutcomeOf t k.1

-- ---- as if the values weren't kept beside the states

pub lines-shown : (t : Litmus) (names : List Named) (kept : List (List ℕ × Outcome))
    → AreShown t names kept
    → kept_lines t names kept ≡ outcome_lines t names (values_of kept)
lines-shown t names [] shown = refl
lines-shown t names (k ∷ kept) shown =
    ap (λ v. state_line t names v ++ (by_line k.1.choices ++ kept_lines t names kept)) (All-head (Is t names) k kept shown).0
    ∙ ap (λ rest. state_line t names (shown_values names k.1) ++ (by_line k.1.choices ++ rest)) (lines-shown t names kept (All-tail (Is t names) k kept shown))

values-shown : (t : Litmus) (names : List Named) (kept : List (List ℕ × Outcome)) → AreShown t names kept
    → kept_values t names kept ≡ map (λ o. state_value t names (shown_values names o) o.choices (holds_in t.condition o)) (values_of kept)
values-shown t names [] shown = refl
values-shown t names (k ∷ kept) shown =
    ap (λ v. state_value t names v k.1.choices (holds_in t.condition k.1) ∷ kept_values t names kept) (All-head (Is t names) k kept shown).0
    ∙ ap (λ rest. state_value t names (shown_values names k.1) k.1.choices (holds_in t.condition k.1) ∷ rest)
    (values-shown t names kept (All-tail (Is t names) k kept shown))

-- ---- the text, put together from its parts

pub four-parts : (a b c d first second third all : List ℕ)
    → first ≡ a
    → second ≡ first ++ b
    → third ≡ second ++ c
    → all ≡ third ++ d
    → all ≡ a ++ (b ++ (c ++ d))
four-parts a b c d first second third all is_first is_second is_third is =
    is ∙ (ap (λ x. x ++ d) (is_third ∙ ap (λ x. x ++ c) (is_second ∙ ap (λ x. x ++ b) is_first))
    ∙ (append_assoc (a ++ b) c d ∙ append_assoc a b (c ++ d)))

pub text-whole : (t : Litmus) (names : List Named) (depth n : ℕ) (es : Entries) (empty first second third all : List ℕ)
    → AreShown t names (kept_of es)
    → n ≡ length es
    → empty ≡ []
    → first ≡ empty ++ test_line t → second ≡ first ++ outcomes_line depth n → third ≡ second ++ kept_lines t names (kept_of es)
    → all ≡ third ++ condition_lines t.name t.condition (values_of (kept_of es)) → all ≡ outcomes_text t names depth (values_of (kept_of es))
text-whole t names depth n es empty first second third all shown many none is_first is_second is_third is =
    four-parts (test_line t) (outcomes_line depth (length (values_of (kept_of es)))) (outcome_lines t names (values_of (kept_of es)))
    (condition_lines t.name t.condition (values_of (kept_of es))) first second third all
    (is_first ∙ ap (λ x. x ++ test_line t) none)
    (is_second ∙ ap (λ k. first ++ outcomes_line depth k) (many ∙ sym (as-many es)))
    (is_third ∙ ap (λ x. second ++ x) (lines-shown t names (kept_of es) shown))
    is

-- what is said of a condition, put together from its parts
abbrev said : List ℕ → List ℕ → List ℕ → ℕ → ℕ → List ℕ → List ℕ
said empty numbers name held failed verdict = empty ++ (observed_line name held failed ++ ((codes "True" ++ line numbers) ++ verdict))

said-together : (a b d e g w : List ℕ) → ((((a ++ b) ++ d) ++ e) ++ g) ++ w ≡ a ++ (b ++ ((d ++ (e ++ g)) ++ w))
said-together a b d e g w = simp append_assoc

pub condition-whole : (t : Litmus) (c : Condition) (o : Option Condition) (outcomes : List Outcome) (name : List ℕ) (held failed : ℕ) (met : Bool)
    (empty first second third fourth all : List ℕ) → Some c ≡ o → name ≡ t.name → held ≡ held_in c.claim outcomes → failed ≡ failed_in c.claim outcomes
    → met ≡ is_met c.quantifier held failed → first ≡ empty ++ observed_line name held failed → second ≡ first ++ codes "True"
    → third ≡ second ++ printed_numbers (true_in c.claim outcomes) → fourth ≡ third ++ (10 ∷ []) → all ≡ fourth ++ verdict_line o met
    → all ≡ empty ++ condition_lines t.name o outcomes
condition-whole t c o outcomes name held failed met empty first second third fourth all is n h f m is_first is_second is_third is_fourth is_all =
    let numbers = printed_numbers (true_in c.claim outcomes) in
    is_all
    ∙ (ap (λ z. z ++ verdict_line o met)
    (is_fourth
    ∙ ap (λ z. z ++ (10 ∷ [])) (is_third ∙ ap (λ z. z ++ numbers) (is_second ∙ ap (λ z. z ++ codes "True") is_first)))
    ∙ (said-together empty (observed_line name held failed) (codes "True") numbers (10 ∷ []) (verdict_line o met)
    ∙ (ap (λ x. said empty numbers name held failed (verdict_line x met)) (sym is)
    ∙ (ap (λ b. said empty numbers name held failed (verdict_line (Some c) b)) m
    ∙ (ap (λ x. said empty numbers x held failed (verdict_line (Some c) (is_met c.quantifier held failed))) n
    ∙ (ap (λ x. said empty numbers t.name x failed (verdict_line (Some c) (is_met c.quantifier x failed))) h
    ∙ (ap (λ x. said empty numbers t.name (held_in c.claim outcomes) x (verdict_line (Some c) (is_met c.quantifier (held_in c.claim outcomes) x))) f
    ∙ ap (λ x. empty ++ condition_lines t.name x outcomes) is)))))))

-- ---- the values of one state after the other

-- the array has those that were made, and the others are there to be made
abbrev pub Made : Litmus → List Named → Array → Entries → Entries → Type 0
Made t names done rest es = IsBegun done (kept_values t names (kept_of rest)) (kept_values t names (kept_of es)) × AreShown t names (kept_of rest)

-- the next one has a value for each name, and is a state of the test
pub as-named : (t : Litmus) (names : List Named) (done : Array) (all rest es : Entries) (v : Vec ℕ Global) (s : Bor FinalState) (values : List ℕ)
    → all ≡ (v, s) ∷ rest → values ≡ v.items → Made t names done all es → length values ≡ length names
as-named t names done all rest es v s values steps are_values made =
    let o = outcome_of s.now in
    let shown : v.items ≡ shown_values names o =
    (All-head (Is t names) (
      v.items,
      o,
    ) (kept_of rest) (subst (λ entries. AreShown t names (kept_of entries)) steps made.1)).0 in
    ap length (are_values ∙ shown) ∙ length-map names (shown_value o.registers o.memory)

pub is-whole : (t : Litmus) (names : List Named) (done : Array) (all rest es : Entries) (v : Vec ℕ Global) (s : Bor FinalState)
    → all ≡ (v, s) ∷ rest → Made t names done all es → IsOutcomeOf t (outcome_of s.now)
is-whole t names done all rest es v s steps made =
    (All-head (Is t names) (v.items, outcome_of s.now) (kept_of rest) (subst (λ entries. AreShown t names (kept_of entries)) steps made.1)).1

-- the next one is to be made, and then the others
pub next-made : (t : Litmus) (names : List Named) (done : Array) (all rest es : Entries) (v : Vec ℕ Global) (s : Bor FinalState) (values : List ℕ)
    → all ≡ (v, s) ∷ rest → values ≡ v.items → Made t names done all es
    → IsBegun done (state_value t names values s.now.choices.items (holds_in t.condition (outcome_of s.now))
    ∷ kept_values t names (kept_of rest))
    (kept_values t names (kept_of es))
next-made t names done all rest es v s values steps are_values made =
    let whole = kept_values t names (kept_of es) in
    let value = λ (x : List ℕ). state_value t names x s.now.choices.items (holds_in t.condition (outcome_of s.now)) in
    subst (λ x. IsBegun done (value x ∷ kept_values t names (kept_of rest)) whole) (sym are_values)
    (subst (λ entries. IsBegun done (kept_values t names (kept_of entries)) whole) steps made.0)

pub others-shown : (t : Litmus) (names : List Named) (done : Array) (all rest es : Entries) (v : Vec ℕ Global) (s : Bor FinalState)
    → all ≡ (v, s) ∷ rest → Made t names done all es → AreShown t names (kept_of rest)
others-shown t names done all rest es v s steps made =
    All-tail (Is t names) (v.items, outcome_of s.now) (kept_of rest) (subst (λ entries. AreShown t names (kept_of entries)) steps made.1)

pub all-made : (t : Litmus) (names : List Named) (done : Array) (rest es : Entries) → rest ≡ [] → AreShown t names (kept_of es) → Made t names done rest es
    → IsBegun done [] (map (λ o. state_value t names (shown_values names o) o.choices (holds_in t.condition o)) (values_of (kept_of es)))
all-made t names done rest es none shown made =
    subst (IsBegun done []) (values-shown t names (kept_of es) shown)
    (subst (λ entries. IsBegun done (kept_values t names (kept_of entries)) (kept_values t names (kept_of es))) none made.0)
