-- The lines of `outcomes` tell the states, and in which the condition's proposition is true.
use Rattle.printed_laws.proofs.Vocabulary.{◌≡◌, ℕ, ◌^◌, ◌<◌, true, false, List, [], ◌∷◌, ◌++◌, get_or, drop, refl, sym, ap, ◌∙◌, Option}
use Rattle.printed_laws.proofs.Vocabulary.{length, All, Some, None, map, decimal, list_all, append_cancel_left, append_assoc, codes, line}
use Rattle.printed_laws.proofs.Vocabulary.{test_line, Litmus, is_printable, Condition, IsStateAt, Named, printed_values, names_shown}
use Rattle.printed_laws.proofs.Vocabulary.{Choice, Drain, printed_choice, printed_after, printed_choices, Outcome, shown_values}
use Rattle.printed_laws.proofs.Vocabulary.{outcomes_line, outcome_lines, condition_lines, alike, OutcomesTellTheirStates}
use Rattle.printed_laws.proofs.Vocabulary.{OutcomesTellTheirTests}
use Rattle.tso_terms.specs.declared.choice.Choice.TheVariants.{Step}
use Rattle.printed_laws.proofs.texts.Cutting.{unlike, run-cut, filled-cut}
use Rattle.printed_laws.proofs.texts.Lists.{Tells, list-cut}
use Rattle.printed_laws.proofs.reports.Heads.{printable-name}
use Rattle.printed_laws.proofs.reports.Sweeps.{NoState, values-cut}
use Rattle.printed_laws.proofs.texts.Digits.{is_other, both-other, number-in-line}

-- ---- choices

choice-in-line : (c : Choice) → list_all (is_other 10) (printed_choice c) ≡ true
choice-in-line (Step core) = both-other 10 (decimal core.0) (codes "s") (number-in-line core.0) refl
choice-in-line (Drain core) = both-other 10 (decimal core.0) (codes "d") (number-in-line core.0) refl

pub choices-in-line : (cs : List Choice) → list_all (is_other 10) (printed_after cs) ≡ true
choices-in-line [] = refl
choices-in-line (c ∷ cs) = both-other 10 (printed_choice c) (printed_after cs) (choice-in-line c) (choices-in-line cs)

without-space : (cs : List Choice) → printed_choices cs ≡ drop 1 (printed_after cs)
without-space [] = refl
without-space (c ∷ cs) = refl

-- ---- states

abbrev pub choices_of : List Outcome → List (List ℕ)
choices_of outcomes = map (λ o. printed_choices o.choices) outcomes

module _ (t : Litmus) (names : List Named) where
  abbrev IsState : Outcome → Type 0
  IsState o = IsStateAt names (shown_values names o)

  abbrev text : Outcome → List ℕ
  text o = (codes "State" ++ line (printed_values t names (shown_values names o))) ++ (codes "By" ++ line (printed_after o.choices))

  text-flat : (values choices rest : List ℕ)
      → ((codes "State" ++ line values) ++ (codes "By" ++ line choices)) ++ rest
      ≡ codes "State" ++ (values ++ 10 ∷ (codes "By" ++ (choices ++ 10 ∷ rest)))
  text-flat values choices rest = simp append_assoc

  text-cut : Tells {B = List ℕ × List ℕ} IsState (λ rest. Unit) text (λ o. (shown_values names o, printed_choices o.choices))
  text-cut x y rest other p q f f' e =
      let values = λ (o : Outcome). printed_values t names (shown_values names o) in
      let by = λ (o : Outcome) (after : List ℕ). printed_after o.choices ++ 10 ∷ after in
      let flat = sym (text-flat (values x) (printed_after x.choices) rest) ∙ (e ∙ text-flat (values y) (printed_after y.choices) other) in
      let shown =
      values-cut t names (shown_values names x) (shown_values names y) (10 ∷ (codes "By" ++ by x rest))
      (10 ∷ (codes "By" ++ by y other)) p.each q.each p.words q.words refl refl
      (append_cancel_left (codes "State") _ _ flat) in
      let choices =
      run-cut (is_other 10) (printed_after x.choices) (printed_after y.choices) (10 ∷ rest) (10 ∷ other)
      (choices-in-line x.choices) (choices-in-line y.choices) refl refl
      (append_cancel_left (10 ∷ codes "By") (by x rest) (by y other) shown.1) in
      let same = without-space x.choices ∙ (ap (λ (l : List ℕ). drop 1 l) choices.0 ∙ sym (without-space y.choices)) in
      ((λ i. (shown.0 i, same i)), append_cancel_left (10 ∷ []) rest other choices.1)

  -- what each state's text tells, of all of them
  lines-cut : {B : Type 0} (told : Outcome → B)
      → Tells IsState (λ rest. Unit) text told
      → (xs ys : List Outcome) (rest other : List ℕ)
      → All IsState xs
      → All IsState ys
      → NoState rest → NoState other → outcome_lines t names xs ++ rest ≡ outcome_lines t names ys ++ other → map told xs ≡ map told ys
  lines-cut told each xs ys rest other p q f f' e =
      (list-cut IsState (λ rest. Unit) NoState (λ n. text) (λ n. outcome_lines t names) told (λ n. refl)
      (λ n x xs.
      sym (append_assoc (codes "State" ++ line (printed_values t names (shown_values names x)))
      (codes "By" ++ line (printed_after x.choices)) (outcome_lines t names xs)))
      (λ n. each) (λ n xs rest all f. tt) (λ n x more rest fits f e. unlike 0 _ rest f e) 0 xs ys rest other p q f f' e).0

no-state : (name : List ℕ) (condition : Option Condition) (xs : List Outcome) → NoState (condition_lines name condition xs)
no-state name None xs = refl
no-state name (Some c) xs = refl

-- ---- all lines

first-flat : (depth states rest : List ℕ) → (codes "Outcomes depth=" ++ (depth ++ (codes " states=" ++ line states))) ++ rest
    ≡ codes "Outcomes depth=" ++ (depth ++ (codes " states=" ++ (states ++ 10 ∷ rest)))
first-flat depth states rest = simp append_assoc

first-cut : (depth other_depth states other_states : ℕ) (rest other : List ℕ) → depth < 2 ^ 64 → other_depth < 2 ^ 64 → states < 2 ^ 64 → other_states < 2 ^ 64
    → outcomes_line depth states ++ rest ≡ outcomes_line other_depth other_states ++ other → (depth ≡ other_depth) × (rest ≡ other)
first-cut depth other_depth states other_states rest other p p' q q' e =
    let cut =
    filled-cut (codes "Outcomes depth=" ∷ codes " states=" ∷ []) (depth ∷ states ∷ [])
    (other_depth ∷ other_states ∷ []) (10 ∷ rest) (10 ∷ other) refl refl refl (p, (q, tt)) (p', (q', tt)) refl refl
    (sym (first-flat (decimal depth) (decimal states) rest) ∙ (e ∙ first-flat (decimal other_depth) (decimal other_states) other)) in
    (ap (λ (l : List ℕ). get_or l 0 0) cut.0, append_cancel_left (10 ∷ []) rest other cut.1)

pub lines-tell : OutcomesTellTheirStates false
lines-tell show t depth other_depth xs ys test p p' fit fit' e =
    let names = names_shown show t in
    let said = λ (outcomes : List Outcome). condition_lines t.name t.condition outcomes in
    let named = append_cancel_left (test_line t) _ _ e in
    let first =
    first-cut depth other_depth (length xs) (length ys) (outcome_lines t names xs ++ said xs)
    (outcome_lines t names ys ++ said ys) p p' fit.few fit'.few named in
    let each = text-cut t names in
    let shown =
    lines-cut t names (shown_values names)
    (λ x y rest other p q f f' e. let cut = each x y rest other p q f f' e in
    (ap (λ (o : List ℕ × List ℕ). o.0) cut.0, cut.1))
    xs ys (said xs) (said ys) in
    let choices =
    lines-cut t names (λ o. printed_choices o.choices)
    (λ x y rest other p q f f' e. let cut = each x y rest other p q f f' e in
    (ap (λ (o : List ℕ × List ℕ). o.1) cut.0, cut.1))
    xs ys (said xs) (said ys) in
    let none = no-state t.name t.condition in (
      first.0,
      record {
        alike = alike show t xs ys test (shown fit.states fit'.states (none xs) (none ys) first.1);
        choices = choices fit.states fit'.states (none xs) (none ys) first.1;
      },
    )

test-flat : (name rest : List ℕ) → (codes "Test " ++ line name) ++ rest ≡ codes "Test " ++ (name ++ 10 ∷ rest)
test-flat name rest = simp append_assoc

pub lines-name : OutcomesTellTheirTests false
lines-name t u names others_names depth other_depth xs ys test test' p p' fit fit' e =
    let after = outcomes_line depth (length xs) ++ (outcome_lines t names xs ++ condition_lines t.name t.condition xs) in
    let after' = outcomes_line other_depth (length ys) ++ (outcome_lines u others_names ys ++ condition_lines u.name u.condition ys) in
    let flat = sym (test-flat t.name after) ∙ (e ∙ test-flat u.name after') in
    let begun = append_cancel_left (codes "Test ") (t.name ++ 10 ∷ after) (u.name ++ 10 ∷ after') flat in
    let name =
    run-cut is_printable t.name u.name (10 ∷ after) (10 ∷ after') (printable-name t.name test.name_spelled)
    (printable-name u.name test'.name_spelled) refl refl begun in
    (name.0, (first-cut depth other_depth (length xs) (length ys) _ _ p p' fit.few fit'.few (append_cancel_left (10 ∷ []) after after' name.1)).0)
