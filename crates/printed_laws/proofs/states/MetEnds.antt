-- How the text of a search that met its limit ends: in the verdict that one of its states decides, or in none.
use Rattle.printed_laws.proofs.Vocabulary.{◌≡◌, ◌∙◌, ℕ, Bool, true, false, List, [], ◌∷◌, ◌++◌, refl, sym, ap, subst, length, Some, decimal}
use Rattle.printed_laws.proofs.Vocabulary.{list_all, append_assoc, append-nil, append_cancel_right, no_members, member, codes, line, Litmus}
use Rattle.printed_laws.proofs.Vocabulary.{Condition, Named, Choice, printed_values, printed_after, shown_values, Outcome, outcome_lines}
use Rattle.printed_laws.proofs.Vocabulary.{printed_numbers, is_met_in, verdict_word, is_well, unfinished_search_in, EndsInWord}
use Rattle.search_report.specs.MetOutcomes.{unfinished_outcomes_line, met_line, met_text, met_value, met_json, decided_line, decided_value}
use Rattle.printed_laws.proofs.texts.Cutting.{unlike}
use Rattle.printed_laws.proofs.texts.Digits.{is_other, both-other, number-in-line, last-cut}
use Rattle.printed_laws.proofs.texts.Endings.{EndsIn, behind, line-feed, verdict_tail, no-verdict-null, object-ends, object-ends-undecided}
use Rattle.printed_laws.proofs.states.LastLines.{behind-feed}
use Rattle.printed_laws.proofs.states.OutcomeLines.{choices-in-line}

-- ---- the last line of a text, without its line feed

record LastLine (last text : List ℕ) : Type 0 where
  front : List ℕ
  text_is : text ≡ (front ++ 10 ∷ last) ++ 10 ∷ []
  plain : list_all (is_other 10) last ≡ true

last-is-one : (last other text : List ℕ) → LastLine last text → LastLine other text → last ≡ other
last-is-one last other text p q =
    (last-cut 10 p.front q.front last other p.plain q.plain
    (append_cancel_right (p.front ++ 10 ∷ last) (q.front ++ 10 ∷ other) (10 ∷ []) (sym p.text_is ∙ q.text_is))).1

-- the two last lines
record TwoLines (before last text : List ℕ) : Type 0 where
  front : List ℕ
  text_is : text ≡ ((front ++ 10 ∷ before) ++ 10 ∷ last) ++ 10 ∷ []
  plain_before : list_all (is_other 10) before ≡ true
  plain_last : list_all (is_other 10) last ≡ true

before-is-one : (before last other other_last text : List ℕ) → TwoLines before last text → TwoLines other other_last text → before ≡ other
before-is-one before last other other_last text p q =
    let lines =
    append_cancel_right ((p.front ++ 10 ∷ before) ++ 10 ∷ last) ((q.front ++ 10 ∷ other) ++ 10 ∷ other_last)
    (10 ∷ []) (sym p.text_is ∙ q.text_is) in
    let cut = last-cut 10 (p.front ++ 10 ∷ before) (q.front ++ 10 ∷ other) last other_last p.plain_last q.plain_last lines in
    (last-cut 10 p.front q.front before other p.plain_before q.plain_before cut.0).1

pub verdict-in-line : (verdict : Bool) → list_all (is_other 10) (codes "Verdict " ++ verdict_word verdict) ≡ true
verdict-in-line true = refl
verdict-in-line false = refl

verdict-flat : (front word : List ℕ) → front ++ (codes "\nVerdict " ++ line word) ≡ (front ++ 10 ∷ (codes "Verdict " ++ word)) ++ 10 ∷ []
verdict-flat front word = sym (append_assoc front (10 ∷ (codes "Verdict " ++ word)) (10 ∷ []))

verdict-last : (verdict : Bool) (text : List ℕ) → EndsIn (verdict_tail false verdict) text → LastLine (codes "Verdict " ++ verdict_word verdict) text
verdict-last verdict text e = record { front = e.0; text_is = e.1 ∙ verdict-flat e.0 (verdict_word verdict); plain = verdict-in-line verdict }

-- ---- of states

by-plain : (choices : List Choice) → list_all (is_other 10) (codes "By" ++ printed_after choices) ≡ true
by-plain choices = both-other 10 (codes "By") (printed_after choices) refl (choices-in-line choices)

one-flat : (xs values choices : List ℕ)
    → xs ++ ((codes "State" ++ line values) ++ (codes "By" ++ line choices))
    ≡ ((xs ++ (codes "State" ++ values)) ++ 10 ∷ (codes "By" ++ choices)) ++ 10 ∷ []
one-flat xs values choices = simp append_assoc

one-more : (xs state by rest : List ℕ) → xs ++ (state ++ (by ++ rest)) ≡ (xs ++ (state ++ by)) ++ rest
one-more xs state by rest = simp append_assoc

record EndsInBy (text : List ℕ) : Type 0 where
  choices : List Choice
  last : LastLine (codes "By" ++ printed_after choices) text

-- the last line of some states is `By`
ends-in-by : (t : Litmus) (names : List Named) (xs : List ℕ) (o : Outcome) (os : List Outcome) → EndsInBy (xs ++ outcome_lines t names (o ∷ os))
ends-in-by t names xs o [] =
    let values = printed_values t names (shown_values names o) in
    let choices = printed_after o.choices in
    record {
      choices = o.choices;
      last = record {
        front = xs ++ (codes "State" ++ values);
        text_is = ap (λ (l : List ℕ). xs ++ ((codes "State" ++ line values) ++ l)) (append-nil (codes "By" ++ line choices)) ∙ one-flat xs values choices;
        plain = by-plain o.choices;
      };
    }
ends-in-by t names xs o (p ∷ os) =
    let state = codes "State" ++ line (printed_values t names (shown_values names o)) in
    let by = codes "By" ++ line (printed_after o.choices) in
    subst EndsInBy (sym (one-more xs state by (outcome_lines t names (p ∷ os)))) (ends-in-by t names (xs ++ (state ++ by)) p os)

-- a line feed behind states
feeds : (t : Litmus) (names : List Named) (xs : List ℕ) → EndsIn (10 ∷ []) xs → (os : List Outcome) → EndsIn (10 ∷ []) (xs ++ outcome_lines t names os)
feeds t names xs first [] = subst (EndsIn (10 ∷ [])) (sym (append-nil xs)) first
feeds t names xs first (o ∷ os) =
    let state = codes "State" ++ line (printed_values t names (shown_values names o)) in
    let by = codes "By" ++ line (printed_after o.choices) in
    subst (EndsIn (10 ∷ [])) (sym (one-more xs state by (outcome_lines t names os)))
    (feeds t names (xs ++ (state ++ by))
    (behind xs (state ++ by) (10 ∷ []) (behind state by (10 ∷ []) (behind (codes "By") _ (10 ∷ []) (line-feed (printed_after o.choices)))))
    os)

-- ---- as lines, where nothing is decided

met-flat : (limit count : List ℕ)
    → (codes "Unfinished states=" ++ line limit) ++ ((codes "Met " ++ line count) ++ [])
    ≡ ((codes "Unfinished states=" ++ limit) ++ 10 ∷ (codes "Met " ++ count)) ++ 10 ∷ []
met-flat limit count = simp append_assoc

-- a last line that is no verdict, and no line `True`
record StatesEnd (text : List ℕ) : Type 0 where
  line_is : List ℕ
  last : LastLine line_is text
  no_verdict : (word : List ℕ) → codes "Verdict " ++ word ≡ line_is → ⊥
  no_numbers : (numbers : List ℕ) → codes "True" ++ numbers ≡ line_is → ⊥

abbrev states_text : Litmus → List Named → ℕ → List Outcome → List ℕ
states_text t names limit outcomes = unfinished_outcomes_line limit ++ (met_line (length outcomes) ++ outcome_lines t names outcomes)

states-end : (t : Litmus) (names : List Named) (limit : ℕ) (outcomes : List Outcome) → StatesEnd (states_text t names limit outcomes)
states-end t names limit [] = record {
  line_is = codes "Met " ++ decimal 0;
  last = record {
    front = codes "Unfinished states=" ++ decimal limit;
    text_is = met-flat (decimal limit) (decimal 0);
    plain = both-other 10 (codes "Met ") (decimal 0) refl (number-in-line 0);
  };
  no_verdict = λ word. unlike 0 (codes "Verdict " ++ word) (codes "Met " ++ decimal 0) refl;
  no_numbers = λ numbers. unlike 0 (codes "True" ++ numbers) (codes "Met " ++ decimal 0) refl;
}
states-end t names limit (o ∷ os) =
    let first = unfinished_outcomes_line limit in
    let second = met_line (length (o ∷ os)) in
    let e = ends-in-by t names (first ++ second) o os in
    record {
      line_is = codes "By" ++ printed_after e.choices;
      last = subst (LastLine (codes "By" ++ printed_after e.choices)) (append_assoc first second (outcome_lines t names (o ∷ os))) e.last;
      no_verdict = λ word. unlike 0 (codes "Verdict " ++ word) (codes "By" ++ printed_after e.choices) refl;
      no_numbers = λ numbers. unlike 0 (codes "True" ++ numbers) (codes "By" ++ printed_after e.choices) refl;
    }

no-verdict-undecided : (t : Litmus) (names : List Named) (limit : ℕ) (outcomes : List Outcome) (verdict : Bool)
    → LastLine (codes "Verdict " ++ verdict_word verdict)
    (unfinished_outcomes_line limit ++ (met_line (length outcomes) ++ (outcome_lines t names outcomes ++ [])))
    → ⊥
no-verdict-undecided t names limit outcomes verdict p =
    let e = states-end t names limit outcomes in
    let text = ap (λ (l : List ℕ). unfinished_outcomes_line limit ++ (met_line (length outcomes) ++ l)) (append-nil (outcome_lines t names outcomes)) in
    e.no_verdict (verdict_word verdict) (last-is-one _ _ _ (subst (LastLine (codes "Verdict " ++ verdict_word verdict)) text p) e.last)

-- ---- in either form

abbrev MetIs : Litmus → List Outcome → Bool → Type 0
MetIs t outcomes met = is_met_in t.condition outcomes ≡ met

-- where nothing is decided there is no verdict
pub none-undecided : (json verdict : Bool) (t : Litmus) (names : List Named) (limit : ℕ) (outcomes : List Outcome) → MetIs t outcomes false
    → EndsIn (verdict_tail json verdict) (unfinished_search_in json t names limit outcomes) → ⊥
none-undecided false verdict t names limit outcomes unmet e =
    no-verdict-undecided t names limit outcomes verdict
    (subst (λ met.
    LastLine (codes "Verdict " ++ verdict_word verdict)
    (unfinished_outcomes_line limit
    ++ (met_line (length outcomes) ++ (outcome_lines t names outcomes ++ decided_line t.condition met))))
    unmet (verdict-last verdict _ e))
none-undecided true verdict t names limit outcomes unmet e =
    no-verdict-null verdict (met_json t names limit outcomes)
    (object-ends-undecided (met_value t names limit outcomes) (ap (λ met. member (codes "verdict") (decided_value t.condition met) no_members) unmet)) e

-- and where a state decides it, it is the last line, or the last member
pub met-ends : (json : Bool) (t : Litmus) (names : List Named) (condition : Condition) (limit : ℕ)
    (outcomes : List Outcome)
    → t.condition ≡ Some condition
    → MetIs t outcomes true
    → EndsIn (verdict_tail json (is_well condition.quantifier true)) (unfinished_search_in json t names limit outcomes)
met-ends false t names condition limit outcomes is met =
    let claimed = is_well condition.quantifier true in
    let tail = verdict_tail false claimed in
    let second = met_line (length outcomes) in
    let states = outcome_lines t names outcomes in
    let last = codes "Verdict " ++ line (verdict_word claimed) in
    let decided : decided_line t.condition (is_met_in t.condition outcomes) ≡ last = ap (decided_line t.condition) met ∙ ap (λ c. decided_line c true) is in
    let first : EndsIn (10 ∷ []) second = behind (codes "Met ") _ (10 ∷ []) (line-feed (decimal (length outcomes))) in
    behind (unfinished_outcomes_line limit) _ tail
    (subst (λ (l : List ℕ). EndsIn tail (second ++ (states ++ l))) (sym decided)
    (subst (EndsIn tail) (append_assoc second states last) (behind-feed (second ++ states) claimed (feeds t names second first outcomes))))
met-ends true t names condition limit outcomes is met =
    object-ends (is_well condition.quantifier true) (met_value t names limit outcomes)
    (ap (λ b. member (codes "verdict") (decided_value t.condition b) no_members) met ∙ ap (λ c. member (codes "verdict") (decided_value c true) no_members) is)

-- ---- no line `True` comes before a verdict

pub numbers-in-line : (numbers : List ℕ) → list_all (is_other 10) (printed_numbers numbers) ≡ true
numbers-in-line [] = refl
numbers-in-line (n ∷ ns) = both-other 10 (codes " " ++ decimal n) (printed_numbers ns) (number-in-line n) (numbers-in-line ns)

-- where it is said what a text ends in
pub said-flat : (front word held failed numbers verdict : List ℕ)
    → front
    ++ (codes " "
    ++ (word
    ++ (codes " "
    ++ (held
    ++ (codes " " ++ (line failed ++ (codes "True" ++ (line numbers ++ (codes "Verdict " ++ line verdict)))))))))
    ≡ (((front ++ (codes " " ++ (word ++ (codes " " ++ (held ++ (codes " " ++ failed))))))
    ++ 10 ∷ (codes "True" ++ numbers)) ++ 10 ∷ (codes "Verdict " ++ verdict)) ++ 10 ∷ []
said-flat front word held failed numbers verdict = simp append_assoc

said-lines : (word text : List ℕ) (says : EndsInWord word text)
    → TwoLines (codes "True" ++ printed_numbers says.numbers) (codes "Verdict " ++ verdict_word says.as_claimed) text
said-lines word text says = record {
  front = says.front ++ (codes " " ++ (word ++ (codes " " ++ (decimal says.held ++ (codes " " ++ decimal says.failed)))));
  text_is = says.text ∙ said-flat says.front word (decimal says.held) (decimal says.failed) (printed_numbers says.numbers) (verdict_word says.as_claimed);
  plain_before = both-other 10 (codes "True") (printed_numbers says.numbers) refl (numbers-in-line says.numbers);
  plain_last = verdict-in-line says.as_claimed;
}

last-of-two : (before last text : List ℕ) → TwoLines before last text → LastLine last text
last-of-two before last text p = record { front = p.front ++ 10 ∷ before; text_is = p.text_is; plain = p.plain_last }

further-flat : (front line_is word : List ℕ)
    → ((front ++ 10 ∷ line_is) ++ 10 ∷ []) ++ (codes "Verdict " ++ line word)
    ≡ ((front ++ 10 ∷ line_is) ++ 10 ∷ (codes "Verdict " ++ word)) ++ 10 ∷ []
further-flat front line_is word = simp append_assoc

three-further : (a b c d : List ℕ) → a ++ (b ++ (c ++ d)) ≡ (a ++ (b ++ c)) ++ d
three-further a b c d = simp append_assoc

decided-lines : (t : Litmus) (names : List Named) (limit : ℕ) (outcomes : List Outcome) (verdict : Bool)
    → TwoLines (states-end t names limit outcomes).line_is (codes "Verdict " ++ verdict_word verdict)
    (unfinished_outcomes_line limit ++ (met_line (length outcomes) ++ (outcome_lines t names outcomes ++ (codes "Verdict " ++ line (verdict_word verdict)))))
decided-lines t names limit outcomes verdict =
    let e = states-end t names limit outcomes in
    let last = codes "Verdict " ++ line (verdict_word verdict) in
    record {
      front = e.last.front;
      text_is = three-further (unfinished_outcomes_line limit) (met_line (length outcomes)) (outcome_lines t names outcomes) last
          ∙ (ap (λ (l : List ℕ). l ++ last) e.last.text_is ∙ further-flat e.last.front e.line_is (verdict_word verdict));
      plain_before = e.last.plain;
      plain_last = verdict-in-line verdict;
    }

abbrev text_with : Litmus → List Named → ℕ → List Outcome → List ℕ → List ℕ
text_with t names limit outcomes last = unfinished_outcomes_line limit ++ (met_line (length outcomes) ++ (outcome_lines t names outcomes ++ last))

-- so the text has no word of counts
pub no-word : (t : Litmus) (names : List Named) (condition : Condition) (limit : ℕ) (outcomes : List Outcome) (word : List ℕ) → t.condition ≡ Some condition
    → EndsInWord word (met_text t names limit outcomes) → ⊥
no-word t names condition limit outcomes word is says = by (is_met_in t.condition outcomes) (said-lines word (met_text t names limit outcomes) says)
  where
    e : StatesEnd (states_text t names limit outcomes)
    e = states-end t names limit outcomes

    by : (met : Bool)
        → TwoLines (codes "True" ++ printed_numbers says.numbers) (codes "Verdict " ++ verdict_word says.as_claimed)
        (text_with t names limit outcomes (decided_line t.condition met))
        → ⊥
    by false p = no-verdict-undecided t names limit outcomes says.as_claimed (last-of-two _ _ _ p)
    by true p =
        e.no_numbers (printed_numbers says.numbers)
        (before-is-one _ _ _ _ _ (subst (λ c.
        TwoLines (codes "True" ++ printed_numbers says.numbers) (codes "Verdict " ++ verdict_word says.as_claimed)
        (text_with t names limit outcomes (decided_line c true)))
        is p)
        (decided-lines t names limit outcomes (is_well condition.quantifier true)))
