-- The verdict that is at the end of what `outcomes` and `why` print.
use Rattle.printed_laws.proofs.Vocabulary.{◌≡◌, ℕ, Bool, true, false, List, [], ◌∷◌, ◌++◌, refl, sym, ap, subst, length, Some, decimal}
use Rattle.printed_laws.proofs.Vocabulary.{append_assoc, no_members, member, codes, line, test_line, Litmus}
use Rattle.printed_laws.proofs.Vocabulary.{Condition, Named, frequency, Outcome, outcomes_line, outcome_lines, condition_lines}
use Rattle.printed_laws.proofs.Vocabulary.{held_in, failed_in, true_in, is_met_in, printed_numbers, observation_line, true_line}
use Rattle.printed_laws.proofs.Vocabulary.{verdict_word, is_well, outcomes_verdict_value, verdict_line, EndsInNumbers, outcomes_in}
use Rattle.printed_laws.proofs.Vocabulary.{outcomes_value}
use Rattle.printed_laws.proofs.texts.Endings.{EndsIn, behind, with-more, verdict_tail, object-ends}

-- ---- a verdict behind a line

pub behind-feed : (text : List ℕ) (verdict : Bool)
    → EndsIn (10 ∷ []) text
    → EndsIn (verdict_tail false verdict) (text ++ (codes "Verdict " ++ line (verdict_word verdict)))
behind-feed text verdict e = with-more text (10 ∷ []) (codes "Verdict " ++ line (verdict_word verdict)) e

-- ---- of `outcomes`

-- the two last lines behind all that comes before
two-flat : (test first states name seen numbers verdict : List ℕ)
    → test ++ (first ++ (states ++ ((codes "Observation " ++ (name ++ line seen)) ++ ((codes "True" ++ line numbers) ++ verdict))))
    ≡ (test ++ (first ++ (states ++ (codes "Observation " ++ (name ++ seen))))) ++ (10 ∷ (codes "True" ++ (line numbers ++ verdict)))
two-flat test first states name seen numbers verdict = simp append_assoc

numbers-line : (t : Litmus) (names : List Named) (condition : Condition) (depth : ℕ) (outcomes : List Outcome)
    → EndsInNumbers (true_in condition.claim outcomes)
    (test_line t ++ (outcomes_line depth (length outcomes) ++ (outcome_lines t names outcomes ++ condition_lines t.name (Some condition) outcomes)))
numbers-line t names condition depth outcomes =
    let h = held_in condition.claim outcomes in
    let f = failed_in condition.claim outcomes in
    let claimed = is_well condition.quantifier (is_met_in (Some condition) outcomes) in
    let seen = codes " " ++ (frequency h f ++ (codes " " ++ (decimal h ++ (codes " " ++ decimal f)))) in
    record {
      front = test_line t ++ (outcomes_line depth (length outcomes) ++ (outcome_lines t names outcomes ++ (codes "Observation " ++ (t.name ++ seen))));
      as_claimed = claimed;
      text =
          two-flat (test_line t) (outcomes_line depth (length outcomes)) (outcome_lines t names outcomes) t.name seen
          (printed_numbers (true_in condition.claim outcomes))
          (codes "Verdict " ++ line (verdict_word claimed));
    }

pub numbers-end : (t : Litmus) (names : List Named) (condition : Condition) (depth : ℕ) (outcomes : List Outcome) → t.condition ≡ Some condition
    → EndsInNumbers (true_in condition.claim outcomes) (outcomes_in false t names depth outcomes)
numbers-end t names condition depth outcomes is =
    subst (λ c.
    EndsInNumbers (true_in condition.claim outcomes)
    (test_line t
    ++ (outcomes_line depth (length outcomes)
    ++ (outcome_lines t names outcomes ++ condition_lines t.name c outcomes))))
    (sym is) (numbers-line t names condition depth outcomes)

pub outcomes-end : (json : Bool) (t : Litmus) (names : List Named) (condition : Condition) (depth : ℕ) (outcomes : List Outcome) → t.condition ≡ Some condition
    → EndsIn (verdict_tail json (is_well condition.quantifier (is_met_in (Some condition) outcomes))) (outcomes_in json t names depth outcomes)
outcomes-end false t names condition depth outcomes is =
    let claimed = is_well condition.quantifier (is_met_in (Some condition) outcomes) in
    let tail = verdict_tail false claimed in
    let numbers = printed_numbers (true_in condition.claim outcomes) in
    let last : EndsIn tail (true_line (Some condition) outcomes ++ verdict_line (Some condition) (is_met_in (Some condition) outcomes)) =
    behind-feed (codes "True" ++ line numbers) claimed (codes "True" ++ numbers, sym (append_assoc (codes "True") numbers (10 ∷ []))) in
    let said = subst (λ c. EndsIn tail (condition_lines t.name c outcomes)) (sym is) (behind (observation_line t.name (Some condition) outcomes) _ tail last) in
    behind (test_line t) _ tail (behind (outcomes_line depth (length outcomes)) _ tail (behind (outcome_lines t names outcomes) _ tail said))
outcomes-end true t names condition depth outcomes is =
    object-ends
    (is_well condition.quantifier (is_met_in (Some condition) outcomes)) (outcomes_value t names depth outcomes)
    (ap (λ c. member (codes "verdict") (outcomes_verdict_value c (is_met_in c outcomes)) no_members) is)

-- an object in an object ends in two brackets
nested-flat : (front name key number : List ℕ)
    → line (front ++ (name ++ (key ++ ((number ++ codes "}") ++ codes "}"))))
    ≡ (front ++ (name ++ (key ++ number))) ++ codes "}}\n"
nested-flat front name key number = simp append_assoc

pub nested : (front name key number : List ℕ) → EndsIn (codes "}}\n") (line (front ++ (name ++ (key ++ ((number ++ codes "}") ++ codes "}")))))
nested front name key number = (front ++ (name ++ (key ++ number)), nested-flat front name key number)
