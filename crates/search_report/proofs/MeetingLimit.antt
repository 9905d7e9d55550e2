-- What is printed of a search that met its limit.
use Rattle.search_report.proofs.Vocabulary.{◌≡◌, ◌∙◌, ℕ, Bool, true, false, List, [], ◌++◌, length, All, refl, sym, ap, subst, values_of}
use Rattle.search_report.proofs.Vocabulary.{Option, has_float, Litmus, Condition, FinalState, Named, Outcome, outcome_of, is_met_in}
use Rattle.search_report.proofs.Vocabulary.{outcome_lines, kept_lines, states_value, IsOutcomeOf, kept_of, kept_after, AreShown}
use Rattle.tso_report.proofs.NoFloats.{neither}
use Rattle.search_report.specs.MetOutcomes.{unfinished_outcomes_line, met_line, decided_line, decided_value, met_text, met_value}
use Rattle.search_report.specs.MetOutcomes.{unfinished_search_in, PrintsMet}
use Rattle.search_report.proofs.Keeping.{kept-printed}
use Rattle.search_report.proofs.NoFloatsInOutcomes.{states, verdict}
use Rattle.search_report.proofs.Truths.{Entries, as-many}
use Rattle.search_report.proofs.Writing.{four-parts, lines-shown}

-- ---- the text, put together from its parts

pub met-whole : (t : Litmus) (names : List Named) (limit n : ℕ) (met : Bool) (es : Entries)
    (empty first second third all : List ℕ)
    → AreShown t names (kept_of es)
    → met ≡ is_met_in t.condition (values_of (kept_of es)) → n ≡ length es → empty ≡ []
    → first ≡ empty ++ unfinished_outcomes_line limit → second ≡ first ++ met_line n → third ≡ second ++ kept_lines t names (kept_of es)
    → all ≡ third ++ decided_line t.condition met → all ≡ met_text t names limit (values_of (kept_of es))
met-whole t names limit n met es empty first second third all shown is_met many none is_first is_second is_third is =
    four-parts (unfinished_outcomes_line limit) (met_line (length (values_of (kept_of es)))) (outcome_lines t names (values_of (kept_of es)))
    (decided_line t.condition (is_met_in t.condition (values_of (kept_of es)))) first second third all
    (is_first ∙ ap (λ x. x ++ unfinished_outcomes_line limit) none)
    (is_second ∙ ap (λ k. first ++ met_line k) (many ∙ sym (as-many es)))
    (is_third ∙ ap (λ x. second ++ x) (lines-shown t names (kept_of es) shown))
    (is ∙ ap (λ m. third ++ decided_line t.condition m) is_met)

-- ---- the value

decided-has-none : (o : Option Condition) (met : Bool) → has_float (decided_value o met) ≡ false
decided-has-none o true = verdict o true
decided-has-none o false = refl

pub met-has-no-float : (t : Litmus) (names : List Named) (limit : ℕ) (outcomes : List Outcome) → has_float (met_value t names limit outcomes) ≡ false
met-has-no-float t names limit outcomes =
    neither (has_float (states_value t names outcomes)) _ (states t names outcomes)
    (neither (has_float (decided_value t.condition (is_met_in t.condition outcomes))) false
    (decided-has-none t.condition (is_met_in t.condition outcomes)) refl)

-- ---- what was printed are these final states

pub kept-met : (t : Litmus) (shown names : List Named) (limit : ℕ) (json met : Bool) (finals : List FinalState) (kept : List (List ℕ × Outcome)) (out : List ℕ)
    → All (λ f. IsOutcomeOf t (outcome_of f)) finals
    → names ≡ shown
    → kept ≡ kept_after names [] finals
    → out ≡ unfinished_search_in json t names limit (values_of kept)
    → met ≡ is_met_in t.condition (values_of kept) → PrintsMet t shown limit json finals out met
kept-met t shown names limit json met finals kept out whole same is printed found =
    subst (λ n. PrintsMet t n limit json finals out met) same (record {
      outcomes = values_of (kept_after names [] finals);
      printed = kept-printed t names finals whole;
      text = printed ∙ ap (λ k. unfinished_search_in json t names limit (values_of k)) is;
      met = found ∙ ap (λ k. is_met_in t.condition (values_of k)) is;
    })
