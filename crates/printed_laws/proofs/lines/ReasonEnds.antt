-- The verdict that is at the end of what `why` prints.
use Rattle.printed_laws.proofs.Vocabulary.{◌≡◌, ℕ, Bool, true, false, List, [], ◌∷◌, ◌++◌, refl, sym, ap, subst, Option, Some, decimal}
use Rattle.printed_laws.proofs.Vocabulary.{flat_map, append_assoc, string, no_members, member, compact_text, codes, line}
use Rattle.printed_laws.proofs.Vocabulary.{printed_quantifier, printed_truth, test_line, Litmus, Condition, looked_at, printed_values}
use Rattle.printed_laws.proofs.Vocabulary.{escape_byte, Choice, by_line, state_line, is_well, outcomes_verdict_value, verdict_line}
use Rattle.printed_laws.proofs.Vocabulary.{Candidate, asked_claim, Model, model_name, truth_asked, asked_line, never_line, blanks}
use Rattle.printed_laws.proofs.Vocabulary.{from_line, reads_of, coherence_lines, values_left, allowed_value, unfinished_reason_json}
use Rattle.lemma_refutations.specs.Refutations.{Lemma, Node}
use Rattle.search_report.specs.PrintedReasons.{allowed_in, unfinished_cases_in}
use Rattle.search_report.specs.RefutationReports.{refutation_in}
use Rattle.search_report.specs.ShownText.{closing_text, facts_text}
use Rattle.search_report.specs.Lines.{Line, Given, Never, Case, So, Leaf, Endcases, refutation_lines, leaves_in}
use Rattle.search_report.specs.LineText.{case_text, line_text}
use Rattle.search_report.specs.LineJson.{never_value_of}
use Rattle.printed_laws.proofs.texts.Digits.{both-other, number-in-line}
use Rattle.printed_laws.proofs.texts.Endings.{EndsIn, behind, all-feeds, line-feed, verdict_tail, no-verdict-line, no-verdict-member, object-ends}
use Rattle.printed_laws.proofs.states.LastLines.{behind-feed, nested}

-- ---- lines

feeds : (front text : List ℕ) → EndsIn (10 ∷ []) (front ++ line text)
feeds front text = behind front (line text) (10 ∷ []) (line-feed text)

each-feeds : (t : Litmus) (l : Line) → EndsIn (10 ∷ []) (line_text t l)
each-feeds t (Given facts) = feeds (codes "Given ") (facts_text t facts)
each-feeds t (Never number facts) = behind (codes "Lemma ") _ (10 ∷ []) (behind (decimal number) _ (10 ∷ []) (feeds (codes " ") (facts_text t facts)))
each-feeds t (Case depth question answers closing) = behind (blanks depth) _ (10 ∷ []) (feeds (codes "Case ") (case_text t question answers closing))
each-feeds t (So depth question answers closing) = behind (blanks depth) _ (10 ∷ []) (feeds (codes "So ") (case_text t question answers closing))
each-feeds t (Leaf depth closing) = feeds (blanks depth) (closing_text t closing)
each-feeds t (Endcases depth) = feeds (blanks depth) (codes "Endcases")

asked-feeds : (c : Option Condition) (condition : Condition) → c ≡ Some condition → EndsIn (10 ∷ []) (asked_line c)
asked-feeds c condition is =
    subst (λ o. EndsIn (10 ∷ []) (asked_line o)) (sym is)
    (behind (codes "Asked ") _ (10 ∷ [])
    (behind (printed_quantifier condition.quantifier) _ (10 ∷ []) (feeds (codes " ") (printed_truth (truth_asked condition.quantifier)))))

-- lines that end in a line feed, and the verdict behind them
verdict-behind : (c : Option Condition) (condition : Condition) (truth : Bool) (text : List ℕ) → c ≡ Some condition → EndsIn (10 ∷ []) text
    → EndsIn (verdict_tail false (is_well condition.quantifier truth)) (text ++ verdict_line c truth)
verdict-behind c condition truth text is feed =
    subst
    (λ o. EndsIn (verdict_tail false (is_well condition.quantifier truth)) (text ++ verdict_line o truth)) (sym is)
    (behind-feed text (is_well condition.quantifier truth) feed)

-- ---- either form

pub refutation-end : (json : Bool) (model : Model) (t : Litmus) (condition : Condition) (lemmas : List Lemma) (tree : List Node) → t.condition ≡ Some condition
    → EndsIn (verdict_tail json (is_well condition.quantifier false)) (refutation_in json model t lemmas tree)
refutation-end false model t condition lemmas tree is =
    let ls = refutation_lines model t (asked_claim t.condition) lemmas tree in
    let tail = verdict_tail false (is_well condition.quantifier false) in
    let lines = asked_line t.condition ++ flat_map (line_text t) ls in
    let lines_feed = all-feeds (line_text t) (each-feeds t) (asked_line t.condition) (asked-feeds t.condition condition is) ls in
    let last =
    subst (EndsIn tail)
    (append_assoc (asked_line t.condition) (flat_map (line_text t) ls) (verdict_line t.condition false))
    (verdict-behind t.condition condition false lines is lines_feed) in
    behind (test_line t) _ tail (behind (never_line model (leaves_in ls)) _ tail last)
refutation-end true model t condition lemmas tree is =
    object-ends (is_well condition.quantifier false)
    (never_value_of model t (refutation_lines model t (asked_claim t.condition) lemmas tree))
    (ap (λ c. member (codes "verdict") (outcomes_verdict_value c false) no_members) is)

pub execution-end : (json : Bool) (model : Model) (t : Litmus) (condition : Condition) (c : Candidate) (choices : List Choice) → t.condition ≡ Some condition
    → EndsIn (verdict_tail json (is_well condition.quantifier true)) (allowed_in json model t c choices)
execution-end false model t condition c choices is =
    let tail = verdict_tail false (is_well condition.quantifier true) in
    let last =
    verdict-behind t.condition condition true (state_line t (looked_at t) (values_left t c)) is
    (feeds (codes "State") (printed_values t (looked_at t) (values_left t c))) in
    behind (test_line t) _ tail (behind (codes "Allowed ") _ tail (behind (line (model_name model)) _ tail (behind (asked_line t.condition) _ tail
    (behind (flat_map (from_line t c) (reads_of t c)) _ tail (behind (coherence_lines t c 0 t.locations) _ tail (behind (by_line choices) _ tail last))))))
execution-end true model t condition c choices is =
    object-ends (is_well condition.quantifier true) (allowed_value model t c choices)
    (ap (λ o. member (codes "verdict") (outcomes_verdict_value o true) no_members) is)

-- a search that met its limit prints none
unfinished-text : (t : Litmus) (limit : ℕ)
    → unfinished_reason_json t limit
    ≡ line (codes "{\"test\":"
    ++ (compact_text (string t.name)
    ++ (codes ",\"unfinished\":" ++ (((codes "{\"cases\":" ++ decimal limit) ++ codes "}") ++ codes "}"))))
unfolding escape_byte
unfinished-text t limit = refl

pub none-unfinished : (json verdict : Bool) (t : Litmus) (limit : ℕ) → EndsIn (verdict_tail json verdict) (unfinished_cases_in json t limit) → ⊥
none-unfinished false verdict t limit e =
    no-verdict-line verdict (codes "Unfinished cases=" ++ decimal limit)
    (both-other 10 (codes "Unfinished cases=") (decimal limit) refl (number-in-line limit)) e
none-unfinished true verdict t limit e =
    no-verdict-member verdict (unfinished_reason_json t limit)
    (subst (EndsIn (codes "}}\n")) (sym (unfinished-text t limit))
    (nested (codes "{\"test\":") (compact_text (string t.name)) (codes ",\"unfinished\":") (codes "{\"cases\":" ++ decimal limit)))
    e
