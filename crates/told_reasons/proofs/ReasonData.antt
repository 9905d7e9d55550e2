-- As JSON data the value of each line is what is printed of the line today.
use Rattle.std.proofs.Common.{◌≡◌, ℕ, List, [], ◌∷◌, map, refl, sym, ap, Option, Some, None, IfSome}
use Rattle.std.specs.Prelude.{codes}
use Rattle.tso_terms.specs.Litmus.{Litmus}
use Rattle.tso_report.specs.Json.{count}
use Rattle.serde_json.specs.Data.{Data, array, member, no_members, object, put, string}
use Rattle.serde_json.specs.View.{items_of}
use Rattle.search_report.specs.OutcomesJson.{key_of}
use Rattle.search_report.specs.declared.shown.Edge.{Edge}
use Rattle.search_report.specs.Places.{Place}
use Rattle.search_report.specs.ReasonText.{event_text, relation_text}
use Rattle.search_report.specs.ReasonJson.{edge_value, place_members}
use Rattle.search_report.specs.Shown.{ShownFact, Closing, Uniproc, Cycle, Amid, False, NoAnswer, ByLemma}
use Rattle.search_report.specs.ShownText.{fact_text}
use Rattle.search_report.specs.Lines.{Line, Given, Never, Case, So, Leaf, Endcases}
use Rattle.search_report.specs.LineJson.{case_value, closed_value, closing_value, facts_value, line_value}
use Rattle.formats.specs.Formats.{Format, Number, Spelled, Value}
use Rattle.formats.specs.JsonData.{all_add, data_of, json, chain_steps}
use Rattle.told_reasons.specs.ReasonFormats.{closed_format, closing_format, fact_format, facts_format, hop_format, line_format, place_format}
use Rattle.told_reasons.specs.ReasonFormats.{question_format, values_format}
use Rattle.told_reasons.specs.ShownLines.{AreSteps, ClosingIsChained, LineIsChained, shown_closed, shown_closing, shown_line, shown_place}
use Rattle.told_reasons.specs.ShownLines.{shown_question, values_told}

each-data : {X : Type 0} (f : Format) (g : X → Value f) (d : X → Data) → ((x : X) → data_of f (g x) ≡ d x) → (xs : List X)
    → map (λ j. j.value) (map (json f) (map g xs)) ≡ map d xs
each-data f g d each [] = refl
each-data f g d each (x ∷ xs) = λ i. each x i ∷ each-data f g d each xs i

numbers-data : (ns : List ℕ) → map (λ j. j.value) (map (json Number) ns) ≡ map count ns
numbers-data [] = refl
numbers-data (n ∷ ns) = ap (λ (l : List Data). count n ∷ l) (numbers-data ns)

values-data : (vs : List ℕ) → data_of values_format (values_told vs) ≡ array (items_of (map count vs))
values-data [] = refl
values-data (v ∷ vs) = ap (λ (l : List Data). array (items_of l)) (numbers-data (v ∷ vs))

module _ (t : Litmus) where
  facts-data : (fs : List ShownFact) → data_of facts_format (map (fact_text t) fs) ≡ facts_value t fs
  facts-data fs = λ i. array (items_of (each-data (Spelled fact_format) (fact_text t) (λ f. string (fact_text t f)) (λ f. refl) fs i))

  steps-data : (thing : Data) (e : Edge) (es : List Edge) → thing ≡ string (event_text t e.source) → AreSteps t e es
      → chain_steps (codes "from") (codes "relation") (codes "to") thing
      (map (λ j. (j.first, j.second)) (map (json hop_format) (map (λ d. (relation_text d.relation, event_text t d.target)) (e ∷ es))))
      ≡ map (edge_value t) (e ∷ es)
  steps-data thing e [] same all = λ i.
      object (member (codes "from") (same i)
      (member (codes "relation") (string (relation_text e.relation)) (member (codes "to") (string (event_text t e.target)) no_members)))
      ∷ []
  steps-data thing e (d ∷ ds) same all =
      let more = steps-data (string (event_text t e.target)) d ds (ap string (sym all.0)) all.1 in
      λ i.
      object (member (codes "from") (same i)
      (member (codes "relation") (string (relation_text e.relation)) (member (codes "to") (string (event_text t e.target)) no_members)))
      ∷ more i

  places-data : (places : List Place) → all_add (map (json place_format) (map (shown_place t) places)) no_members ≡ place_members t places
  places-data [] = refl
  places-data (p ∷ ps) = λ i. put (key_of t p.named) (values-data p.values i) (places-data ps i)

  closing-data : (c : Closing) → ClosingIsChained t c → data_of closing_format (shown_closing t c) ≡ closing_value t c
  closing-data (Uniproc []) all = refl
  closing-data (Uniproc (e ∷ es)) all =
      λ i.
      object
      (member (codes "cycle") (array (items_of (steps-data (string (event_text t e.source)) e es refl all i)))
      (member (codes "step") (string (codes "uniproc")) no_members))
  closing-data (Cycle []) all = refl
  closing-data (Cycle (e ∷ es)) all =
      λ i.
      object
      (member (codes "cycle") (array (items_of (steps-data (string (event_text t e.source)) e es refl all i)))
      (member (codes "step") (string (codes "cycle")) no_members))
  closing-data (Amid r v w) all = refl
  closing-data (False places) all = λ i.
      object (member (codes "places") (object (places-data places i)) (member (codes "step") (string (codes "false")) no_members))
  closing-data (NoAnswer kind subject) all = refl
  closing-data (ByLemma number) all = refl

  closed-data : (c : Option Closing) → IfSome c (ClosingIsChained t) → data_of closed_format (shown_closed t c) ≡ closed_value t c
  closed-data None all = refl
  closed-data (Some c) all = closing-data c all

  question-data : (question : List ℕ) → data_of question_format (shown_question question) ≡ string question
  question-data [] = refl
  question-data (c ∷ cs) = refl

  answers-data : (answers : List (List ShownFact))
      → map (λ j. j.value) (map (json facts_format) (map (map (fact_text t)) answers)) ≡ map (facts_value t) answers
  answers-data answers = each-data facts_format (map (fact_text t)) (facts_value t) facts-data answers

  case-data : (step : List ℕ) (depth : ℕ) (question : List ℕ) (answers : List (List ShownFact)) (c : Option Closing) → IfSome c (ClosingIsChained t)
      → object (member (codes "answers") (array (items_of (map (λ j. j.value) (map (json facts_format) (map (map (fact_text t)) answers)))))
      (member (codes "closing") (data_of closed_format (shown_closed t c)) (member (codes "depth") (count depth)
      (member (codes "question") (data_of question_format (shown_question question)) (member (codes "step") (string step) no_members)))))
      ≡ case_value t step depth question answers c
  case-data step depth question answers c all =
      λ i. object (member (codes "answers") (array (items_of (answers-data answers i)))
      (member (codes "closing") (closed-data c all i) (member (codes "depth") (count depth)
      (member (codes "question") (question-data question i) (member (codes "step") (string step) no_members)))))

  pub line-data : (l : Line) → LineIsChained t l → data_of line_format (shown_line t l) ≡ line_value t l
  line-data (Given fs) all = λ i. object (member (codes "facts") (facts-data fs i) (member (codes "step") (string (codes "given")) no_members))
  line-data (Never n fs) all = λ i.
      object (member (codes "facts") (facts-data fs i) (member (codes "lemma") (count n) (member (codes "step") (string (codes "never")) no_members)))
  line-data (Case depth question answers c) all = case-data (codes "case") depth question answers c all
  line-data (So depth question answers c) all = case-data (codes "so") depth question answers c all
  line-data (Leaf depth c) all = λ i.
      object (member (codes "closing") (closing-data c all i)
      (member (codes "depth") (count depth) (member (codes "step") (string (codes "leaf")) no_members)))
  line-data (Endcases depth) all = refl
