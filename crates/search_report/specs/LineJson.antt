-- What `why` prints of a refutation as a JSON value, for programs to read. Its objects have their keys in the order of their bytes.
-- (This project's profile.)
use Rattle.std.specs.Prelude.{ℕ, false, List, map, Option, Some, None, codes}
use Rattle.search_report.specs.Vocabulary.{array, asked_claim, Data, items_of, line, Litmus, member, Model, no_members, null, object}
use Rattle.search_report.specs.Vocabulary.{outcomes_verdict_value, string}
use Rattle.serde_json.specs.Written.{compact_text}
use Rattle.tso_report.specs.Json.{count}
use Rattle.lemma_refutations.specs.Refutations.{Node, Lemma}
use Rattle.search_report.specs.ReasonText.{model_name}
use Rattle.search_report.specs.ReasonJson.{asked_value, edges_value, event_value, place_members}
use Rattle.search_report.specs.declared.shown.Edge.{Edge}
use Rattle.search_report.specs.Shown.{ShownFact, Closing, Uniproc, Cycle, Amid, False, NoAnswer, ByLemma}
use Rattle.search_report.specs.ShownText.{fact_text, subject_text}
use Rattle.search_report.specs.Lines.{Line, Given, Never, Case, So, Leaf, Endcases, refutation_lines, leaves_in}

-- ---- what is shown
abbrev pub facts_value : Litmus → List ShownFact → Data
facts_value t facts = array (items_of (map (λ f. string (fact_text t f)) facts))

abbrev pub cycle_closing : Litmus → List ℕ → List Edge → Data
cycle_closing t step edges = object (member (codes "cycle") (edges_value t edges) (member (codes "step") (string step) no_members))

abbrev pub closing_value : Litmus → Closing → Data
closing_value t (Uniproc edges) = cycle_closing t (codes "uniproc") edges
closing_value t (Cycle edges) = cycle_closing t (codes "cycle") edges
closing_value t (Amid r v w) =
    object (member (codes "between") (event_value t v)
    (member (codes "read") (event_value t r)
    (member (codes "step") (string (codes "between"))
    (member (codes "write") (event_value t w) no_members))))
closing_value t (False places) =
    object (member (codes "places") (object (place_members t places)) (member (codes "step") (string (codes "false")) no_members))
closing_value t (NoAnswer kind subject) =
    object (member (codes "of") (string (subject_text t subject))
    (member (codes "question") (string kind)
    (member (codes "step") (string (codes "none")) no_members)))
closing_value t (ByLemma number) =
    object (member (codes "lemma") (count number) (member (codes "step") (string (codes "lemma")) no_members))

-- `null` where the part follows
abbrev pub closed_value : Litmus → Option Closing → Data
closed_value t None = null
closed_value t (Some closing) = closing_value t closing

-- ---- lines

abbrev pub case_value : Litmus → List ℕ → ℕ → List ℕ → List (List ShownFact) → Option Closing → Data
case_value t step depth question answers closing =
    object (member (codes "answers") (array (items_of (map (facts_value t) answers)))
    (member (codes "closing") (closed_value t closing)
    (member (codes "depth") (count depth)
    (member (codes "question") (string question)
    (member (codes "step") (string step) no_members)))))

abbrev pub line_value : Litmus → Line → Data
line_value t (Given facts) = object (member (codes "facts") (facts_value t facts) (member (codes "step") (string (codes "given")) no_members))
line_value t (Never number facts) =
    object (member (codes "facts") (facts_value t facts)
    (member (codes "lemma") (count number)
    (member (codes "step") (string (codes "never")) no_members)))
line_value t (Case depth question answers closing) = case_value t (codes "case") depth question answers closing
line_value t (So depth question answers closing) = case_value t (codes "so") depth question answers closing
line_value t (Leaf depth closing) =
    object (member (codes "closing") (closing_value t closing)
    (member (codes "depth") (count depth)
    (member (codes "step") (string (codes "leaf")) no_members)))
line_value t (Endcases depth) =
    object (member (codes "depth") (count depth) (member (codes "step") (string (codes "endcases")) no_members))

-- ---- what can't be

abbrev pub never_value_of : Model → Litmus → List Line → Data
never_value_of model t lines =
    object (member (codes "answer") (string (codes "never"))
    (member (codes "asked") (asked_value t.condition)
    (member (codes "leaves") (count (leaves_in lines))
    (member (codes "model") (string (model_name model))
    (member (codes "steps") (array (items_of (map (line_value t) lines)))
    (member (codes "test") (string t.name)
    (member (codes "verdict") (outcomes_verdict_value t.condition false) no_members)))))))

abbrev pub never_json_line : Model → Litmus → List Line → List ℕ
never_json_line model t lines = line (compact_text (never_value_of model t lines))

-- a refutation of what the test asks, as one line
abbrev pub never_json : Model → Litmus → List Lemma → List Node → List ℕ
never_json model t lemmas tree = never_json_line model t (refutation_lines model t (asked_claim t.condition) lemmas tree)
