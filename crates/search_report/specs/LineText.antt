-- What `why` prints of a refutation as lines of text.
use Rattle.std.specs.Prelude.{ℕ, false, Option, Some, None, List, [], ◌∷◌, ◌++◌, codes}
use Rattle.std.specs.List.{flat_map}
use Rattle.std.specs.Fmt.{decimal}
use Rattle.search_report.specs.Vocabulary.{asked_claim, line, Litmus, Model, test_line, verdict_line}
use Rattle.lemma_refutations.specs.Refutations.{Node, Lemma}
use Rattle.search_report.specs.ReasonText.{asked_line, blanks, never_line}
use Rattle.search_report.specs.Shown.{ShownFact, Closing}
use Rattle.search_report.specs.ShownText.{closing_text, facts_text, separated}
use Rattle.search_report.specs.Lines.{Line, Given, Never, Case, So, Leaf, Endcases, refutation_lines, leaves_in}

-- what closes the answers of a line, if it does
abbrev pub closed_text : Litmus → Option Closing → List ℕ
closed_text t None = []
closed_text t (Some closing) = codes ": " ++ closing_text t closing

-- the word of a question, if it has one
abbrev pub question_text : List ℕ → List ℕ
question_text [] = []
question_text (c ∷ cs) = (c ∷ cs) ++ codes " "

-- `P0:1 R x=0 from initial`, `part 0:EAX=0 or x=1: By lemma 1`
abbrev pub case_text : Litmus → List ℕ → List (List ShownFact) → Option Closing → List ℕ
case_text t question answers closing = question_text question ++ (separated (codes " or ") (facts_text t) answers ++ closed_text t closing)

abbrev pub line_text : Litmus → Line → List ℕ
line_text t (Given facts) = codes "Given " ++ line (facts_text t facts)
line_text t (Never number facts) = codes "Lemma " ++ (decimal number ++ (codes " " ++ line (facts_text t facts)))
line_text t (Case depth question answers closing) = blanks depth ++ (codes "Case " ++ line (case_text t question answers closing))
line_text t (So depth question answers closing) = blanks depth ++ (codes "So " ++ line (case_text t question answers closing))
line_text t (Leaf depth closing) = blanks depth ++ line (closing_text t closing)
line_text t (Endcases depth) = blanks depth ++ line (codes "Endcases")

abbrev pub never_lines : Model → Litmus → List Line → List ℕ
never_lines model t lines =
    test_line t ++ (never_line model (leaves_in lines) ++ (asked_line t.condition ++ (flat_map (line_text t) lines
    ++ verdict_line t.condition false)))

-- the text of a refutation of what the test asks
abbrev pub never_text : Model → Litmus → List Lemma → List Node → List ℕ
never_text model t lemmas tree = never_lines model t (refutation_lines model t (asked_claim t.condition) lemmas tree)
